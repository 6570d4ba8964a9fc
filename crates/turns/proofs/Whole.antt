-- Machines that take each answer as a row says, after a whole list of answers.
use Rattle.std.proofs.Common.{ℕ, zero, suc, ◌+◌, ◌<◌, ◌≤◌, ◌≡◌, List, [], ◌∷◌, length, take, refl, arith, add-one, subst}
use Rattle.std.specs.Prelude.{slice_index}
use Rattle.turns.specs.Doing.{Doing, Act}
use Rattle.turns.specs.Stands.{step_told}
use Rattle.turns.specs.AfterAll.{doing_after}

-- behind the first answer the places are one less
pub behind_first : (a : ℕ) (more : List ℕ) (k : ℕ) → slice_index (a ∷ more) (k + 1) ≡ slice_index more k
behind_first a more k = rw add-one refl

-- where each next one of these is what the answer tells the one before, one is that after all answers before it
pub each_gives_all : {R : Type 0} (act : Act R) (doings : ℕ → Doing R) (k : ℕ) (answers : List ℕ) →
    ((j : ℕ) → j < length answers → doings (j + 1) ≡ (step_told act (doings j) (slice_index answers j)).doing) → k ≤ length answers →
    doings k ≡ doing_after act (doings 0) (take k answers)
each_gives_all act doings zero answers each inside = refl
each_gives_all act doings (suc k) [] each inside = absurd (omega (arith, inside))
each_gives_all {R = R} act doings (suc k) (a ∷ more) each inside =
    let first : doings 1 ≡ (step_told act (doings 0) a).doing = each 0 (omega arith) in
    let rest = each_gives_all act (λ j. doings (j + 1)) k more
    (λ j within. rw (← behind_first a more j) (each (j + 1) (omega (arith, within)))) (omega (arith, inside)) in
    let next : suc k ≡ k + 1 = omega arith in
    rw next (subst (λ (x : Doing R). doings (k + 1) ≡ doing_after act x (take k more)) first rest)
