-- The tally after a whole list of answers.
use Rattle.std.proofs.Common.{ℕ, zero, suc, ◌+◌, ◌<◌, ◌≤◌, ◌≡◌, List, [], ◌∷◌, length, take, refl, arith, subst}
use Rattle.std.specs.Prelude.{slice_index, Option}
use Rattle.policy.specs.Known.{Known}
use Rattle.policy.specs.Outcome.{Tally}
use Rattle.policy.specs.declared.rule.Rule.{Rule}
use Rattle.turns.proofs.Whole.{behind_first}
use Rattle.evc_gates.specs.Counting.{tally}
use Rattle.evc_gates.specs.Summing.{next_tally, tally_from, TallyAfterAll}

each_makes_all : (refusal : Option Rule) (classes : List ℕ) (known : Known) (wanted : ℕ) (tallies : ℕ → Tally) (k : ℕ) (given : List ℕ) →
    ((j : ℕ) → j < length given → tallies (j + 1) ≡ next_tally refusal classes known wanted (tallies j) (slice_index given j)) → k ≤ length given →
    tallies k ≡ tally_from refusal classes known wanted (tallies 0) (take k given)
each_makes_all refusal classes known wanted tallies zero given each inside = refl
each_makes_all refusal classes known wanted tallies (suc k) [] each inside = absurd (omega (arith, inside))
each_makes_all refusal classes known wanted tallies (suc k) (a ∷ more) each inside =
    let first : tallies 1 ≡ next_tally refusal classes known wanted (tallies 0) a = each 0 (omega arith) in
    let rest = each_makes_all refusal classes known wanted (λ j. tallies (j + 1)) k more
    (λ j within. rw (← behind_first a more j) (each (j + 1) (omega (arith, within)))) (omega (arith, inside)) in
    let next : suc k ≡ k + 1 = omega arith in
    rw next (subst (λ (x : Tally). tallies (k + 1) ≡ tally_from refusal classes known wanted x (take k more)) first rest)

pub tally_after_all : TallyAfterAll
tally_after_all refusal classes known wanted given tallies begins each k inside =
    subst (λ (x : Tally). tallies k ≡ tally_from refusal classes known wanted x (take k given)) begins
    (each_makes_all refusal classes known wanted tallies k given each inside)
