-- A gate that takes each answer as its row says, after a whole list of answers.
use Rattle.std.proofs.Common.{ℕ, zero, suc, ◌+◌, ◌<◌, ◌≤◌, ◌≡◌, List, [], ◌∷◌, length, take, refl, arith, subst}
use Rattle.std.specs.Prelude.{slice_index, Option, None}
use Rattle.policy.specs.Outcome.{Outcome}
use Rattle.policy.specs.declared.answers.Reply.{Reply}
use Rattle.turns.specs.Doing.{Doing, Act}
use Rattle.turns.specs.Stands.{step_told}
use Rattle.turns.specs.AfterAll.{doing_after}
use Rattle.turns.proofs.Whole.{behind_first, each_gives_all}
use Rattle.gate_parts.specs.Replies.{reply_kept}
use Rattle.gate_parts.specs.WholeLists.{kept_from, FarAfterAll, KeptAfterAll}

-- likewise the replies kept
each_keeps_all : (act : Act Outcome) (doings : ℕ → Doing Outcome) (kept : ℕ → Option Reply) (k : ℕ) (given : List ℕ) →
    ((j : ℕ) → j < length given → doings (j + 1) ≡ (step_told act (doings j) (slice_index given j)).doing) →
    ((j : ℕ) → j < length given → kept (j + 1) ≡ reply_kept (step_told act (doings j) (slice_index given j)) (kept j)) → k ≤ length given →
    kept k ≡ kept_from act (doings 0) (kept 0) (take k given)
each_keeps_all act doings kept zero given each keeps inside = refl
each_keeps_all act doings kept (suc k) [] each keeps inside = absurd (omega (arith, inside))
each_keeps_all act doings kept (suc k) (a ∷ more) each keeps inside =
    let first : doings 1 ≡ (step_told act (doings 0) a).doing = each 0 (omega arith) in
    let held : kept 1 ≡ reply_kept (step_told act (doings 0) a) (kept 0) = keeps 0 (omega arith) in
    let rest = each_keeps_all act (λ j. doings (j + 1)) (λ j. kept (j + 1)) k more
    (λ j within. rw (← behind_first a more j) (each (j + 1) (omega (arith, within))))
    (λ j within. rw (← behind_first a more j) (keeps (j + 1) (omega (arith, within)))) (omega (arith, inside)) in
    let next : suc k ≡ k + 1 = omega arith in
    rw next (subst (λ (x : Doing Outcome). kept (k + 1) ≡ kept_from act x (reply_kept (step_told act (doings 0) a) (kept 0)) (take k more)) first
    (subst (λ (x : Option Reply). kept (k + 1) ≡ kept_from act (doings 1) x (take k more)) held rest))

pub far_after_all : FarAfterAll
far_after_all act given doing goes k inside =
    subst (λ (x : Doing Outcome). doing k ≡ doing_after act x (take k given)) goes.fresh (each_gives_all act doing k given goes.told inside)

pub kept_after_all : KeptAfterAll
kept_after_all act given doing kept goes keeps k inside =
    subst (λ (x : Doing Outcome). kept k ≡ kept_from act x None (take k given)) goes.fresh
    (subst (λ (x : Option Reply). kept k ≡ kept_from act (doing 0) x (take k given)) keeps.nothing (each_keeps_all act doing kept k given goes.told keeps.next inside))
