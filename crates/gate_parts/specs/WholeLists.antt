-- A gate over a whole list of answers: what the clauses of its calls, taken together, come to.
use Rattle.std.specs.Prelude.{ℕ, ◌+◌, ◌<◌, ◌≤◌, ◌≡◌, List, [], ◌∷◌, length, take, slice_index, Option, None}
use Rattle.policy.specs.Outcome.{Outcome}
use Rattle.policy.specs.declared.answers.Reply.{Reply}
use Rattle.turns.specs.Doing.{Doing, Fresh, Act}
use Rattle.turns.specs.Stands.{step_told}
use Rattle.turns.specs.AfterAll.{after_all}
use Rattle.gate_parts.specs.Replies.{reply_kept}

-- the reply that is kept after these answers, from there on
abbrev pub kept_from : Act Outcome → Doing Outcome → Option Reply → List ℕ → Option Reply
kept_from act doing kept [] = kept
kept_from act doing kept (answer ∷ more) =
    kept_from act (step_told act doing answer).doing (reply_kept (step_told act doing answer) kept) more

-- from the start on
abbrev pub kept_after : Act Outcome → List ℕ → Option Reply
kept_after act given = kept_from act Fresh None given

-- How far a gate is before each of these answers and behind the last, as the clauses of its calls say: it begins fresh, and
-- each answer brings it where it tells the act.
pub record Goes (act : Act Outcome) (given : List ℕ) (doing : ℕ → Doing Outcome) : Type 0 where
  pub fresh : doing 0 ≡ Fresh
  pub told : (k : ℕ) → k < length given → doing (k + 1) ≡ (step_told act (doing k) (slice_index given k)).doing

-- the reply that the gate keeps, likewise
pub record Keeps (act : Act Outcome) (given : List ℕ) (doing : ℕ → Doing Outcome) (kept : ℕ → Option Reply) : Type 0 where
  pub nothing : kept 0 ≡ None
  pub next : (k : ℕ) → k < length given → kept (k + 1) ≡ reply_kept (step_told act (doing k) (slice_index given k)) (kept k)

-- after any list of answers it is where these bring the act
abbrev pub FarAfterAll : Type 0
FarAfterAll = (act : Act Outcome) (given : List ℕ) (doing : ℕ → Doing Outcome) → Goes act given doing →
    (k : ℕ) → k ≤ length given → doing k ≡ after_all act (take k given)

-- and it keeps the reply that they let it keep
abbrev pub KeptAfterAll : Type 0
KeptAfterAll = (act : Act Outcome) (given : List ℕ) (doing : ℕ → Doing Outcome) (kept : ℕ → Option Reply) → Goes act given doing → Keeps act given doing kept →
    (k : ℕ) → k ≤ length given → kept k ≡ kept_after act (take k given)
