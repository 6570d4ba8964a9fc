use Rattle.std.proofs.Common.{◌≡◌, ◌≤◌, length}
use Rattle.processors.specs.Rounds.{TeamHasTaken}
use Rattle.processors.specs.Lists.{plan_of, banks_of, numbers_of}
use Rattle.processors.proofs.Turning.{Kept}
use Rattle.processors.proofs.running.rounds.Given as goal

-- what holds after so many rounds
pub record Going (A B C D E F : Type 0) : Type 0 where
  pub table : A
  pub team : B
  pub round : C
  pub kept : D
  pub most : E
  pub size : F

abbrev pub invariant-loop-taken : goal.invariant-loop-taken
invariant-loop-taken g l =
    Going (l.whole.table ≡ l.words.table) (TeamHasTaken l.shared l.words (plan_of l.initial.team.first) l.taken l.team) (l.whole.round ≡ l.taken)
    (Kept l.shared (plan_of l.initial.team.first) (banks_of l.initial.team) (numbers_of l.initial.team) l.initial.whole.lists l.taken l.team l.whole.lists) (l.taken ≤ l.rounds) (length l.into ≡ length l.words.words)
