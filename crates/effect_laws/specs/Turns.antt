-- How far the processes of a class are in turns of a guard, and which tickets they hold.
use Rattle.std.specs.Prelude.{ℕ, ◌+◌, ◌≡◌, Option, Some, None}
use Rattle.std.specs.List.{sum_by}
use Rattle.words_layout.specs.Words.{Guard}
use Rattle.turns.specs.Stage.{Stage, Outside, Begun, Waits, Has, stage}
use Rattle.process.specs.Running.{Running}
use Rattle.machine.specs.Machine.{ClassPart}

-- how far the process of a slot is in a turn of the guard
abbrev pub stage_of : Guard → Option Running → Stage
stage_of g None = Outside
stage_of g (Some r) = stage g r.doing

-- the ticket that a process holds
abbrev pub Held : Stage → ℕ → Type 0
Held (Waits u) t = u ≡ t
Held (Has u) t = u ≡ t
Held _ t = ⊥

-- one for a process that has begun a turn and has no ticket yet
abbrev pub one_between : Stage → ℕ
one_between Begun = 1
one_between _ = 0

-- one for a process that holds a ticket
abbrev pub one_holding : Stage → ℕ
one_holding (Waits t) = 1
one_holding (Has t) = 1
one_holding _ = 0

-- the sum over all slots of a class on its four processors
abbrev pub over_slots : (Option Running → ℕ) → ClassPart → ℕ
over_slots f part = sum_by f (part.vp 0).slots + (sum_by f (part.vp 1).slots + (sum_by f (part.vp 2).slots + sum_by f (part.vp 3).slots))

-- how many processes of the class are between the first two steps of a turn of the guard, and how many hold a ticket of it
abbrev pub between : Guard → ClassPart → ℕ
between g part = over_slots (λ o. one_between (stage_of g o)) part

abbrev pub holding : Guard → ClassPart → ℕ
holding g part = over_slots (λ o. one_holding (stage_of g o)) part
