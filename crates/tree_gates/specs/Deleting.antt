-- What the code of delete stands for.
use Rattle.std.specs.Prelude.{ℕ}
use Rattle.policy.specs.Known.{Known}
use Rattle.policy.specs.Outcome.{Outcome}
use Rattle.turns.specs.Doing.{Doing, Act, ClassTurn}
use Rattle.gate_parts.specs.InTurns.{act_by, doing_by}
use Rattle.tree_gates.specs.Tree.{delete_body}
use Rattle.tree_gates.specs.DeleteBody.{delete_whole, delete_left}
use Rattle.tree_gates.specs.declared.delete.Delete.{Delete}

-- the act of a caller of class d, by a known mentor
abbrev pub delete_by : (d entry : ℕ) → Known → Act Outcome
delete_by d entry k = ClassTurn (delete_body d k.seg entry)

-- what it does
abbrev pub act_of : Delete → Act Outcome
act_of s = act_by delete_whole s.work

-- how far the gate is
abbrev pub doing_of : Delete → Doing Outcome
doing_of s = doing_by delete_whole delete_left s.work
