-- What the code of create stands for.
use Rattle.std.specs.Prelude.{ℕ}
use Rattle.policy.specs.Known.{Known}
use Rattle.policy.specs.Private.{brackets_of}
use Rattle.policy.specs.Outcome.{Outcome}
use Rattle.turns.specs.Doing.{Doing, Act, ClassTurn}
use Rattle.gate_parts.specs.InTurns.{act_by, doing_by}
use Rattle.tree_gates.specs.Tree.{create_body}
use Rattle.tree_gates.specs.CreateBody.{create_whole, create_left}
use Rattle.tree_gates.specs.declared.create.Create.{Create}

-- the act by a known mentor, with class, brackets and size as they are given
abbrev pub create_by : (entry class brackets size : ℕ) → Known → Act Outcome
create_by entry class brackets size k = ClassTurn (create_body k.seg entry class (brackets_of brackets) size)

-- what it does
abbrev pub act_of : Create → Act Outcome
act_of s = act_by create_whole s.work

-- how far the gate is
abbrev pub doing_of : Create → Doing Outcome
doing_of s = doing_by create_whole create_left s.work
