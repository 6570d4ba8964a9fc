-- What the code of swapin stands for.
use Rattle.policy.specs.Outcome.{Outcome}
use Rattle.turns.specs.Doing.{Doing, Act}
use Rattle.gate_parts.specs.InTurns.{act_by, doing_by}
use Rattle.swap_gates.specs.InBody.{in_whole, in_left}
use Rattle.swap_gates.specs.declared.swap_in.SwapIn.{SwapIn}

-- what it does
abbrev pub act_of : SwapIn → Act Outcome
act_of s = act_by in_whole s.work

-- how far the gate is
abbrev pub doing_of : SwapIn → Doing Outcome
doing_of s = doing_by in_whole in_left s.work
