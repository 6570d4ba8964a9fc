-- What the code of swapout stands for.
use Rattle.policy.specs.Outcome.{Outcome}
use Rattle.turns.specs.Doing.{Doing, Act}
use Rattle.gate_parts.specs.InTurns.{act_by, doing_by}
use Rattle.swap_gates.specs.OutBody.{out_whole, out_left}
use Rattle.swap_gates.specs.declared.swap_out.SwapOut.{SwapOut}

-- what it does
abbrev pub act_of : SwapOut → Act Outcome
act_of s = act_by out_whole s.work

-- how far the gate is
abbrev pub doing_of : SwapOut → Doing Outcome
doing_of s = doing_by out_whole out_left s.work
