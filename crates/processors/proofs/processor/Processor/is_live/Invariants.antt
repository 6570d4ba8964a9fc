use Rattle.std.proofs.Common.{◌≡◌, ℕ, ◌<◌}
use Rattle.machine.specs.Processing.{live_count}
use Rattle.machine.specs.Banks.{vp_in}
use Rattle.processors.proofs.processor.Processor.is_live.Given as goal

abbrev pub invariant-loop-class : goal.invariant-loop-class
invariant-loop-class l = (c : ℕ) → c < l.class → live_count (vp_in l.self.bank c).slots ≡ 0
