use Rattle.std.proofs.Common.{◌≡◌, ℕ, ◌<◌}
use Rattle.machine.specs.Processing.{live_count}
use Rattle.machine.specs.Banks.{vp_at}
use Rattle.machine.proofs.machine.Machine.ended.Given as goal

abbrev pub invariant-loop-processor : goal.invariant-loop-processor
invariant-loop-processor g l = (p : ℕ) → p < l.processor → live_count (vp_at l.self.banks p l.class).slots ≡ 0
