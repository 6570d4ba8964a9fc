use Rattle.std.proofs.Common.{◌≡◌, ℕ, ◌<◌, false}
use Rattle.machine.specs.Steps.{HasEnded}
use Rattle.low_run.specs.Flags.{is_low}
use Rattle.low_run.proofs.running.others_ended.Given as goal

abbrev pub invariant-loop-class : goal.invariant-loop-class
invariant-loop-class l = (d : ℕ) → d < l.class → is_low l.low d ≡ false → HasEnded l.machine d
