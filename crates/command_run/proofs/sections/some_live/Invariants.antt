use Rattle.std.proofs.Common.{◌≡◌, ℕ, ◌<◌, false}
use Rattle.machine.specs.Banks.{machine_of}
use Rattle.command_run.specs.Headline.{class_live}
use Rattle.command_run.proofs.sections.some_live.Given as goal

abbrev pub invariant-loop-class : goal.invariant-loop-class
invariant-loop-class l = (c : ℕ) → c < l.class → class_live (machine_of l.machine) c ≡ false
