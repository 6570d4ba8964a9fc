use Rattle.std.proofs.Common.{Bool, sym, subst, ◌∙◌}
use Rattle.low_run.specs.Flags.{picked}
use Rattle.low_run.specs.LowRuns.{GoesOn}
use Rattle.low_run.proofs.Runs.{goes_nowhere, goes_one}
use Rattle.low_run.proofs.running.step_low.Goals as goal

pub returns-then-has : goal.returns-then-has
returns-then-has c =
    subst (λ (low : Bool). GoesOn (picked low c.args.event) c.args.machine.now c.step.new.self) (sym c.if-has.true ∙ c.has.ensures)
    (goes_one c.args.event _ _ c.step.ensures.0 c.step.ensures.1)

pub returns-else-has : goal.returns-else-has
returns-else-has c =
    subst (λ (low : Bool). GoesOn (picked low c.args.event) c.args.machine.now c.args.machine.now) (sym c.if-has.false ∙ c.has.ensures)
    (goes_nowhere c.args.machine.now)
