use Rattle.std.proofs.Common.{sym, ◌∙◌}
use Rattle.machine.proofs.Stepping.{rests_by}
use Rattle.machine.proofs.virtual_processor.VirtualProcessor.step_effect.Goals as goal

pub returns-in_default-clause-step : goal.returns-in_default-clause-step
returns-in_default-clause-step g c =
    rests_by g.W.WordPort.relation c.args.shared.now c.args.self.now c.args.port.now c.first_live.ensures.current (sym c.in_default.is ∙ c.first_live.ensures.first)
