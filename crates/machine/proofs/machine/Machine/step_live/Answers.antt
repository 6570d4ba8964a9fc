use Rattle.std.proofs.Common.{None, sym, ap, ◌∙◌}
use Rattle.machine.specs.Processing.{Processing, live_count}
use Rattle.machine.proofs.Idle.{idle_event}
use Rattle.machine.proofs.machine.Machine.step_live.Goals as goal

pub returns-else-not-is_idle : goal.returns-else-not-is_idle
returns-else-not-is_idle g c =
    let none = c.is_idle.ensures.0 (cc) in
    (None, idle_event g.W.WordPort.relation c.args.event c.args.self.now (ap (λ (v : Processing). live_count v.slots) (sym c.virtual_processor.ensures) ∙ none))
