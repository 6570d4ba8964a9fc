use Rattle.std.proofs.Common.{◌<◌, length}
use Rattle.class_model.specs.Config.{classes}
use Rattle.machine.proofs.Events.{machine_after, event_by}
use Rattle.machine.proofs.machine.Machine.step_effect.Goals as goal

pub invariant_of-self : goal.invariant_of-self
invariant_of-self g c =
    let p : c.args.event.processor < length c.self.inside.banks = rw (← c.self.view_is) at c.requires.0 in
    let k : c.args.event.class < classes c.self.inside.shared = rw (← c.self.view_is) at c.requires.1 in
    machine_after g.W.WordPort.relation c.self.inside.shared (g.W.WordPort.classes c.self.inside.words) (g.W.WordPort.classes c.step.new.port) c.args.event.processor c.args.event.class
    c.self.inside.banks c.step.new.self c.self.inside.words c.step.new.port _ c.self.invariant p k c.step.ensures.step c.step.ensures.layout

pub returns : goal.returns
returns g c =
    event_by g.W.WordPort.relation c.args.event c.self.inside.shared c.self.inside.banks c.step.new.self c.self.inside.words c.step.new.port c.step.result c.args.self.now c.self.view_is
    c.step.ensures.step
