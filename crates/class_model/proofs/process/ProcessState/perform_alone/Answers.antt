use Rattle.std.proofs.Common.{◌∙◌, ap, sym}
use Rattle.class_model.specs.Plan.{Own}
use Rattle.class_model.proofs.Plans.{spawn_own}
use Rattle.class_model.proofs.process.ProcessState.perform_alone.Goals as goal

pub returns-in-Spawn-clause-after : goal.returns-in-Spawn-clause-after
returns-in-Spawn-clause-after c =
    spawn_own c.args.shared.now c.args.class c.args.self.now c.args.instr.now _ _ c.in-Spawn.is c.requires.own ∙
    ap Own (sym c.refuse.ensures)
