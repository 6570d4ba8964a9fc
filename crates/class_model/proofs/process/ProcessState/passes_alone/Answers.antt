use Rattle.class_model.proofs.Passes.{spawn_without_slot}
use Rattle.class_model.proofs.process.ProcessState.passes_alone.Goals as goal

pub returns-else-free : goal.returns-else-free
returns-else-free c = spawn_without_slot c.args.shared.now c.args.class c.args.self.now c.args.instr.now _ _ c.args.free c.in-Spawn.is c.if-free.false
