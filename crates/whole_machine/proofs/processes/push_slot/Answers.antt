use Rattle.std.proofs.Common.{sym}
use Rattle.whole_machine.proofs.processes.push_slot.Goals as goal

pub push_process-requires : goal.push_process-requires
push_process-requires c = c.requires c.args.processor c.args.slot c.in-Some.process.now (sym c.in-Some.ensures.process)
