use Rattle.workload.specs.Large.{large_process}
use Rattle.workload.proofs.Numbers.{mapped_more}
use Rattle.workload.proofs.processes.push_class.Goals as goal

pub loop-slot-preserved : goal.loop-slot-preserved
loop-slot-preserved c = mapped_more (large_process c.args.processor c.args.class) c.loop-slot.slot _ _ _ _ c.loop-slot.invariant c.in_ok-push.ensures.items c.process.ensures
