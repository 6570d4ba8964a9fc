use Rattle.std.proofs.Common.{map}
use Rattle.lists.specs.Lists.{below}
use Rattle.workload.specs.Large.{large_process}
use Rattle.workload.proofs.Numbers.{flat_more}
use Rattle.workload.proofs.processes.push_processor.Goals as goal

pub loop-class-preserved : goal.loop-class-preserved
loop-class-preserved c = flat_more (λ k. map (large_process c.args.processor k) (below 4)) c.loop-class.class _ _ _ c.loop-class.invariant c.in_ok-push_class.ensures
