use Rattle.std.proofs.Common.{[], map}
use Rattle.std.specs.List.{flat_map}
use Rattle.lists.specs.Lists.{below}
use Rattle.workload.specs.Large.{large_process}
use Rattle.workload.proofs.Numbers.{flat_more}
use Rattle.workload.proofs.processes.processes.Goals as goal

pub loop-processor-preserved : goal.loop-processor-preserved
loop-processor-preserved c = flat_more (λ processor. flat_map (λ k. map (large_process processor k) (below 4)) (below 8)) c.loop-processor.processor [] _ _ c.loop-processor.invariant c.in_ok-push_processor.ensures
