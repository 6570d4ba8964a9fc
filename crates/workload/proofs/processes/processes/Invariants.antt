use Rattle.std.proofs.Common.{◌≡◌, ◌++◌, map, []}
use Rattle.std.specs.List.{flat_map}
use Rattle.lists.specs.Lists.{below}
use Rattle.workload.specs.Large.{large_process}
use Rattle.workload.proofs.processes.processes.Given as goal

abbrev pub invariant-loop-processor : goal.invariant-loop-processor
invariant-loop-processor l = l.lines.items ≡ [] ++ flat_map (λ processor. flat_map (λ k. map (large_process processor k) (below 4)) (below 8)) (below l.processor)
