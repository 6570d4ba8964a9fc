use Rattle.std.proofs.Common.{◌≡◌, ◌++◌, map}
use Rattle.std.specs.List.{flat_map}
use Rattle.lists.specs.Lists.{below}
use Rattle.workload.specs.Large.{large_process}
use Rattle.workload.proofs.processes.push_processor.Given as goal

abbrev pub invariant-loop-class : goal.invariant-loop-class
invariant-loop-class l = l.lines.items ≡ l.fn.lines.items ++ flat_map (λ k. map (large_process l.processor k) (below 4)) (below l.class)
