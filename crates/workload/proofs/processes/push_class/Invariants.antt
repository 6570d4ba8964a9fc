use Rattle.std.proofs.Common.{◌≡◌, ◌++◌, map}
use Rattle.lists.specs.Lists.{below}
use Rattle.workload.specs.Large.{large_process}
use Rattle.workload.proofs.processes.push_class.Given as goal

abbrev pub invariant-loop-slot : goal.invariant-loop-slot
invariant-loop-slot l = l.lines.items ≡ l.fn.lines.items ++ map (large_process l.processor l.class) (below l.slot)
