use Rattle.std.proofs.Common.{◌≡◌, map}
use Rattle.lists.specs.Lists.{below}
use Rattle.labels.specs.Table.{entry_of}
use Rattle.workload.specs.Large.{large_class}
use Rattle.workload.proofs.classes.class_table.Given as goal

abbrev pub invariant-loop-class : goal.invariant-loop-class
invariant-loop-class l = map entry_of l.entries.items ≡ map large_class (below l.class)
