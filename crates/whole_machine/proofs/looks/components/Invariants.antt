use Rattle.std.proofs.Common.{◌≡◌, ◌≤◌, length}
use Rattle.std.specs.List.{filter}
use Rattle.lists.specs.Lists.{below}
use Rattle.labels.specs.Label.{at_or_below}
use Rattle.whole_machine.proofs.looks.components.Given as goal

abbrev pub invariant-loop-low : goal.invariant-loop-low
invariant-loop-low l = (l.classes.items ≡ filter (λ c. at_or_below l.table c l.class) (below l.low)) × (length l.classes.items ≤ l.low)
