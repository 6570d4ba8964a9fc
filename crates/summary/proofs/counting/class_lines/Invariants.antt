use Rattle.std.proofs.Common.{◌≡◌, ◌≤◌, ◌*◌}
use Rattle.std.specs.List.{sum_by}
use Rattle.lists.specs.Lists.{below}
use Rattle.summary.proofs.Off.{lines_on}
use Rattle.summary.proofs.counting.class_lines.Given as goal

abbrev pub invariant-loop-processor : goal.invariant-loop-processor
invariant-loop-processor l = record {
  sum : l.lines ≡ sum_by (lines_on l.machine l.class) (below l.processor);
  most : l.lines ≤ l.processor * 18446744073709551616;
}
