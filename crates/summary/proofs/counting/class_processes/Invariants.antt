use Rattle.std.proofs.Common.{◌≡◌, ◌≤◌, ◌*◌}
use Rattle.std.specs.List.{sum_by}
use Rattle.lists.specs.Lists.{below}
use Rattle.summary.proofs.Off.{slots_on}
use Rattle.summary.proofs.counting.class_processes.Given as goal

abbrev pub invariant-loop-processor : goal.invariant-loop-processor
invariant-loop-processor l = record {
  sum : l.count ≡ sum_by (slots_on l.machine l.class l.live) (below l.processor);
  most : l.count ≤ l.processor * 4;
}
