use Rattle.std.proofs.Common.{◌≡◌, ◌≤◌, None}
use Rattle.std.specs.Prelude.{count_by, slice_index_or}
use Rattle.std.specs.Option.{option_map}
use Rattle.lists.specs.Lists.{below}
use Rattle.process.specs.Standing.{Standing}
use Rattle.summary.specs.Summary.{is_in_state}
use Rattle.summary.proofs.counting.slots_in.Given as goal

abbrev pub invariant-loop-slot : goal.invariant-loop-slot
invariant-loop-slot l = record {
  sum : l.count ≡ count_by (λ i. is_in_state l.live (option_map (λ (v : Standing). v.process) (slice_index_or l.here.slots i None))) (below l.slot);
  most : l.count ≤ l.slot;
}
