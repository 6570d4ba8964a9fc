use Rattle.std.proofs.Common.{◌≡◌, ℕ, ◌<◌, ◌≤◌, length}
use Rattle.std.specs.Prelude.{slice_index_or, ◌==◌}
use Rattle.std.specs.List.{filter}
use Rattle.std.specs.Int.{bit_at}
use Rattle.lists.specs.Lists.{below}
use Rattle.evc_gates.proofs.classes.classes_of_bits.Given as goal

abbrev pub invariant-loop-class : goal.invariant-loop-class
invariant-loop-class l = record {
  classes_so_far : l.classes.items ≡ filter (λ c. bit_at l.bits c == 1) (below l.class);
  room : length l.classes.items ≤ l.class;
  each : (k : ℕ) → k < length l.classes.items → slice_index_or l.classes.items k 0 < 16;
}
