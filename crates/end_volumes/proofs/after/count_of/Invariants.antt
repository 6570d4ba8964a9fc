use Rattle.std.proofs.Common.{◌≡◌, ◌≤◌, ◌*◌, length}
use Rattle.std.specs.Prelude.{[]}
use Rattle.std.specs.List.{filter_map}
use Rattle.lists.specs.Lists.{below}
use Rattle.words_layout.specs.Segments.{numbered}
use Rattle.loader.specs.Configuration.{configuration}
use Rattle.end_volumes.specs.After.{found, listed}
use Rattle.end_volumes.proofs.after.count_of.Given as goal

abbrev pub invariant-loop-number : goal.invariant-loop-number
invariant-loop-number l = record {
  few : l.count ≤ l.number;
  counted : l.count ≡ length (filter_map (λ n. found (configuration l.config []) l.volume (listed l.origins) (64 * length l.config.table) (numbered n)) (below l.number));
}
