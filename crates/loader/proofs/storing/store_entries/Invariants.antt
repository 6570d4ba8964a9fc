use Rattle.std.proofs.Common.{◌≡◌, map, take}
use Rattle.loader.specs.Stores.{after_stores, entry_store}
use Rattle.loader.proofs.storing.store_entries.Given as goal

abbrev pub invariant-loop-segment : goal.invariant-loop-segment
invariant-loop-segment l = l.words ≡ after_stores l.initial.words (map entry_store (take l.segment-index l.records))
