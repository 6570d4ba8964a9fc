use Rattle.std.proofs.Common.{◌≡◌, ◌++◌, drop}
use Rattle.std.specs.List.{filter_map}
use Rattle.class_model.specs.Config.{low_record}
use Rattle.loader.specs.Seen.{sees}
use Rattle.loader.proofs.seeing.add_records.Given as goal

abbrev pub invariant-loop-segment : goal.invariant-loop-segment
invariant-loop-segment l =
    l.seen.items ++ filter_map (low_record (sees l.table l.view)) (drop l.segment-index l.records) ≡ l.initial.seen.items ++ filter_map (low_record (sees l.table l.view)) l.records
