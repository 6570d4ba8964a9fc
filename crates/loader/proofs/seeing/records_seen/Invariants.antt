use Rattle.std.proofs.Common.{◌≡◌, take}
use Rattle.std.specs.List.{filter_map}
use Rattle.class_model.specs.Config.{low_record}
use Rattle.loader.specs.Records.{records_of}
use Rattle.loader.specs.Seen.{sees}
use Rattle.loader.proofs.seeing.records_seen.Given as goal

abbrev pub invariant-loop-place : goal.invariant-loop-place
invariant-loop-place l = l.all.items ≡ filter_map (low_record (sees l.config.table l.view)) (records_of (take l.place l.volumes))
