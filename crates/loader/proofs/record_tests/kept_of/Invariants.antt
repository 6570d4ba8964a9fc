use Rattle.std.proofs.Common.{◌≡◌, take}
use Rattle.std.specs.Prelude.{count_by}
use Rattle.loader.specs.Records.{records_of, is_kept}
use Rattle.loader.proofs.record_tests.kept_of.Given as goal

abbrev pub invariant-loop-index : goal.invariant-loop-index
invariant-loop-index l = l.count ≡ count_by (is_kept l.class) (records_of (take l.index l.volumes))
