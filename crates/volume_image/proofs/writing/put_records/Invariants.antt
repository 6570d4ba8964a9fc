use Rattle.std.proofs.Common.{take, Ok}
use Rattle.std.specs.List.{flat_map}
use Rattle.volume_image.specs.Written.{record_bytes}
use Rattle.volume_image.specs.Puts.{Puts}
use Rattle.volume_image.proofs.writing.put_records.Given as goal

abbrev pub invariant-loop-index : goal.invariant-loop-index
invariant-loop-index l = Puts l.fn.out l.out (Ok tt) (flat_map record_bytes (take l.index l.records))
