use Rattle.std.proofs.Common.{◌≡◌, take}
use Rattle.loader.specs.Stores.{serial_under}
use Rattle.loader.proofs.storing.next_serial.Given as goal

abbrev pub invariant-loop-segment : goal.invariant-loop-segment
invariant-loop-segment l = l.next ≡ serial_under l.class (take l.segment-index l.records)
