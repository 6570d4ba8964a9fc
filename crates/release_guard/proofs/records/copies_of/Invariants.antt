use Rattle.std.proofs.Common.{◌≡◌, take}
use Rattle.release_guard.proofs.records.copies_of.Given as goal

abbrev pub invariant-loop-segment : goal.invariant-loop-segment
invariant-loop-segment l = l.copies.items ≡ take l.segment-index l.records
