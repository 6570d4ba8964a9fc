use Rattle.std.proofs.Common.{◌≡◌}
use Rattle.release_guard.specs.Guard.{exported}
use Rattle.release_guard.proofs.records.export_all.Given as goal

abbrev pub invariant-loop-segment : goal.invariant-loop-segment
invariant-loop-segment l = l.volume.items ≡ exported l.order l.yielded
