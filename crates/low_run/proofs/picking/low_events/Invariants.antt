use Rattle.std.proofs.Common.{◌≡◌, take}
use Rattle.low_run.specs.Flags.{low_of}
use Rattle.low_run.proofs.picking.low_events.Given as goal

abbrev pub invariant-loop-event : goal.invariant-loop-event
invariant-loop-event l = l.found.items ≡ low_of l.low (take l.event-index l.events)
