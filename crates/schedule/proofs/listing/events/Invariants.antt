use Rattle.schedule.proofs.InOrder.{Listing}
use Rattle.schedule.proofs.listing.events.Given as goal

abbrev pub invariant-loop-item : goal.invariant-loop-item
invariant-loop-item l = Listing l.config l.item-index l.items l.place l.events.items
