use Rattle.schedule.proofs.Counts.{few_events}
use Rattle.schedule.proofs.InRange.{events_in_range}
use Rattle.schedule.proofs.InOrder.{items_end}
use Rattle.schedule.proofs.listing.events.Goals as goal

pub returns-clause-few : goal.returns-clause-few
returns-clause-few c = few_events _ _ c.requires (items_end _ _ _ _ _ c.loop-item.invariant c.loop-item-test.false)

pub returns-clause-range : goal.returns-clause-range
returns-clause-range c = events_in_range _ _ c.requires (items_end _ _ _ _ _ c.loop-item.invariant c.loop-item-test.false)
