use Rattle.std.proofs.Common.{◌≡◌, ◌++◌, ◌-◌, replicate}
use Rattle.schedule.proofs.listing.repeat.Given as goal

abbrev pub invariant-loop : goal.invariant-loop
invariant-loop l = l.events.items ++ replicate (l.count - l.counter) l.event ≡ l.fn.events.items ++ replicate l.count l.event
