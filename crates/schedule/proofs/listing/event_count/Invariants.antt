use Rattle.std.proofs.Common.{◌≡◌, ◌+◌, drop}
use Rattle.std.specs.List.{sum_by}
use Rattle.config_text.specs.Valid.{events_of as item_total}
use Rattle.schedule.proofs.listing.event_count.Given as goal

abbrev pub invariant-loop-item : goal.invariant-loop-item
invariant-loop-item l = l.count + sum_by (item_total l.config) (drop l.item-index l.item-items) ≡ sum_by (item_total l.config) l.config.schedule
