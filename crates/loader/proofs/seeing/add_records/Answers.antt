use Rattle.std.proofs.Common.{◌≤◌, ◌++◌, sym, subst, arith, length}
use Rattle.std.specs.List.{filter_map}
use Rattle.class_model.specs.Config.{low_record}
use Rattle.loader.specs.Seen.{sees, HasClasses}
use Rattle.loader.proofs.Collecting.{item_added, items_ended}
use Rattle.loader.proofs.seeing.add_records.Goals as goal

pub record_seen-requires-clause-classes : goal.record_seen-requires-clause-classes
record_seen-requires-clause-classes c =
    subst (HasClasses c.args.table.now) (sym c.segment-item.is) (c.requires.classes c.loop-segment.segment-index c.segment-item.result c.loop-segment-test.true)

pub loop-segment-preserved : goal.loop-segment-preserved
loop-segment-preserved c =
    let g = low_record (sees c.args.table.now c.args.view) in
    item_added g c.args.records.now c.loop-segment.segment-index c.segment-item.result c.in_ok-shown.shown c.loop-segment.seen.items c.push_shown.new.records.items (c.args.seen.now.items ++ filter_map g c.args.records.now)
    c.loop-segment.invariant c.loop-segment-test.true c.segment-item.is c.in_ok-shown.ensures c.in_ok-push_shown.ensures

pub returns : goal.returns
returns c =
    let g = low_record (sees c.args.table.now c.args.view) in
    let past : length c.args.records.now ≤ c.loop-segment.segment-index = omega (arith, c.loop-segment-test.false) in
    items_ended g c.args.records.now c.loop-segment.segment-index c.loop-segment.seen.items (c.args.seen.now.items ++ filter_map g c.args.records.now) c.loop-segment.invariant past
