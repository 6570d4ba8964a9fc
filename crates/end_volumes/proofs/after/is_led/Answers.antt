use Rattle.std.proofs.Common.{◌≡◌, ◌≤◌, ◌<◌, ◌-◌, ◌*◌, ap, sym, arith, length}
use Rattle.std.specs.Prelude.{[]}
use Rattle.loader.specs.Configuration.{configuration}
use Rattle.end_volumes.specs.After.{is_led, listed}
use Rattle.end_volumes.proofs.AfterPaths.{at_root, at_end, one_up, no_way_up}
use Rattle.end_volumes.proofs.after.is_led.Goals as goal

pub loop-entry-init : goal.loop-entry-init
loop-entry-init c =
    let z : 64 * length c.args.config.now.table - 0 ≡ 64 * length c.args.config.now.table = omega arith in
    record { range = c.requires; same = ap (λ m. is_led (configuration c.args.config.now []) (listed c.args.origins.now) m c.args.class c.args.seg) z }

pub returns-then-is_root_cell : goal.returns-then-is_root_cell
returns-then-is_root_cell c =
    at_root (configuration c.args.config.now []) (listed c.args.origins.now) (64 * length c.args.config.now.table) c.args.class c.args.seg c.loop-entry._entry c.loop-entry.above_class c.loop-entry.above c.loop-entry.invariant.same _ c.is_root_cell.ensures c.if-is_root_cell.true

pub returns-in-None : goal.returns-in-None
returns-in-None c =
    let lt : c.loop-entry._entry < 64 * length c.args.config.now.table = omega arith in
    no_way_up (configuration c.args.config.now []) (listed c.args.origins.now) (64 * length c.args.config.now.table) c.args.class c.args.seg c.loop-entry._entry c.loop-entry.above_class c.loop-entry.above c.loop-entry.invariant.same _ c.is_root_cell.ensures c.if-is_root_cell.false lt (sym c.in-None.ensures.value)

pub loop-entry-preserved : goal.loop-entry-preserved
loop-entry-preserved c =
    let lt : c.loop-entry._entry < 64 * length c.args.config.now.table = omega arith in
    record {
      range = c.in-Some.ensures.range;
      same = one_up (configuration c.args.config.now []) (listed c.args.origins.now) (64 * length c.args.config.now.table) c.args.class c.args.seg c.loop-entry._entry c.loop-entry.above_class c.loop-entry.above c.loop-entry.invariant.same _ c.is_root_cell.ensures c.if-is_root_cell.false lt c.in-Some.mentor (sym c.in-Some.ensures.value);
    }

pub returns : goal.returns
returns c =
    let past : 64 * length c.args.config.now.table ≤ c.loop-entry._entry = omega arith in
    at_end (configuration c.args.config.now []) (listed c.args.origins.now) (64 * length c.args.config.now.table) c.args.class c.args.seg c.loop-entry._entry c.loop-entry.above_class c.loop-entry.above c.loop-entry.invariant.same _ c.is_root_cell-2.ensures past
