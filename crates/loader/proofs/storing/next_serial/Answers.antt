use Rattle.std.proofs.Common.{◌≤◌, ◌+◌, ap, sym, ◌∙◌, arith, length}
use Rattle.std.proofs.lemmas.List.{take_all}
use Rattle.std.specs.Prelude.{◌==◌, if◌then◌else◌, max}
use Rattle.loader.specs.Stores.{serial_under}
use Rattle.loader.proofs.StoreSteps.{serial_more}
use Rattle.loader.proofs.storing.next_serial.Goals as goal

pub loop-segment-preserved : goal.loop-segment-preserved
loop-segment-preserved c =
    c.serial_after-next.ensures
    ∙ ap (λ n. if c.segment-item.result.seg.mentor == c.args.class then max n (c.segment-item.result.seg.serial + 1) else n) c.loop-segment.invariant
    ∙ sym (serial_more c.args.class c.args.records.now c.loop-segment.segment-index c.segment-item.result c.loop-segment-test.true c.segment-item.is)

pub returns : goal.returns
returns c =
    let past : length c.args.records.now ≤ c.loop-segment.segment-index = omega (arith, c.loop-segment-test.false) in
    c.loop-segment.invariant ∙ ap (λ t. serial_under c.args.class t) (take_all c.loop-segment.segment-index c.args.records.now past)
