use Rattle.std.proofs.Common.{◌<◌, length, refl, arith}
use Rattle.class_model.specs.Config.{SegRecord}
use Rattle.release_guard.specs.Working.{renewed}
use Rattle.release_guard.proofs.Shown.{renewed_more}
use Rattle.release_guard.proofs.records.put_words.Goals as goal

pub loop-segment-preserved : goal.loop-segment-preserved
loop-segment-preserved c =
    let f = λ (r : SegRecord). renewed c.args.to c.args.words.now r in
    let within : c.loop-segment.segment-index < length c.deref_mut-segment-items.result.now = omega arith in
    renewed_more f c.deref_mut-segment-items.result.now c.loop-segment.segment-items _ c.loop-segment.segment-index c.segment-item.result c.renew.new.segment c.loop-segment.invariant within c.in_ok-renew.ensures refl
