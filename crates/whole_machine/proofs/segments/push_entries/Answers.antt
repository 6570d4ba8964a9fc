use Rattle.std.proofs.Common.{◌∙◌}
use Rattle.std.specs.Prelude.{string_bytes}
use Rattle.whole_machine.proofs.SegmentPieces.{entry_pushed}
use Rattle.whole_machine.proofs.segments.push_entries.Goals as goal

pub loop-number-preserved : goal.loop-number-preserved
loop-number-preserved c =
    c.in_ok-push_place.ensures ∙
    entry_pushed c.args.entries.now c.loop-number.number _ (string_bytes c.args.out.now) (string_bytes c.loop-number.out) c.loop-number-test.true c.loop-number.invariant
