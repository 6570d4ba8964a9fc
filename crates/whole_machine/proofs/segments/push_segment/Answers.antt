use Rattle.std.specs.Prelude.{string_bytes}
use Rattle.class_model.specs.Section.{seen_segment}
use Rattle.whole_machine.proofs.SegmentPieces.{segment_pieces}
use Rattle.whole_machine.proofs.segments.push_segment.Goals as goal

pub returns : goal.returns
returns c =
    rw (
      c.in_ok-push_entries.ensures,
      c.in_ok-push_shown.ensures,
      c.in_ok-push_str-3.ensures.bytes,
      c.in_ok-push_named-5.ensures,
      c.in_ok-push_named-4.ensures,
      c.in_ok-push_named-3.ensures,
      c.in_ok-push_str-2.ensures.bytes,
      c.in_ok-push_str.ensures.bytes,
      c.in_ok-push_named-2.ensures,
      c.in_ok-push_named.ensures,
      c.from.ensures,
      c.from-2.ensures,
      c.home_name.ensures,
      c.writes.ensures,
      c.sequencer.ensures,
      c.as_slice.ensures,
      c.entries.ensures,
    )
    (segment_pieces (string_bytes c.args.out.now) (seen_segment c.args.seg c.args.cell.now c.args.count))
