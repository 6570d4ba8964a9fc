use Rattle.std.specs.Prelude.{string_bytes}
use Rattle.std.proofs.Common.{◌≡◌, ◌∙◌}
use Rattle.config_print.proofs.Joined.{front_whole}
use Rattle.config_print.proofs.push_header.Goals as goal

pub returns : goal.returns
returns c =
    c.in_ok-push_number_line-5.ensures ∙ simp (
      c.in_ok-push_number_line-4.ensures,
      c.in_ok-push_number_line-3.ensures,
      c.in_ok-push_cycle.ensures,
      c.in_ok-push_number_line-2.ensures,
      c.in_ok-push_classes.ensures,
      c.in_ok-push_number_line.ensures,
      c.in_ok-push_str.ensures.bytes,
      c.as_slice.ensures,
      c.as_slice-2.ensures,
      c.from.ensures,
      c.from-2.ensures,
      c.from-3.ensures,
      c.from-4.ensures,
      c.from-5.ensures,
      c.count.ensures,
    )
    (front_whole (string_bytes c.args.out.now) c.args.config.now)
