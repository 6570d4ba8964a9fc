use Rattle.std.proofs.Common.{◌≡◌, ◌∙◌}
use Rattle.config_print.proofs.Joined.{text_whole}
use Rattle.config_print.proofs.write_config.Goals as goal

pub returns : goal.returns
returns c =
    c.in_ok-push_str.ensures.bytes ∙ simp (
      c.in_ok-push_items.ensures,
      c.in_ok-push_processes.ensures,
      c.in_ok-push_gates.ensures,
      c.in_ok-push_scripts.ensures,
      c.in_ok-push_header.ensures,
      c.new-out.ensures.bytes,
      c.as_slice.ensures,
      c.as_slice-2.ensures,
      c.as_slice-3.ensures,
      c.as_slice-4.ensures,
    )
    (text_whole c.args.config.now)
