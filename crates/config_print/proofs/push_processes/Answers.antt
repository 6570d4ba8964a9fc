use Rattle.std.specs.Prelude.{string_bytes}
use Rattle.std.proofs.Common.{◌≡◌, ℕ, List, ◌++◌, sym, ap, ◌∙◌, append_assoc}
use Rattle.config_text.specs.Written.{process_line}
use Rattle.config_print.proofs.Pieces.{mapped_more}
use Rattle.config_print.proofs.push_processes.Goals as goal

pub loop-line-preserved : goal.loop-line-preserved
loop-line-preserved c =
    let more = mapped_more process_line c.args.lines.now c.loop-line.line-index c.line-item.result c.loop-line-test.true c.line-item.is in
    c.in_ok-push_process.ensures ∙ rw (c.loop-line.invariant, append_assoc) (ap (λ (t : List ℕ). (string_bytes c.args.out.now) ++ t) (sym more))
