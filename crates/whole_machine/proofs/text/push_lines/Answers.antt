use Rattle.std.proofs.Common.{[], ◌∷◌, ◌∙◌, ℕ}
use Rattle.std.specs.Prelude.{string_bytes, codes}
use Rattle.std.specs.Fmt.{decimal}
use Rattle.class_model.specs.Report.{line_of}
use Rattle.whole_machine.proofs.Pieces.{read_pushed}
use Rattle.whole_machine.proofs.text.push_lines.Goals as goal

pub loop-line-preserved : goal.loop-line-preserved
loop-line-preserved c =
    c.in_ok-push_line.ensures ∙
    read_pushed (λ (v : ℕ). line_of (codes "line" ∷ decimal v ∷ [])) c.args.lines.now c.loop-line.line-index 0 (string_bytes c.args.out.now) (string_bytes c.loop-line.out) c.loop-line-test.true
    c.loop-line.invariant
