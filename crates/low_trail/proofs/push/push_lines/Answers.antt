use Rattle.low_trail.proofs.Lines.{line_pushed, line_torn}
use Rattle.report.proofs.Texts.{err_prints}
use Rattle.low_trail.proofs.push.push_lines.Goals as goal

pub returns-in_err-push_line : goal.returns-in_err-push_line
returns-in_err-push_line g c =
    err_prints _ _ _ _ c.from_residual.ensures.0
    (line_torn _ _ _ c.args.entries.now c.loop-entry.entry-index c.entry-item.result c.loop-entry-test.true c.entry-item.is c.loop-entry.invariant c.in_err-push_line.ensures)

pub loop-entry-preserved : goal.loop-entry-preserved
loop-entry-preserved g c = line_pushed _ _ _ c.args.entries.now c.loop-entry.entry-index c.entry-item.result c.loop-entry-test.true c.entry-item.is c.loop-entry.invariant c.in_ok-push_line.ensures
