use Rattle.std.proofs.Common.{take}
use Rattle.audit_trail.specs.Lines.{lines_text}
use Rattle.report.specs.Printing.{Pushed}
use Rattle.low_trail.proofs.push.push_lines.Given as goal

abbrev pub invariant-loop-entry : goal.invariant-loop-entry
invariant-loop-entry g l = Pushed (g.H.Host.ports l.fn.host) (g.H.Host.ports l.host) (lines_text (take l.entry-index l.entries))
