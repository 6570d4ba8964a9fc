use Rattle.std.proofs.Common.{sym}
use Rattle.report.proofs.LinesByPlace.{value_here, value_past}
use Rattle.report.proofs.consoles.value_in.Goals as goal

pub returns-then-line-place : goal.returns-then-line-place
returns-then-line-place c = sym (value_here _ _ _ _ c.loop-line-test.true c.loop-line.invariant c.if-line-place.true)

pub loop-line-preserved : goal.loop-line-preserved
loop-line-preserved c = value_past _ _ _ _ c.loop-line-test.true c.loop-line.invariant c.if-line-place.false
