use Rattle.std.proofs.Common.{arith}
use Rattle.report.proofs.Texts.{register_more, registers_end}
use Rattle.report.proofs.pieces.registers_line.Goals as goal

pub loop-value-preserved : goal.loop-value-preserved
loop-value-preserved c = (register_more _ _ _ _ c.loop-value-test.true c.loop-value.invariant.0 c.number.ensures.text, let h = c.number.ensures.longer in let k = c.loop-value.invariant.1 in omega arith)

pub returns : goal.returns
returns c = registers_end _ _ _ _ c.loop-value-test.false c.loop-value.invariant.0 c.end.ensures
