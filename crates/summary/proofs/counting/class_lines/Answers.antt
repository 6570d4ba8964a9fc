use Rattle.std.proofs.Common.{arith}
use Rattle.summary.proofs.Off.{lines_all}
use Rattle.summary.proofs.counting.class_lines.Goals as goal

pub returns : goal.returns
returns c =
    let n = c.processors-processor-end.ensures in
    lines_all c.args.machine.now c.args.class c.loop-processor.processor c.loop-processor.lines c.machine_law.ensures.most (omega (arith, n)) c.loop-processor.invariant.sum
