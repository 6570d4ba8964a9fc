use Rattle.std.proofs.Common.{arith}
use Rattle.low_run.proofs.Flagging.{one_more}
use Rattle.low_run.proofs.classes.LowClasses.of.Goals as goal

pub loop-low-preserved : goal.loop-low-preserved
loop-low-preserved c =
    one_more c.args.table.now c.args.class c.loop-low.flags c.loop-low.low c.below.result c.loop-low.invariant
    (omega (arith, c.loop-low-test.true, c.count-low-end.ensures, c.table_law.ensures.few)) c.below.ensures.computed
