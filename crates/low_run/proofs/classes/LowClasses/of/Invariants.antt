use Rattle.low_run.proofs.Flagging.{LowUpTo}
use Rattle.low_run.proofs.classes.LowClasses.of.Given as goal

abbrev pub invariant-loop-low : goal.invariant-loop-low
invariant-loop-low l = LowUpTo l.table l.class l.flags l.low
