use Rattle.labels.specs.Label.{at_or_below}
use Rattle.process.proofs.Classes.{Tells}
use Rattle.process.proofs.looking.classes_below.Given as goal

abbrev pub invariant-loop-low : goal.invariant-loop-low
invariant-loop-low l = Tells l.bits l.low (λ k. at_or_below l.table k l.class)
