use Rattle.loader.proofs.Slots.{Filling}
use Rattle.loader.proofs.processors.virtual_processor_of.Given as goal

abbrev pub invariant-loop-line : goal.invariant-loop-line
invariant-loop-line l = Filling l.config l.processor l.class l.line-index l.slot l.loaded
