use Rattle.loader.specs.Records.{AreFaultless}
use Rattle.loader.proofs.judging.fault_in.Given as goal

abbrev pub invariant-loop-item : goal.invariant-loop-item
invariant-loop-item l = AreFaultless l.config l.volumes l.place l.item
