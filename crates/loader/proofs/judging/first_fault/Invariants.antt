use Rattle.loader.specs.Records.{FaultlessBelow}
use Rattle.loader.proofs.judging.first_fault.Given as goal

abbrev pub invariant-loop-place : goal.invariant-loop-place
invariant-loop-place l = FaultlessBelow l.config l.volumes l.place
