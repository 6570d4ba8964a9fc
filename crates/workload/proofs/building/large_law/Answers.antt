use Rattle.workload.proofs.Validity.{large_valid}
use Rattle.workload.proofs.building.large_law.Goals as goal

pub returns : goal.returns
returns c = large_valid
