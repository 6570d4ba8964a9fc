use Rattle.release_guard.proofs.Flow.{same_guard}
use Rattle.release_guard.proofs.laws.flow_law.Goals as goal

pub returns : goal.returns
returns c = same_guard
