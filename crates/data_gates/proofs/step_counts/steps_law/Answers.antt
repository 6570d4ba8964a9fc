use Rattle.data_gates.proofs.Counted.{fetch_steps, update_steps}
use Rattle.data_gates.proofs.step_counts.steps_law.Goals as goal

pub returns-clause-fetch : goal.returns-clause-fetch
returns-clause-fetch c = fetch_steps

pub returns-clause-update : goal.returns-clause-update
returns-clause-update c = update_steps
