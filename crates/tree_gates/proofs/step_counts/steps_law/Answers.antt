use Rattle.tree_gates.proofs.Counted.{make_known_steps, create_steps, delete_upgraded_steps, delete_own_steps}
use Rattle.tree_gates.proofs.step_counts.steps_law.Goals as goal

pub returns-clause-make_known : goal.returns-clause-make_known
returns-clause-make_known c = make_known_steps

pub returns-clause-create : goal.returns-clause-create
returns-clause-create c = create_steps

pub returns-clause-upgraded : goal.returns-clause-upgraded
returns-clause-upgraded c = delete_upgraded_steps

pub returns-clause-own : goal.returns-clause-own
returns-clause-own c = delete_own_steps
