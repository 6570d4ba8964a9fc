use Rattle.swap_gates.proofs.Counted.{swap_in_steps, swap_out_steps, swap_out_new_steps}
use Rattle.swap_gates.proofs.step_counts.steps_law.Goals as goal

pub returns-clause-swap_in : goal.returns-clause-swap_in
returns-clause-swap_in c = swap_in_steps

pub returns-clause-own_page : goal.returns-clause-own_page
returns-clause-own_page c = swap_out_steps

pub returns-clause-new_page : goal.returns-clause-new_page
returns-clause-new_page c = swap_out_new_steps
