use Rattle.machine.proofs.Fitting.{empty_fits, new_process_fits, filling_fits}
use Rattle.machine.proofs.laws.fitting_laws.Goals as goal

pub returns-clause-empty : goal.returns-clause-empty
returns-clause-empty c = empty_fits

pub returns-clause-new : goal.returns-clause-new
returns-clause-new c = new_process_fits

pub returns-clause-filling : goal.returns-clause-filling
returns-clause-filling c = filling_fits
