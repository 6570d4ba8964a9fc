use Rattle.input_laws.proofs.ValidInputs.{valid_input_is_read, config_is_read, reads_the_input, has_one_input, what_is_read_is_valid, calm_never_rises}
use Rattle.input_laws.proofs.input_laws.Goals as goal

pub returns-clause-read : goal.returns-clause-read
returns-clause-read c = valid_input_is_read

pub returns-clause-config : goal.returns-clause-config
returns-clause-config c = config_is_read

pub returns-clause-same : goal.returns-clause-same
returns-clause-same c = reads_the_input

pub returns-clause-one : goal.returns-clause-one
returns-clause-one c = has_one_input

pub returns-clause-calm : goal.returns-clause-calm
returns-clause-calm c = calm_never_rises

pub returns-clause-valid : goal.returns-clause-valid
returns-clause-valid c = what_is_read_is_valid
