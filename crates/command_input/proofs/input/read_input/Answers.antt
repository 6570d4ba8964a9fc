use Rattle.command_input.proofs.Failing.{outside, no_volumes, input_had}
use Rattle.command_input.proofs.input.read_input.Goals as goal

pub returns-in-Err-check_class-clause-fault : goal.returns-in-Err-check_class-clause-fault
returns-in-Err-check_class-clause-fault g c = outside _ _ _ _ _ c.in-Ok.ensures.config c.in-Err-check_class.ensures.refused

pub returns-in-Ok-read_volumes-clause-input : goal.returns-in-Ok-read_volumes-clause-input
returns-in-Ok-read_volumes-clause-input g c = input_had _ _ _ _ _ _ c.in-Ok.ensures.config c.in-Ok-check_class.ensures.among c.in-Ok-read_volumes.ensures.volumes

pub returns-in-Err-read_volumes-clause-fault : goal.returns-in-Err-read_volumes-clause-fault
returns-in-Err-read_volumes-clause-fault g c = no_volumes _ _ _ _ _ _ c.in-Ok.ensures.config c.in-Ok-check_class.ensures.among c.in-Err-read_volumes.ensures.fault
