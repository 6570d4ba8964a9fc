use Rattle.machine.proofs.Plain.{event_is}
use Rattle.machine.proofs.laws.plain_laws.Goals as goal

pub returns-clause-event : goal.returns-clause-event
returns-clause-event c = event_is
