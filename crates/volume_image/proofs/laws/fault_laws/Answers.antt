use Rattle.volume_image.proofs.FaultLaws.{fault_stays, front_ends, more_follows}
use Rattle.volume_image.proofs.laws.fault_laws.Goals as goal

pub returns-clause-stays : goal.returns-clause-stays
returns-clause-stays c = fault_stays

pub returns-clause-front : goal.returns-clause-front
returns-clause-front c = front_ends

pub returns-clause-behind : goal.returns-clause-behind
returns-clause-behind c = more_follows
