use Rattle.turn_laws.proofs.Counted.{turns_are_counted}
use Rattle.turn_laws.proofs.turn_laws.Goals as goal

pub returns : goal.returns
returns c = record { counted = turns_are_counted }
