use Rattle.refusal_laws.proofs.Refusals.{refusals_are_first}
use Rattle.refusal_laws.proofs.refusal_laws.Goals as goal

pub returns : goal.returns
returns c = record { first = λ a n p. refusals_are_first a n p }
