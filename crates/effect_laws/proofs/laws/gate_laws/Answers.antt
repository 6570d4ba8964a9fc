use Rattle.effect_laws.proofs.Whole.{bodies_are_whole}
use Rattle.effect_laws.proofs.laws.gate_laws.Goals as goal

pub returns : goal.returns
returns c = record { whole = bodies_are_whole }
