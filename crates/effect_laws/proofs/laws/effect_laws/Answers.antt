use Rattle.effect_laws.proofs.Whole.{runs_stand, lines_stand}
use Rattle.effect_laws.proofs.laws.effect_laws.Goals as goal

pub returns : goal.returns
returns c = record { runs = runs_stand; lines = lines_stand }
