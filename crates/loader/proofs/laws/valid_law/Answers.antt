use Rattle.loader.proofs.Validity.{is_config}
use Rattle.loader.proofs.laws.valid_law.Goals as goal

pub returns : goal.returns
returns c = is_config
