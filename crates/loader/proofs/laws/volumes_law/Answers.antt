use Rattle.loader.proofs.Records.{loaded_config}
use Rattle.loader.proofs.laws.volumes_law.Goals as goal

pub returns : goal.returns
returns c = loaded_config
