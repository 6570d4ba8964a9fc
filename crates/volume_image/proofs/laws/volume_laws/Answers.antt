use Rattle.volume_image.proofs.VolumeLaws.{spelled_valid, one_volume, never_both, always_one}
use Rattle.volume_image.proofs.laws.volume_laws.Goals as goal

pub returns-clause-valid : goal.returns-clause-valid
returns-clause-valid c = spelled_valid

pub returns-clause-one : goal.returns-clause-one
returns-clause-one c = one_volume

pub returns-clause-apart : goal.returns-clause-apart
returns-clause-apart c = never_both

pub returns-clause-always : goal.returns-clause-always
returns-clause-always c = always_one
