use Rattle.volume_laws.proofs.Agree.{volumes_agree}
use Rattle.volume_laws.proofs.Ended.{ended_is_quiet, words_agree}
use Rattle.volume_laws.proofs.Loaded.{words_are_valid}
use Rattle.volume_laws.proofs.Needed.{both_are_needed}
use Rattle.volume_laws.proofs.Sound.{volumes_are_valid}
use Rattle.volume_laws.proofs.volume_laws.Goals as goal

pub returns-clause-agree : goal.returns-clause-agree
returns-clause-agree c = volumes_agree

pub returns-clause-valid : goal.returns-clause-valid
returns-clause-valid c = volumes_are_valid

pub returns-clause-needed : goal.returns-clause-needed
returns-clause-needed c = both_are_needed

pub returns-clause-quiet : goal.returns-clause-quiet
returns-clause-quiet c = ended_is_quiet

pub returns-clause-words : goal.returns-clause-words
returns-clause-words c = words_agree

pub returns-clause-loaded : goal.returns-clause-loaded
returns-clause-loaded c = words_are_valid
