use Rattle.labels.proofs.OneText.{one_text}
use Rattle.labels.proofs.laws.text_laws.Goals as goal

pub returns-clause-one : goal.returns-clause-one
returns-clause-one c = one_text
