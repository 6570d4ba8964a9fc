use Rattle.effect_laws.proofs.Whole.{sections_are_low, reports_are_low}
use Rattle.effect_laws.proofs.laws.section_laws.Goals as goal

pub returns-clause-sections : goal.returns-clause-sections
returns-clause-sections c = sections_are_low

pub returns-clause-reports : goal.returns-clause-reports
returns-clause-reports c = reports_are_low
