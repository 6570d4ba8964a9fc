use Rattle.script_asm.proofs.SpellingLaws.{both_ways, one_or_fault, never_both}
use Rattle.script_asm.proofs.laws.spelling_laws.Goals as goal

pub returns-clause-said : goal.returns-clause-said
returns-clause-said c = both_ways

pub returns-clause-either : goal.returns-clause-either
returns-clause-either c = one_or_fault

pub returns-clause-never : goal.returns-clause-never
returns-clause-never c = never_both
