use Rattle.report_laws.proofs.ShownLaws.{shows_what_is_low, shows_by_low_parts, shows_nothing_else, shows_what_it_stands_for, shows_low_sections, shows_who_is_live}
use Rattle.report_laws.proofs.laws.shown_laws.Goals as goal

pub returns-clause-low : goal.returns-clause-low
returns-clause-low c = shows_what_is_low

pub returns-clause-low_parts : goal.returns-clause-low_parts
returns-clause-low_parts c = shows_by_low_parts

pub returns-clause-nothing_else : goal.returns-clause-nothing_else
returns-clause-nothing_else c = shows_nothing_else

pub returns-clause-state : goal.returns-clause-state
returns-clause-state c = shows_what_it_stands_for

pub returns-clause-low_sections : goal.returns-clause-low_sections
returns-clause-low_sections c = shows_low_sections

pub returns-clause-live : goal.returns-clause-live
returns-clause-live c = shows_who_is_live
