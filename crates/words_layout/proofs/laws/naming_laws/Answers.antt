use Rattle.words_layout.proofs.ByName.{operations_go_by_name, named_operations_are_within, fresh_words_are_zero}
use Rattle.words_layout.proofs.laws.naming_laws.Goals as goal

pub returns-clause-by_name : goal.returns-clause-by_name
returns-clause-by_name c = operations_go_by_name

pub returns-clause-within : goal.returns-clause-within
returns-clause-within c = named_operations_are_within

pub returns-clause-fresh : goal.returns-clause-fresh
returns-clause-fresh c = fresh_words_are_zero
