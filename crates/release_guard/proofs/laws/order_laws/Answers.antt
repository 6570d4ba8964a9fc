use Rattle.release_guard.proofs.OrderLaws.{both_ways, one_order, never_both, one_or_fault, one_fault}
use Rattle.release_guard.proofs.laws.order_laws.Goals as goal

pub returns-clause-said : goal.returns-clause-said
returns-clause-said c = both_ways

pub returns-clause-one : goal.returns-clause-one
returns-clause-one c = one_order

pub returns-clause-apart : goal.returns-clause-apart
returns-clause-apart c = never_both

pub returns-clause-always : goal.returns-clause-always
returns-clause-always c = one_or_fault

pub returns-clause-one_fault : goal.returns-clause-one_fault
returns-clause-one_fault c = one_fault
