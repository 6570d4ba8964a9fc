use Rattle.words_layout.proofs.Addresses.{addresses_apart, class_of-address, address_limit}
use Rattle.words_layout.proofs.laws.address_laws.Goals as goal

pub returns-clause-apart : goal.returns-clause-apart
returns-clause-apart c = addresses_apart

pub returns-clause-class : goal.returns-clause-class
returns-clause-class c = class_of-address

pub returns-clause-within : goal.returns-clause-within
returns-clause-within c = address_limit
