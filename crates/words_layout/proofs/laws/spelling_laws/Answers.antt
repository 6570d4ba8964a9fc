use Rattle.words_layout.proofs.CodingLaws.{unpack_home-pack_home}
use Rattle.words_layout.proofs.Spellings.{entries_come_back}
use Rattle.words_layout.proofs.laws.spelling_laws.Goals as goal

pub returns-clause-homes : goal.returns-clause-homes
returns-clause-homes c = unpack_home-pack_home

pub returns-clause-entries : goal.returns-clause-entries
returns-clause-entries c = entries_come_back
