use Rattle.std.proofs.Common.{rules, Some, None}
use Rattle.words_layout.proofs.Spellings.{none_of_same}
use Rattle.words_layout.proofs.coding.unpack_alias.Goals as goal

pub returns-then-word-eq0-clause-none : goal.returns-then-word-eq0-clause-none
returns-then-word-eq0-clause-none c = none_of_same c.args.word (Some None) (search rules)

pub returns-then-pack_entry-word-clause-none : goal.returns-then-pack_entry-word-clause-none
returns-then-pack_entry-word-clause-none c = none_of_same c.args.word (Some (Some c.read_alias-alias.result)) (search rules)
