use Rattle.std.proofs.Common.{◌≡◌, drop}
use Rattle.lists.specs.Lists.{overwrite}
use Rattle.class_model.proofs.process.write_over.Given as goal

abbrev pub invariant-loop-word : goal.invariant-loop-word
invariant-loop-word l = overwrite l.list l.place (drop l.word-index l.words) ≡ overwrite l.fn.list l.at l.words
