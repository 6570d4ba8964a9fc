use Rattle.std.proofs.Common.{◌≡◌, ◌*◌, replicate}
use Rattle.std.specs.List.{flat_map}
use Rattle.lists.specs.Lists.{below}
use Rattle.loader.specs.Stores.{after_stores, class_stores}
use Rattle.loader.proofs.storing.words_with.Given as goal

abbrev pub invariant-loop-class : goal.invariant-loop-class
invariant-loop-class l = l.words ≡ after_stores (replicate (34869 * l.classes) 0) (flat_map (class_stores l.records) (below l.class))
