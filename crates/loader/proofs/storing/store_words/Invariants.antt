use Rattle.std.proofs.Common.{◌≡◌, map}
use Rattle.std.specs.Prelude.{slice_index}
use Rattle.lists.specs.Lists.{below}
use Rattle.words_layout.specs.Words.{PageWord}
use Rattle.loader.specs.Stores.{after_stores, store_in}
use Rattle.loader.proofs.storing.store_words.Given as goal

abbrev pub invariant-loop-place : goal.invariant-loop-place
invariant-loop-place l = l.words ≡ after_stores l.initial.words (map (λ j. store_in l.class (PageWord l.page j) (slice_index l.kept j)) (below l.place))
