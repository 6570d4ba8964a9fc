use Rattle.std.proofs.Common.{ℕ, ◌*◌, ◌/◌, ◌<◌, ◌+◌, ◌≡◌, ◌∷◌, [], List, refl, ap, subst, ◌∙◌, arith, length, map}
use Rattle.std.specs.Prelude.{slice_index}
use Rattle.lists.specs.Lists.{below}
use Rattle.words_layout.specs.Words.{PageWord}
use Rattle.loader.specs.Stores.{WordStore, store_in, after_stores}
use Rattle.loader.proofs.StoredWords.{word_fits, there}
use Rattle.loader.proofs.StoreSteps.{added, one_stored, same_layout, words_more}
use Rattle.loader.proofs.storing.store_words.Goals as goal

-- the store of a word of the page
abbrev word_store : ℕ → ℕ → List ℕ → ℕ → WordStore
word_store c g kept i = store_in c (PageWord g i) (slice_index kept i)

pub store-requires : goal.store-requires
store-requires c =
    let n = length c.args.words.now / 34869 in
    let small : c.loop-place.place < 64 = omega (arith, c.loop-place-test.true, c.requires.size) in
    subst (λ m. c.page_word_addr-addr.result.0 < 34869 * m) (same_layout c.args.words.now c.loop-place.words (map (word_store c.args.class c.args.page c.args.kept.now) (below c.loop-place.place)) c.loop-place.invariant)
    (there n (word_store c.args.class c.args.page c.args.kept.now c.loop-place.place) c.page_word_addr-addr.result.0 (word_fits n c.args.class c.requires.class c.args.page c.loop-place.place (slice_index c.args.kept.now c.loop-place.place) c.requires.page small)
    c.page_word_addr-addr.ensures)

pub loop-place-preserved : goal.loop-place-preserved
loop-place-preserved c =
    let f = word_store c.args.class c.args.page c.args.kept.now in
    added c.args.words.now c.loop-place.words c.store.new.words (map f (below c.loop-place.place)) (f c.loop-place.place ∷ []) (map f (below (c.loop-place.place + 1)))
    c.loop-place.invariant (one_stored c.loop-place.words c.store.new.words (f c.loop-place.place) c.page_word_addr-addr.result.0 (slice_index c.args.kept.now c.loop-place.place) c.store.ensures c.page_word_addr-addr.ensures refl)
    (words_more c.args.class c.args.page c.args.kept.now c.loop-place.place)

pub returns : goal.returns
returns c =
    let same : c.loop-place.place ≡ length c.args.kept.now = omega arith in
    c.loop-place.invariant ∙ ap (λ n. after_stores c.args.words.now (map (word_store c.args.class c.args.page c.args.kept.now) (below n))) same
