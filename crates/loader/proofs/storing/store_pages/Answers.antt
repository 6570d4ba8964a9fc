use Rattle.std.proofs.Common.{◌/◌, ◌<◌, ◌≤◌, ◌+◌, refl, ap, sym, subst, ◌∙◌, arith, length, take}
use Rattle.std.proofs.lemmas.List.{take_all}
use Rattle.std.specs.List.{filter}
use Rattle.loader.specs.Records.{is_kept}
use Rattle.loader.specs.Stores.{IsStorable, after_stores, pages_from}
use Rattle.loader.proofs.StoreSteps.{added, same_layout, kept_stores, pages_more, count_more, page_there}
use Rattle.loader.proofs.storing.store_pages.Goals as goal

pub loop-segment-init : goal.loop-segment-init
loop-segment-init c = record { page_is = refl; words_are = refl }

pub store_kept-page-requires-clause-few : goal.store_kept-page-requires-clause-few
store_kept-page-requires-clause-few c =
    subst (λ n. n ≤ 16) (same_layout c.args.words.now c.loop-segment.words (pages_from c.args.class 0 (filter (is_kept c.args.class) (take c.loop-segment.segment-index c.args.records.now))) c.loop-segment.invariant.words_are) c.requires.few

pub store_kept-page-requires-clause-class : goal.store_kept-page-requires-clause-class
store_kept-page-requires-clause-class c =
    subst (λ n. c.args.class < n) (same_layout c.args.words.now c.loop-segment.words (pages_from c.args.class 0 (filter (is_kept c.args.class) (take c.loop-segment.segment-index c.args.records.now))) c.loop-segment.invariant.words_are) c.requires.class

pub store_kept-page-requires-clause-page : goal.store_kept-page-requires-clause-page
store_kept-page-requires-clause-page c = λ kept.
    page_there c.args.class c.args.records.now c.loop-segment.segment-index c.segment-item.result c.loop-segment-test.true c.segment-item.is c.loop-segment.page c.loop-segment.invariant.page_is c.requires.pages kept

pub store_kept-page-requires-clause-record : goal.store_kept-page-requires-clause-record
store_kept-page-requires-clause-record c =
    subst (λ n. IsStorable n c.segment-item.result) (same_layout c.args.words.now c.loop-segment.words (pages_from c.args.class 0 (filter (is_kept c.args.class) (take c.loop-segment.segment-index c.args.records.now))) c.loop-segment.invariant.words_are)
    (subst (IsStorable (length c.args.words.now / 34869)) (sym c.segment-item.is) (c.requires.records c.loop-segment.segment-index c.segment-item.result c.loop-segment-test.true))

pub loop-segment-preserved : goal.loop-segment-preserved
loop-segment-preserved c = record {
  page_is = count_more c.args.class c.args.records.now c.loop-segment.segment-index c.segment-item.result c.loop-segment-test.true c.segment-item.is c.loop-segment.page c.store_kept-page.result c.loop-segment.invariant.page_is c.store_kept-page.ensures.page;
  words_are = added c.args.words.now c.loop-segment.words c.store_kept-page.new.words (pages_from c.args.class 0 (filter (is_kept c.args.class) (take c.loop-segment.segment-index c.args.records.now)))
      (kept_stores c.args.class c.loop-segment.page c.segment-item.result) (pages_from c.args.class 0 (filter (is_kept c.args.class) (take (c.loop-segment.segment-index + 1) c.args.records.now)))
      c.loop-segment.invariant.words_are c.store_kept-page.ensures.words
      (pages_more c.args.class c.args.records.now c.loop-segment.segment-index c.segment-item.result c.loop-segment-test.true c.segment-item.is c.loop-segment.page c.loop-segment.invariant.page_is);
}

pub returns : goal.returns
returns c =
    let past : length c.args.records.now ≤ c.loop-segment.segment-index = omega (arith, c.loop-segment-test.false) in
    c.loop-segment.invariant.words_are ∙ ap (λ t. after_stores c.args.words.now (pages_from c.args.class 0 (filter (is_kept c.args.class) t))) (take_all c.loop-segment.segment-index c.args.records.now past)
