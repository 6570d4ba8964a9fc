use Rattle.std.proofs.Common.{ℕ, ◌*◌, ◌+◌, ◌++◌, ◌≡◌, List, ap, sym, subst, ◌∙◌, arith, map, replicate}
use Rattle.std.specs.List.{All, flat_map}
use Rattle.lists.specs.Lists.{below}
use Rattle.words_layout.specs.Named.{words_in}
use Rattle.class_model.specs.Config.{SegRecord}
use Rattle.loader.specs.Stores.{IsStorable, after_stores, entry_store, class_stores, stores_of}
use Rattle.loader.proofs.StoreSteps.{added, layout_is, groups_more}
use Rattle.loader.proofs.Opened.{words_open}
use Rattle.loader.proofs.storing.words_with.Goals as goal

pub store_class-requires-clause-few : goal.store_class-requires-clause-few
store_class-requires-clause-few c =
    let same = layout_is c.args.classes c.loop-class.words (flat_map (class_stores c.args.records.now) (below c.loop-class.class)) c.loop-class.invariant in
    omega (arith, same, c.requires.classes.1)

pub store_class-requires-clause-class : goal.store_class-requires-clause-class
store_class-requires-clause-class c =
    let same = layout_is c.args.classes c.loop-class.words (flat_map (class_stores c.args.records.now) (below c.loop-class.class)) c.loop-class.invariant in
    omega (arith, same, c.loop-class-test.true)

pub store_class-requires-clause-records : goal.store_class-requires-clause-records
store_class-requires-clause-records c =
    subst (λ n. All (IsStorable n) c.args.records.now) (sym (layout_is c.args.classes c.loop-class.words (flat_map (class_stores c.args.records.now) (below c.loop-class.class)) c.loop-class.invariant)) c.requires.records.each

pub store_class-requires-clause-pages : goal.store_class-requires-clause-pages
store_class-requires-clause-pages c = c.requires.records.pages c.loop-class.class c.loop-class-test.true

pub loop-class-preserved : goal.loop-class-preserved
loop-class-preserved c =
    let rs = c.args.records.now in
    added (replicate (34869 * c.args.classes) 0) c.loop-class.words c.store_class.new.words (flat_map (class_stores rs) (below c.loop-class.class)) (class_stores rs c.loop-class.class) (flat_map (class_stores rs) (below (c.loop-class.class + 1)))
    c.loop-class.invariant c.store_class.ensures (groups_more (class_stores rs) c.loop-class.class)

pub store_entries-requires-clause-few : goal.store_entries-requires-clause-few
store_entries-requires-clause-few c =
    let same = layout_is c.args.classes c.loop-class.words (flat_map (class_stores c.args.records.now) (below c.loop-class.class)) c.loop-class.invariant in
    omega (arith, same, c.requires.classes.1)

pub store_entries-requires-clause-records : goal.store_entries-requires-clause-records
store_entries-requires-clause-records c =
    subst (λ n. All (IsStorable n) c.args.records.now) (sym (layout_is c.args.classes c.loop-class.words (flat_map (class_stores c.args.records.now) (below c.loop-class.class)) c.loop-class.invariant)) c.requires.records.each

-- all stores were made
made : (n m : ℕ) (rs : List SegRecord) (before after : List ℕ) → m ≡ n → before ≡ after_stores (replicate (34869 * n) 0) (flat_map (class_stores rs) (below m)) → after ≡ after_stores before (map entry_store rs) →
    after ≡ after_stores (replicate (34869 * n) 0) (stores_of n rs)
made n m rs before after same is more =
    added (replicate (34869 * n) 0) before after (flat_map (class_stores rs) (below m)) (map entry_store rs) (stores_of n rs) is more (ap (λ i. flat_map (class_stores rs) (below i) ++ map entry_store rs) same)

pub returns-clause-words : goal.returns-clause-words
returns-clause-words c = λ k same d.
    (let all : c.loop-class.class ≡ c.args.classes = omega arith in
    ap (λ ws. words_in ws d) (made c.args.classes c.loop-class.class c.args.records.now c.loop-class.words c.store_entries.new.words all c.loop-class.invariant c.store_entries.ensures)
    ∙ words_open c.args.classes c.args.records.now c.requires.records c.requires.classes.0 k same d)

pub returns-clause-layout : goal.returns-clause-layout
returns-clause-layout c =
    let all : c.loop-class.class ≡ c.args.classes = omega arith in
    layout_is c.args.classes c.store_entries.new.words (stores_of c.args.classes c.args.records.now)
    (made c.args.classes c.loop-class.class c.args.records.now c.loop-class.words c.store_entries.new.words all c.loop-class.invariant c.store_entries.ensures)
