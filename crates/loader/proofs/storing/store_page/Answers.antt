use Rattle.std.proofs.Common.{ℕ, ◌<◌, ◌≤◌, ◌+◌, ◌∷◌, [], List, ap, sym, subst, ◌∙◌, length}
use Rattle.words_layout.specs.Segments.{seg_number}
use Rattle.words_layout.specs.Words.{HomeOf, PageTenant}
use Rattle.words_layout.specs.Coding.{pack_home}
use Rattle.words_layout.specs.declared.coding.Home.TheVariants as H
use Rattle.loader.specs.Stores.{IsStorable, kept_words, store_in, word_stores}
use Rattle.loader.proofs.StoreSteps.{same_layout, after_two}
use Rattle.loader.proofs.storing.store_page.Goals as goal

pub store_tenant-requires-clause-few : goal.store_tenant-requires-clause-few
store_tenant-requires-clause-few c = subst (λ n. n ≤ 16) (same_layout c.args.words.now c.store_home.new.words (store_in c.args.class (HomeOf c.args.segment.now.seg) (pack_home (H.Stored c.args.page c.args.segment.now.size)) ∷ []) c.store_home.ensures) c.requires.few

pub store_tenant-requires-clause-class : goal.store_tenant-requires-clause-class
store_tenant-requires-clause-class c = subst (λ n. c.args.class < n) (same_layout c.args.words.now c.store_home.new.words (store_in c.args.class (HomeOf c.args.segment.now.seg) (pack_home (H.Stored c.args.page c.args.segment.now.size)) ∷ []) c.store_home.ensures) c.requires.class

pub store_tenant-requires-clause-record : goal.store_tenant-requires-clause-record
store_tenant-requires-clause-record c = subst (λ n. IsStorable n c.args.segment.now) (same_layout c.args.words.now c.store_home.new.words (store_in c.args.class (HomeOf c.args.segment.now.seg) (pack_home (H.Stored c.args.page c.args.segment.now.size)) ∷ []) c.store_home.ensures) c.requires.record

pub store_words-requires-clause-few : goal.store_words-requires-clause-few
store_words-requires-clause-few c =
    subst (λ n. n ≤ 16) (same_layout c.args.words.now c.store_home.new.words (store_in c.args.class (HomeOf c.args.segment.now.seg) (pack_home (H.Stored c.args.page c.args.segment.now.size)) ∷ []) c.store_home.ensures ∙ same_layout c.store_home.new.words c.store_tenant.new.words (store_in c.args.class (PageTenant c.args.page) (seg_number c.args.segment.now.seg + 1) ∷ []) c.store_tenant.ensures) c.requires.few

pub store_words-requires-clause-class : goal.store_words-requires-clause-class
store_words-requires-clause-class c =
    subst (λ n. c.args.class < n) (same_layout c.args.words.now c.store_home.new.words (store_in c.args.class (HomeOf c.args.segment.now.seg) (pack_home (H.Stored c.args.page c.args.segment.now.size)) ∷ []) c.store_home.ensures ∙ same_layout c.store_home.new.words c.store_tenant.new.words (store_in c.args.class (PageTenant c.args.page) (seg_number c.args.segment.now.seg + 1) ∷ []) c.store_tenant.ensures) c.requires.class

pub store_words-requires-clause-size : goal.store_words-requires-clause-size
store_words-requires-clause-size c = subst (λ (ws : List ℕ). length ws ≤ 64) c.requires.words c.requires.record.words

pub returns : goal.returns
returns c =
    after_two c.args.words.now c.store_home.new.words c.store_tenant.new.words c.store_words.new.words
    (store_in c.args.class (HomeOf c.args.segment.now.seg) (pack_home (H.Stored c.args.page c.args.segment.now.size))) (store_in c.args.class (PageTenant c.args.page) (seg_number c.args.segment.now.seg + 1))
    (word_stores c.args.class c.args.page c.args.kept.now) (word_stores c.args.class c.args.page (kept_words c.args.segment.now)) c.store_home.ensures c.store_tenant.ensures c.store_words.ensures (ap (word_stores c.args.class c.args.page) (sym c.requires.words))
