use Rattle.std.proofs.Common.{◌/◌, ◌≡◌, true, ap, sym, subst, ◌∙◌, length}
use Rattle.words_layout.specs.Words.{HomeOf, Guarded, address}
use Rattle.words_layout.specs.Coding.{pack_home, home_in_range}
use Rattle.words_layout.specs.declared.coding.Home.TheVariants as H
use Rattle.class_model.specs.Config.{SegRecord}
use Rattle.loader.specs.Stores.{IsStorable, store_in}
use Rattle.loader.proofs.StoredWords.{home_fits, there}
use Rattle.loader.proofs.StoreSteps.{one_stored, home_spelled}
use Rattle.loader.proofs.storing.store_home.Goals as goal

pub home_addr-addr-requires-clause-seg : goal.home_addr-addr-requires-clause-seg
home_addr-addr-requires-clause-seg c =
    let r = subst (IsStorable (length c.args.words.now / 34869)) (sym c.segment.view_is) c.requires.record in r.seg

pub pack_home-requires : goal.pack_home-requires
pack_home-requires c =
    subst (λ (r : SegRecord). home_in_range (H.Stored c.args.page r.size) ≡ true) (sym c.segment.view_is) (home_spelled (length c.args.words.now / 34869) c.args.page c.args.segment.now c.requires.record c.requires.page)

pub store-requires : goal.store-requires
store-requires c =
    there (length c.args.words.now / 34869) (store_in c.args.class (HomeOf c.args.segment.now.seg) 0) c.home_addr-addr.result.0
    (home_fits (length c.args.words.now / 34869) c.args.class c.requires.class c.args.segment.now.seg 0 c.requires.record.seg)
    (c.home_addr-addr.ensures ∙ ap (λ (r : SegRecord). address c.args.class (Guarded (HomeOf r.seg))) c.segment.view_is)

pub returns : goal.returns
returns c =
    one_stored c.args.words.now c.store.new.words (store_in c.args.class (HomeOf c.args.segment.now.seg) (pack_home (H.Stored c.args.page c.args.segment.now.size))) c.home_addr-addr.result.0 c.pack_home.result c.store.ensures
    (c.home_addr-addr.ensures ∙ ap (λ (r : SegRecord). address c.args.class (Guarded (HomeOf r.seg))) c.segment.view_is)
    (c.pack_home.ensures ∙ ap (λ (r : SegRecord). pack_home (H.Stored c.args.page r.size)) c.segment.view_is)
