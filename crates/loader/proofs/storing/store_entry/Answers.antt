use Rattle.std.proofs.Common.{◌/◌, arith, ap, sym, subst, ◌∙◌, Some, length}
use Rattle.words_layout.specs.Words.{EntryOf, Guarded, address}
use Rattle.words_layout.specs.Coding.{pack_alias}
use Rattle.words_layout.specs.declared.coding.Alias.{Alias}
use Rattle.class_model.specs.Config.{SegRecord}
use Rattle.loader.specs.Stores.{IsStorable, entry_store}
use Rattle.loader.proofs.StoredWords.{entry_fits, there}
use Rattle.loader.proofs.StoreSteps.{one_stored}
use Rattle.loader.proofs.storing.store_entry.Goals as goal

pub entry_addr-addr-requires-clause-class : goal.entry_addr-addr-requires-clause-class
entry_addr-addr-requires-clause-class c =
    let r = subst (IsStorable (length c.args.words.now / 34869)) (sym c.segment.view_is) c.requires.record in omega (arith, r.under, c.requires.few)

pub entry_addr-addr-requires-clause-seg : goal.entry_addr-addr-requires-clause-seg
entry_addr-addr-requires-clause-seg c =
    let r = subst (IsStorable (length c.args.words.now / 34869)) (sym c.segment.view_is) c.requires.record in r.mentor

pub entry_addr-addr-requires-clause-entry : goal.entry_addr-addr-requires-clause-entry
entry_addr-addr-requires-clause-entry c =
    let r = subst (IsStorable (length c.args.words.now / 34869)) (sym c.segment.view_is) c.requires.record in r.entry

pub store-requires : goal.store-requires
store-requires c =
    there (length c.args.words.now / 34869) (entry_store c.args.segment.now) c.entry_addr-addr.result.0 (entry_fits (length c.args.words.now / 34869) c.args.segment.now c.requires.record)
    (c.entry_addr-addr.ensures ∙ ap (λ (r : SegRecord). address r.seg.mentor (Guarded (EntryOf r.mentor r.entry))) c.segment.view_is)

pub returns : goal.returns
returns c =
    one_stored c.args.words.now c.store.new.words (entry_store c.args.segment.now) c.entry_addr-addr.result.0 c.pack_alias.result c.store.ensures
    (c.entry_addr-addr.ensures ∙ ap (λ (r : SegRecord). address r.seg.mentor (Guarded (EntryOf r.mentor r.entry))) c.segment.view_is)
    (c.pack_alias.ensures ∙ ap (λ (a : Alias). pack_alias (Some a)) c.alias_of-alias.ensures)
