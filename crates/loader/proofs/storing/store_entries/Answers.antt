use Rattle.std.proofs.Common.{◌/◌, ◌≤◌, ◌+◌, ◌∷◌, [], ap, sym, subst, ◌∙◌, arith, length, map, take}
use Rattle.std.proofs.lemmas.List.{take_all}
use Rattle.loader.specs.Stores.{IsStorable, after_stores, entry_store}
use Rattle.loader.proofs.StoreSteps.{added, same_layout, entries_more}
use Rattle.loader.proofs.storing.store_entries.Goals as goal

pub store_entry-requires-clause-few : goal.store_entry-requires-clause-few
store_entry-requires-clause-few c =
    subst (λ n. n ≤ 16) (same_layout c.args.words.now c.loop-segment.words (map entry_store (take c.loop-segment.segment-index c.args.records.now)) c.loop-segment.invariant) c.requires.few

pub store_entry-requires-clause-record : goal.store_entry-requires-clause-record
store_entry-requires-clause-record c =
    subst (λ n. IsStorable n c.segment-item.result) (same_layout c.args.words.now c.loop-segment.words (map entry_store (take c.loop-segment.segment-index c.args.records.now)) c.loop-segment.invariant)
    (subst (IsStorable (length c.args.words.now / 34869)) (sym c.segment-item.is) (c.requires.records c.loop-segment.segment-index c.segment-item.result c.loop-segment-test.true))

pub loop-segment-preserved : goal.loop-segment-preserved
loop-segment-preserved c =
    added c.args.words.now c.loop-segment.words c.store_entry.new.words (map entry_store (take c.loop-segment.segment-index c.args.records.now)) (entry_store c.segment-item.result ∷ []) (map entry_store (take (c.loop-segment.segment-index + 1) c.args.records.now))
    c.loop-segment.invariant c.store_entry.ensures (entries_more c.args.records.now c.loop-segment.segment-index c.segment-item.result c.loop-segment-test.true c.segment-item.is)

pub returns : goal.returns
returns c =
    let past : length c.args.records.now ≤ c.loop-segment.segment-index = omega (arith, c.loop-segment-test.false) in
    c.loop-segment.invariant ∙ ap (λ t. after_stores c.args.words.now (map entry_store t)) (take_all c.loop-segment.segment-index c.args.records.now past)
