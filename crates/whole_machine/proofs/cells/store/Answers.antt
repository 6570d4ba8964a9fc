use Rattle.std.proofs.Common.{◌<◌, length, List, set, sym, subst}
use Rattle.whole_machine.specs.Pools.{uses_at}
use Rattle.whole_machine.specs.declared.pools.Pooled.TheVariants as P
use Rattle.whole_machine.proofs.KeptCells.{uses_change, kept_with}
use Rattle.whole_machine.specs.Building.{storing}
use Rattle.whole_machine.specs.Parts.{Listed}
use Rattle.whole_machine.proofs.Changes.{cells_after}
use Rattle.whole_machine.proofs.Recorded.{words_of}
use Rattle.whole_machine.proofs.cells.store.Goals as goal

pub returns : goal.returns
returns c =
    let cells = c.cells.inside.items.items in
    let now = c.args.cells.now in
    let at = c.args.at in
    let item : Listed = record { seg = c.item.inside.seg; cell = c.item.inside.cell } in
    let read = c.index_mut-item.result.now in
    cells_after cells now c.cells.view_is at item read c.store.new.self (storing (words_of c.args.kept (λ v. v.items))) c.item.view_is c.index_mut-item.ensures.value c.store.ensures

pub recount-requires : goal.recount-requires
recount-requires c =
    let cells = c.cells.inside.items.items in
    let keys = c.cells.inside.keys.keys in
    let frames = c.cells.inside.frames in
    let pages = c.cells.inside.pages in
    let kept = c.cells.invariant in
    let at = c.args.at in
    let item : Listed = record { seg = c.item.inside.seg; cell = c.item.inside.cell } in
    let read = c.index_mut-item.result.now in
    let lt : at < length cells = subst (λ (xs : List Listed). at < length xs) (sym c.cells.view_is) c.requires in
    let new = c.store.new.self in
    let after : List Listed = set cells at (record { seg = item.seg; cell = new }) in
    let frame = uses_change cells keys frames pages kept at item read new c.item.view_is c.index_mut-item.ensures.value lt P.Frame c.is_in-was_in.result c.is_in-is_in.result c.is_in-was_in.ensures c.is_in-is_in.ensures in
    (uses_at P.Frame cells, uses_at P.Frame after, frame, kept.frames)

pub recount-requires-2 : goal.recount-requires-2
recount-requires-2 c =
    let cells = c.cells.inside.items.items in
    let keys = c.cells.inside.keys.keys in
    let frames = c.cells.inside.frames in
    let pages = c.cells.inside.pages in
    let kept = c.cells.invariant in
    let at = c.args.at in
    let item : Listed = record { seg = c.item.inside.seg; cell = c.item.inside.cell } in
    let read = c.index_mut-item.result.now in
    let lt : at < length cells = subst (λ (xs : List Listed). at < length xs) (sym c.cells.view_is) c.requires in
    let new = c.store.new.self in
    let after : List Listed = set cells at (record { seg = item.seg; cell = new }) in
    let page = uses_change cells keys frames pages kept at item read new c.item.view_is c.index_mut-item.ensures.value lt P.Page c.has_stored-had_stored.result c.has_stored-has_stored.result c.has_stored-had_stored.ensures c.has_stored-has_stored.ensures in
    (uses_at P.Page cells, uses_at P.Page after, page, kept.pages)

pub invariant_of-cells : goal.invariant_of-cells
invariant_of-cells c =
    let cells = c.cells.inside.items.items in
    let keys = c.cells.inside.keys.keys in
    let frames = c.cells.inside.frames in
    let pages = c.cells.inside.pages in
    let kept = c.cells.invariant in
    let at = c.args.at in
    let item : Listed = record { seg = c.item.inside.seg; cell = c.item.inside.cell } in
    let read = c.index_mut-item.result.now in
    let lt : at < length cells = subst (λ (xs : List Listed). at < length xs) (sym c.cells.view_is) c.requires in
    let new = c.store.new.self in
    let after : List Listed = set cells at (record { seg = item.seg; cell = new }) in
    let frame = uses_change cells keys frames pages kept at item read new c.item.view_is c.index_mut-item.ensures.value lt P.Frame c.is_in-was_in.result c.is_in-is_in.result c.is_in-was_in.ensures c.is_in-is_in.ensures in
    let page = uses_change cells keys frames pages kept at item read new c.item.view_is c.index_mut-item.ensures.value lt P.Page c.has_stored-had_stored.result c.has_stored-has_stored.result c.has_stored-had_stored.ensures c.has_stored-has_stored.ensures in
    kept_with cells keys frames pages kept at item read new c.item.view_is c.index_mut-item.ensures.value lt c.recount.new.numbers c.recount-2.new.numbers
    (c.recount.ensures (uses_at P.Frame cells) (uses_at P.Frame after) frame kept.frames) (c.recount-2.ensures (uses_at P.Page cells) (uses_at P.Page after) page kept.pages)
