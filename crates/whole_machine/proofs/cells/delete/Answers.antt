use Rattle.std.proofs.Common.{None, ◌<◌, length, List, set, sym, subst, ap, false}
use Rattle.whole_machine.specs.Pools.{uses, uses_at}
use Rattle.whole_machine.specs.declared.pools.Pooled.TheVariants as P
use Rattle.whole_machine.proofs.KeptCells.{uses_change, kept_with}
use Rattle.class_model.specs.State.{Cell, Deleted}
use Rattle.whole_machine.specs.Parts.{Listed}
use Rattle.whole_machine.proofs.Changes.{cells_after, places_kept}
use Rattle.whole_machine.proofs.cells.delete.Goals as goal

pub returns-clause-changed : goal.returns-clause-changed
returns-clause-changed c =
    let cells = c.cells.inside.items.items in
    let now = c.args.cells.now in
    let at = c.args.at in
    let item : Listed = record { seg = c.item.inside.seg; cell = c.item.inside.cell } in
    let read = c.index_mut-item.result.now in
    cells_after cells now c.cells.view_is at item read c.delete.new.self (λ (x : Cell). record x { home = Deleted; stored = None }) c.item.view_is c.index_mut-item.ensures.value c.delete.ensures

pub returns-clause-kept : goal.returns-clause-kept
returns-clause-kept c =
    let cells = c.cells.inside.items.items in
    let now = c.args.cells.now in
    let at = c.args.at in
    let item : Listed = record { seg = c.item.inside.seg; cell = c.item.inside.cell } in
    let read = c.index_mut-item.result.now in
    places_kept cells now c.cells.view_is at item read c.delete.new.self c.item.view_is c.index_mut-item.ensures.value c.requires

pub recount-requires : goal.recount-requires
recount-requires c =
    let cells = c.cells.inside.items.items in
    let keys = c.cells.inside.keys.keys in
    let frames = c.cells.inside.frames in
    let pages = c.cells.inside.pages in
    let kept = c.cells.invariant in
    let at = c.args.at in
    let item : Listed = record { seg = c.item.inside.seg; cell = c.item.inside.cell } in
    let read = c.index_mut-item.result.now in
    let lt : at < length cells = subst (λ (xs : List Listed). at < length xs) (sym c.cells.view_is) c.requires in
    let new = c.delete.new.self in
    let after : List Listed = set cells at (record { seg = item.seg; cell = new }) in
    let frame = uses_change cells keys frames pages kept at item read new c.item.view_is c.index_mut-item.ensures.value lt P.Frame c.is_in-was_in.result false c.is_in-was_in.ensures (sym (ap (uses P.Frame) c.delete.ensures)) in
    (uses_at P.Frame cells, uses_at P.Frame after, frame, kept.frames)

pub recount-requires-2 : goal.recount-requires-2
recount-requires-2 c =
    let cells = c.cells.inside.items.items in
    let keys = c.cells.inside.keys.keys in
    let frames = c.cells.inside.frames in
    let pages = c.cells.inside.pages in
    let kept = c.cells.invariant in
    let at = c.args.at in
    let item : Listed = record { seg = c.item.inside.seg; cell = c.item.inside.cell } in
    let read = c.index_mut-item.result.now in
    let lt : at < length cells = subst (λ (xs : List Listed). at < length xs) (sym c.cells.view_is) c.requires in
    let new = c.delete.new.self in
    let after : List Listed = set cells at (record { seg = item.seg; cell = new }) in
    let page = uses_change cells keys frames pages kept at item read new c.item.view_is c.index_mut-item.ensures.value lt P.Page c.has_stored-had_stored.result false c.has_stored-had_stored.ensures (sym (ap (uses P.Page) c.delete.ensures)) in
    (uses_at P.Page cells, uses_at P.Page after, page, kept.pages)

pub invariant_of-cells : goal.invariant_of-cells
invariant_of-cells c =
    let cells = c.cells.inside.items.items in
    let keys = c.cells.inside.keys.keys in
    let frames = c.cells.inside.frames in
    let pages = c.cells.inside.pages in
    let kept = c.cells.invariant in
    let at = c.args.at in
    let item : Listed = record { seg = c.item.inside.seg; cell = c.item.inside.cell } in
    let read = c.index_mut-item.result.now in
    let lt : at < length cells = subst (λ (xs : List Listed). at < length xs) (sym c.cells.view_is) c.requires in
    let new = c.delete.new.self in
    let after : List Listed = set cells at (record { seg = item.seg; cell = new }) in
    let frame = uses_change cells keys frames pages kept at item read new c.item.view_is c.index_mut-item.ensures.value lt P.Frame c.is_in-was_in.result false c.is_in-was_in.ensures (sym (ap (uses P.Frame) c.delete.ensures)) in
    let page = uses_change cells keys frames pages kept at item read new c.item.view_is c.index_mut-item.ensures.value lt P.Page c.has_stored-had_stored.result false c.has_stored-had_stored.ensures (sym (ap (uses P.Page) c.delete.ensures)) in
    kept_with cells keys frames pages kept at item read new c.item.view_is c.index_mut-item.ensures.value lt c.recount.new.numbers c.recount-2.new.numbers
    (c.recount.ensures (uses_at P.Frame cells) (uses_at P.Frame after) frame kept.frames) (c.recount-2.ensures (uses_at P.Page cells) (uses_at P.Page after) page kept.pages)
