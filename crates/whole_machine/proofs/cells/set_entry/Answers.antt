use Rattle.std.proofs.Common.{◌<◌, length, List, sym, subst, ap}
use Rattle.class_model.specs.State.{Cell}
use Rattle.class_model.specs.Step.{with_entry}
use Rattle.whole_machine.specs.Parts.{Listed}
use Rattle.whole_machine.specs.Pools.{uses}
use Rattle.whole_machine.specs.declared.pools.Pooled.TheVariants as P
use Rattle.whole_machine.proofs.KeptCells.{kept_alike}
use Rattle.whole_machine.proofs.Changes.{cells_after, places_kept}
use Rattle.whole_machine.proofs.cells.set_entry.Goals as goal

pub returns-clause-changed : goal.returns-clause-changed
returns-clause-changed c =
    let cells = c.cells.inside.items.items in
    let now = c.args.cells.now in
    let at = c.args.at in
    let item : Listed = record { seg = c.item.inside.seg; cell = c.item.inside.cell } in
    let read = c.index_mut-item.result.now in
    cells_after cells now c.cells.view_is at item read c.set_entry.new.self (λ (x : Cell). with_entry x c.args.number c.args.entry) c.item.view_is c.index_mut-item.ensures.value c.set_entry.ensures

pub returns-clause-kept : goal.returns-clause-kept
returns-clause-kept c =
    let cells = c.cells.inside.items.items in
    let now = c.args.cells.now in
    let at = c.args.at in
    let item : Listed = record { seg = c.item.inside.seg; cell = c.item.inside.cell } in
    let read = c.index_mut-item.result.now in
    places_kept cells now c.cells.view_is at item read c.set_entry.new.self c.item.view_is c.index_mut-item.ensures.value c.requires.inside

pub invariant_of-cells : goal.invariant_of-cells
invariant_of-cells c =
    let item : Listed = record { seg = c.item.inside.seg; cell = c.item.inside.cell } in
    let cells = c.cells.inside.items.items in
    let lt : c.args.at < length cells = subst (λ (xs : List Listed). c.args.at < length xs) (sym c.cells.view_is) c.requires.inside in
    kept_alike cells c.cells.inside.keys.keys c.cells.inside.frames c.cells.inside.pages c.cells.invariant c.args.at item c.index_mut-item.result.now c.set_entry.new.self c.item.view_is c.index_mut-item.ensures.value lt (ap (uses P.Frame) c.set_entry.ensures) (ap (uses P.Page) c.set_entry.ensures)
