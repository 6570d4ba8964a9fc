use Rattle.std.proofs.Common.{◌<◌, length, List, sym, subst, ◌+◌, ◌∙◌, ap}
use Rattle.class_model.specs.State.{Cell}
use Rattle.whole_machine.specs.Parts.{Listed}
use Rattle.whole_machine.specs.Pools.{uses}
use Rattle.whole_machine.specs.declared.pools.Pooled.TheVariants as P
use Rattle.whole_machine.proofs.KeptCells.{kept_alike}
use Rattle.whole_machine.proofs.Changes.{cells_after, read_cell}
use Rattle.whole_machine.proofs.cells.draw.Goals as goal

pub returns-clause-ok : goal.returns-clause-ok
returns-clause-ok c =
    let cells = c.cells.inside.items.items in
    let now = c.args.cells.now in
    let at = c.args.at in
    let item : Listed = record { seg = c.item.inside.seg; cell = c.item.inside.cell } in
    let read = c.index_mut-item.result.now in
    cells_after cells now c.cells.view_is at item read c.draw.new.self (λ (x : Cell). record x { sequencer = x.sequencer + 1 }) c.item.view_is c.index_mut-item.ensures.value c.in_ok-ticket.ensures.ok.1

pub returns-clause-ticket : goal.returns-clause-ticket
returns-clause-ticket c = λ u l.
    let cells = c.cells.inside.items.items in
    let now = c.args.cells.now in
    let at = c.args.at in
    let item : Listed = record { seg = c.item.inside.seg; cell = c.item.inside.cell } in
    let read = c.index_mut-item.result.now in
    c.in_ok-ticket.ensures.ok.0 ∙ ap (λ (x : Cell). x.sequencer) (read_cell cells now c.cells.view_is u at item read c.item.view_is c.index_mut-item.ensures.value l)

pub invariant_of-cells-2 : goal.invariant_of-cells-2
invariant_of-cells-2 c =
    let item : Listed = record { seg = c.item.inside.seg; cell = c.item.inside.cell } in
    let cells = c.cells.inside.items.items in
    let lt : c.args.at < length cells = subst (λ (xs : List Listed). c.args.at < length xs) (sym c.cells.view_is) c.requires in
    kept_alike cells c.cells.inside.keys.keys c.cells.inside.frames c.cells.inside.pages c.cells.invariant c.args.at item c.index_mut-item.result.now c.draw.new.self c.item.view_is c.index_mut-item.ensures.value lt (ap (uses P.Frame) c.in_ok-ticket.ensures.ok.1) (ap (uses P.Page) c.in_ok-ticket.ensures.ok.1)
