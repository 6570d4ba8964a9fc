use Rattle.std.proofs.Common.{◌≡◌, ◌+◌, ◌∙◌, ap, sym, subst, true, ◌<◌, length, List, set}
use Rattle.whole_machine.specs.Pools.{uses}
use Rattle.whole_machine.specs.declared.pools.Pooled.TheVariants as P
use Rattle.whole_machine.proofs.KeptCells.{kept_alike}
use Rattle.lists.specs.Lists.{overwrite}
use Rattle.class_model.specs.State.{Cell, In, is_in, live_words}
use Rattle.whole_machine.specs.Parts.{Listed}
use Rattle.whole_machine.proofs.Changes.{cells_after, read_cell}
use Rattle.whole_machine.proofs.cells.update.Goals as goal

pub returns-clause-ok : goal.returns-clause-ok
returns-clause-ok c =
    let cells = c.cells.inside.items.items in
    let now = c.args.cells.now in
    let at = c.args.at in
    let item : Listed = record { seg = c.item.inside.seg; cell = c.item.inside.cell } in
    let read = c.index_mut-item.result.now in
    cells_after cells now c.cells.view_is at item read c.update.new.self (λ (x : Cell). record x { home = In (overwrite (live_words x) c.args.offset c.args.words.now); writes = x.writes + 1 }) c.item.view_is c.index_mut-item.ensures.value c.in_ok-count.ensures.ok.1

pub returns-clause-count : goal.returns-clause-count
returns-clause-count c = λ u l.
    let cells = c.cells.inside.items.items in
    let now = c.args.cells.now in
    let at = c.args.at in
    let item : Listed = record { seg = c.item.inside.seg; cell = c.item.inside.cell } in
    let read = c.index_mut-item.result.now in
    c.in_ok-count.ensures.ok.0 ∙ ap (λ (x : Cell). x.writes + 1) (read_cell cells now c.cells.view_is u at item read c.item.view_is c.index_mut-item.ensures.value l)

pub update-requires : goal.update-requires
update-requires c =
    let cells = c.cells.inside.items.items in
    let now = c.args.cells.now in
    let at = c.args.at in
    let item : Listed = record { seg = c.item.inside.seg; cell = c.item.inside.cell } in
    let read = c.index_mut-item.result.now in
    let live = c.requires.live in
    let P : Cell → Type 0 = λ x. is_in x ≡ true in
    subst P (sym (read_cell cells now c.cells.view_is live.0 at item read c.item.view_is c.index_mut-item.ensures.value live.1)) live.2

pub invariant_of-cells-2 : goal.invariant_of-cells-2
invariant_of-cells-2 c =
    let cells = c.cells.inside.items.items in
    let keys = c.cells.inside.keys.keys in
    let frames = c.cells.inside.frames in
    let pages = c.cells.inside.pages in
    let kept = c.cells.invariant in
    let at = c.args.at in
    let item : Listed = record { seg = c.item.inside.seg; cell = c.item.inside.cell } in
    let read = c.index_mut-item.result.now in
    let lt : at < length cells = subst (λ (xs : List Listed). at < length xs) (sym c.cells.view_is) c.requires.inside in
    let new = c.update.new.self in
    let after : List Listed = set cells at (record { seg = item.seg; cell = new }) in
    let live = c.requires.live in
    let was : is_in item.cell ≡ true = subst (λ (x : Cell). is_in x ≡ true) (sym (read_cell cells c.args.cells.now c.cells.view_is live.0 at item read c.item.view_is c.index_mut-item.ensures.value live.1)) live.2 in
    kept_alike cells keys frames pages kept at item read new c.item.view_is c.index_mut-item.ensures.value lt (ap (uses P.Frame) c.in_ok-count.ensures.ok.1 ∙ sym was) (ap (uses P.Page) c.in_ok-count.ensures.ok.1)
