use Rattle.std.proofs.Common.{◌∙◌, sym}
use Rattle.class_model.specs.State.{blank_cell}
use Rattle.whole_machine.specs.Parts.{Listed, is_cell}
use Rattle.whole_machine.proofs.Changes.{read_cell}
use Rattle.whole_machine.proofs.Lookups.{found_at, missing}
use Rattle.whole_machine.proofs.cells.CellList.find.Goals as goal

pub returns-in-Some-clause-found : goal.returns-in-Some-clause-found
returns-in-Some-clause-found c =
    let u = c.args.seg in
    let now = c.args.self.now in
    let at = c.in-Some.at in
    let item : Listed = record { seg = c.behind-self.inside.seg; cell = c.behind-self.inside.cell } in
    let place = found_at (is_cell u) now at (sym c.place_of.ensures ∙ c.in-Some.is) in
    read_cell c.self.inside.items.items now c.self.view_is u at item c.index.result.now c.behind-self.view_is c.index.ensures place

pub returns-in-None-clause-none : goal.returns-in-None-clause-none
returns-in-None-clause-none c = λ e. missing (is_cell c.args.seg) (λ x. x.cell) blank_cell c.args.self.now (sym c.place_of.ensures ∙ c.in-None.is)
