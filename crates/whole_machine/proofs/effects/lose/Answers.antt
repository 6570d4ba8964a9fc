use Rattle.std.proofs.Common.{◌≡◌, Bool, true, sym, subst, None, arith}
use Rattle.std.proofs.lemmas.Grind.{common_steps}
use Rattle.class_model.specs.State.{Cell, Deleted}
use Rattle.whole_machine.specs.Parts.{cell_in}
use Rattle.whole_machine.specs.Shows.{lost}
use Rattle.whole_machine.proofs.TakesPlace.{listed_and_changed}
use Rattle.whole_machine.proofs.effects.lose.Goals as goal

pub returns-clause-ok : goal.returns-clause-ok
returns-clause-ok c =
    let cells = c.args.cells.now in
    let P : Bool → Type 0 = λ own. cell_in c.delete.new.cells ≡ lost own (cell_in cells) c.args.child in
    let own : c.args.own ≡ true = grind (arith, common_steps) in
    subst P (sym own) (listed_and_changed cells c.list_cell.new.cells c.delete.new.cells c.args.child c.in_ok-at.at
    (λ (x : Cell). record x { home = Deleted; stored = None }) c.in_ok-at.ensures.same c.in_ok-at.ensures.ok c.delete.ensures.changed)

pub returns-clause-kept : goal.returns-clause-kept
returns-clause-kept c = λ u at l. c.delete.ensures.kept u at (c.in_ok-at.ensures.kept u at l)
