use Rattle.std.proofs.Common.{◌≡◌, ◌∙◌, refl, sym, subst}
use Rattle.whole_machine.specs.Parts.{ListedPart, cell_in}
use Rattle.whole_machine.proofs.part.PartState.cell.Goals as goal

pub returns-in-Some : goal.returns-in-Some
returns-in-Some c = subst (λ (z : ListedPart). c.in-Some.cell.now ≡ cell_in z.cells c.args.seg) c.self.view_is c.in-Some.ensures.found

pub returns-in-None : goal.returns-in-None
returns-in-None c = subst (λ (z : ListedPart). c.self.inside.blank ≡ cell_in z.cells c.args.seg) c.self.view_is (c.self.invariant.1 ∙ sym (c.in-None.ensures.none refl))
