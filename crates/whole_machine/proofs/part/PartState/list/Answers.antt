use Rattle.std.proofs.Common.{subst}
use Rattle.whole_machine.specs.Parts.{ListedPart}
use Rattle.whole_machine.specs.Shows.{KeepsPlaces}
use Rattle.whole_machine.proofs.part.PartState.list.Goals as goal

pub returns-clause-kept : goal.returns-clause-kept
returns-clause-kept c = subst (λ (z : ListedPart). KeepsPlaces z.cells c.list_cell.new.cells) c.self.view_is c.list_cell.ensures.kept
