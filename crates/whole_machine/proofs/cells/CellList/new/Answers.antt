use Rattle.whole_machine.proofs.KeptCells.{kept_empty}
use Rattle.whole_machine.proofs.cells.CellList.new.Goals as goal

pub invariant_of-result : goal.invariant_of-result
invariant_of-result c = kept_empty c.new.result.items c.new-2.result.keys c.new.ensures.items c.new-2.ensures.empty c.new-2.ensures.unique
