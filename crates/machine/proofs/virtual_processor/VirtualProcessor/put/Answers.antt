use Rattle.std.proofs.Common.{arith}
use Rattle.std.proofs.lemmas.List.Sums.{count_by-le-length}
use Rattle.machine.specs.Processing.{holds_live}
use Rattle.machine.proofs.virtual_processor.VirtualProcessor.put.Goals as goal

pub overflow_add-self : goal.overflow_add-self
overflow_add-self c = let few = count_by-le-length holds_live c.self.inside.slots in omega (arith, few)
