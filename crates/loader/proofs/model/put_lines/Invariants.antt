use Rattle.std.proofs.Common.{◌≡◌}
use Rattle.class_model.specs.Run.{opening}
use Rattle.whole_machine.specs.Parts.{state_of}
use Rattle.loader.proofs.Modelled.{low_first}
use Rattle.loader.proofs.model.put_lines.Given as goal

abbrev pub invariant-loop-index : goal.invariant-loop-index
invariant-loop-index l = (l.state.shared ≡ l.initial.state.shared) × (state_of l.state ≡ opening (low_first l.config l.class l.index))
