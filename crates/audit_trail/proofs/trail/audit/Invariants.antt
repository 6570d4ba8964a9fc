use Rattle.std.proofs.Common.{◌≡◌, take}
use Rattle.class_model.specs.Run.{steps}
use Rattle.whole_machine.specs.Parts.{state_of}
use Rattle.audit_trail.specs.Trail.{trail}
use Rattle.audit_trail.proofs.trail.audit.Given as goal

abbrev pub invariant-loop-name : goal.invariant-loop-name
invariant-loop-name l = record {
  state : state_of l.state ≡ steps (state_of l.initial.state) (take l.name-index l.names);
  entries : l.entries.items ≡ trail (state_of l.initial.state) (take l.name-index l.names);
  shared : l.state.shared ≡ l.initial.state.shared;
}
