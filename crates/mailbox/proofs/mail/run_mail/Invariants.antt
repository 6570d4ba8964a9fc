use Rattle.std.proofs.Common.{◌≡◌, take}
use Rattle.class_model.specs.Run.{steps}
use Rattle.whole_machine.specs.Parts.{state_of}
use Rattle.mailbox.proofs.mail.run_mail.Given as goal

abbrev pub invariant-loop-name : goal.invariant-loop-name
invariant-loop-name l = record {
  after : state_of l.state ≡ steps (state_of l.fn.state) (take l.name-index l.names);
  shared : l.state.shared ≡ l.fn.state.shared;
}
