use Rattle.std.proofs.Common.{subst, sym}
use Rattle.class_model.specs.Shared.{IsGate}
use Rattle.whole_machine.specs.Parts.{ListedState}
use Rattle.whole_machine.proofs.state.ModelState.put_gate.Goals as goal

pub push_gate-requires-clause-gate : goal.push_gate-requires-clause-gate
push_gate-requires-clause-gate c x h = subst (λ (m : ListedState). IsGate m.shared x) (sym c.self.view_is) (c.requires.gate x h)
