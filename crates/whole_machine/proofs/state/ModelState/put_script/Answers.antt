use Rattle.std.proofs.Common.{subst, sym}
use Rattle.class_model.specs.Shared.{IsScript}
use Rattle.whole_machine.specs.Parts.{ListedState}
use Rattle.whole_machine.proofs.state.ModelState.put_script.Goals as goal

pub push_script-requires-clause-script : goal.push_script-requires-clause-script
push_script-requires-clause-script c x h = subst (λ (m : ListedState). IsScript m.shared x) (sym c.self.view_is) (c.requires.script x h)
