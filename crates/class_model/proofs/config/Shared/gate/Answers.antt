use Rattle.std.proofs.Common.{subst, arith}
use Rattle.std.proofs.lemmas.Grind.{common_steps}
use Rattle.class_model.specs.Shared.{IsShared}
use Rattle.class_model.proofs.SharedLaws.{gate_class}
use Rattle.class_model.proofs.config.Shared.gate.Goals as goal

pub returns-clause-class : goal.returns-clause-class
returns-clause-class c =
    gate_class c.args.self.now c.args.place _ (subst IsShared c.self.view_is c.self.invariant) (grind (arith, common_steps))
