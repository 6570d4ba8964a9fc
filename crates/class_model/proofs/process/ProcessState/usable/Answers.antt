use Rattle.std.proofs.Common.{arith}
use Rattle.std.proofs.lemmas.Grind.{common_steps}
use Rattle.class_model.specs.Process.{reg}
use Rattle.class_model.proofs.Passed.{usable_class}
use Rattle.class_model.proofs.process.ProcessState.usable.Goals as goal

pub returns-in-Some-clause-class : goal.returns-in-Some-clause-class
returns-in-Some-clause-class c = λ n knows.
    let p = c.args.self.now in
    usable_class n p (reg p c.args.number) c.in-Some.known.now knows (grind (arith, common_steps))
