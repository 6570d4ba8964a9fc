use Rattle.std.proofs.Common.{arith}
use Rattle.std.proofs.lemmas.Grind.{common_steps}
use Rattle.class_model.proofs.process.ProcessState.ask_advance.Goals as goal

pub returns-clause-range : goal.returns-clause-range
returns-clause-range c = λ n knows.
    (tt, knows c.register.result c.in-Some.known.now (grind (arith, common_steps)))
