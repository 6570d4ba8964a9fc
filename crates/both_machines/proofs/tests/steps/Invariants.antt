use Rattle.std.proofs.Common.{◌≡◌}
use Rattle.both_machines.proofs.tests.steps.Given as goal

abbrev pub invariant-loop : goal.invariant-loop
invariant-loop l = l.model.shared ≡ l.fn.model.shared
