use Rattle.std.proofs.Common.{◌≡◌, ◌≤◌, ◌*◌}
use Rattle.whole_machine.specs.Pools.{in_use}
use Rattle.whole_machine.proofs.part.PartState.in_use.Given as goal

abbrev pub invariant-loop-mentor : goal.invariant-loop-mentor
invariant-loop-mentor l = (l.count ≡ in_use l.kind l.self.cells l.mentor) × (l.count ≤ 64 * l.mentor)
