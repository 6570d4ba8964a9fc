use Rattle.std.proofs.Common.{◌≡◌, [], ◌∷◌, ◌++◌, map}
use Rattle.lists.specs.Lists.{below}
use Rattle.workload.specs.Large.{creator, worker}
use Rattle.workload.proofs.scripts.scripts.Given as goal

abbrev pub invariant-loop-class : goal.invariant-loop-class
invariant-loop-class l = l.scripts.items ≡ record { class = 0; program = creator } ∷ [] ++ map worker (below l.class)
