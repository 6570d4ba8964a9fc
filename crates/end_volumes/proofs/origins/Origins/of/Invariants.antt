use Rattle.lists.specs.Lists.{below}
use Rattle.machine.specs.Banks.{machine_of}
use Rattle.end_volumes.specs.After.{Gains, first_answer, origin_under, tree_of_words}
use Rattle.end_volumes.proofs.origins.Origins.of.Given as goal

abbrev pub invariant-loop-class : goal.invariant-loop-class
invariant-loop-class l = Gains l.initial.origins l.origins (λ u. first_answer (origin_under (tree_of_words (machine_of l.machine)) u) (below l.class))
