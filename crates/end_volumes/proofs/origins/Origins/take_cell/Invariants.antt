use Rattle.lists.specs.Lists.{below}
use Rattle.machine.specs.Banks.{machine_of}
use Rattle.end_volumes.specs.After.{Gains, first_answer, origin_at, tree_of_words}
use Rattle.end_volumes.proofs.origins.Origins.take_cell.Given as goal

abbrev pub invariant-loop-entry : goal.invariant-loop-entry
invariant-loop-entry l = Gains l.fn.self l.self (λ u. first_answer (origin_at (tree_of_words (machine_of l.machine)) u l.class l.mentor) (below l.entry))
