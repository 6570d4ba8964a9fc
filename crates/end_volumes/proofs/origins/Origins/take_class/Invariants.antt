use Rattle.lists.specs.Lists.{below}
use Rattle.words_layout.specs.Segments.{numbered}
use Rattle.machine.specs.Banks.{machine_of}
use Rattle.end_volumes.specs.After.{Gains, first_answer, origin_in, tree_of_words}
use Rattle.end_volumes.proofs.origins.Origins.take_class.Given as goal

abbrev pub invariant-loop-number : goal.invariant-loop-number
invariant-loop-number l = Gains l.fn.self l.self (λ u. first_answer (λ j. origin_in (tree_of_words (machine_of l.machine)) u l.class (numbered j)) (below l.number))
