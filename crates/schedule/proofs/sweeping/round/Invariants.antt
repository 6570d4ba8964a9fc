use Rattle.std.proofs.Common.{◌≡◌, ◌+◌, ◌++◌, length, map}
use Rattle.std.specs.Prelude.{◌%◌, slice_index}
use Rattle.std.specs.List.{flat_map}
use Rattle.lists.specs.Lists.{below}
use Rattle.schedule.specs.Schedule.{event}
use Rattle.schedule.proofs.sweeping.round.Given as goal

abbrev pub invariant-loop-processor : goal.invariant-loop-processor
invariant-loop-processor l = l.events.items ≡ l.fn.events.items
    ++ flat_map (λ p. map (λ k. event p (slice_index l.cycle ((l.place + k) % length l.cycle))) (below l.quantum)) (below l.processor)
