use Rattle.std.proofs.Common.{◌≡◌, ◌+◌, ◌++◌, length, map}
use Rattle.std.specs.Prelude.{◌%◌, slice_index}
use Rattle.lists.specs.Lists.{below}
use Rattle.schedule.specs.Schedule.{event}
use Rattle.schedule.proofs.sweeping.one_quantum.Given as goal

abbrev pub invariant-loop-k : goal.invariant-loop-k
invariant-loop-k l = l.events.items ≡ l.fn.events.items ++ map (λ k. event l.processor (slice_index l.cycle ((l.place + k) % length l.cycle))) (below l.k)
