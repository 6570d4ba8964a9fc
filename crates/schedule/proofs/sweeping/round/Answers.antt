use Rattle.std.proofs.Common.{◌+◌, length, map}
use Rattle.std.specs.Prelude.{◌%◌, slice_index}
use Rattle.lists.specs.Lists.{below}
use Rattle.schedule.specs.Schedule.{event}
use Rattle.schedule.proofs.Sweeps.{round_on}
use Rattle.schedule.proofs.sweeping.round.Goals as goal

pub loop-processor-preserved : goal.loop-processor-preserved
loop-processor-preserved c = round_on (λ p. map (λ k. event p (slice_index c.args.cycle.now ((c.args.place + k) % length c.args.cycle.now))) (below c.args.quantum))
    _ _ _ _ c.in_ok-one_quantum.ensures c.loop-processor.invariant
