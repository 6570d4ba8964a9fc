use Rattle.std.proofs.Common.{◌+◌, length}
use Rattle.std.specs.Prelude.{◌%◌, slice_index}
use Rattle.schedule.specs.Schedule.{event}
use Rattle.schedule.proofs.Sweeps.{quantum_on}
use Rattle.schedule.proofs.sweeping.one_quantum.Goals as goal

pub loop-k-preserved : goal.loop-k-preserved
loop-k-preserved c = quantum_on (λ k. event c.args.processor (slice_index c.args.cycle.now ((c.args.place + k) % length c.args.cycle.now)))
    c.loop-k.k _ _ _ c.in_ok-push.ensures.items c.loop-k.invariant
