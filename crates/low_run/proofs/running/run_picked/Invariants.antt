use Rattle.std.proofs.Common.{take}
use Rattle.low_run.specs.Flags.{low_of}
use Rattle.low_run.specs.LowRuns.{GoesOn}
use Rattle.low_run.proofs.running.run_picked.Given as goal

abbrev pub invariant-loop-event : goal.invariant-loop-event
invariant-loop-event l = GoesOn (low_of l.low (take l.event-index l.events)) l.initial.machine l.machine
