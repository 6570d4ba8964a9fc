use Rattle.std.proofs.Common.{arith}
use Rattle.schedule.proofs.Sweeps.{shaped, sweep_on, rounds_left}
use Rattle.schedule.proofs.sweeping.sweep.Goals as goal

pub loop-preserved : goal.loop-preserved
loop-preserved c = record {
  same = λ classes. sweep_on (shaped c.args.processors classes c.args.cycle.now c.args.quantum) _ _ _ _ _ _ c.in_ok-round.ensures c.loop-test.true (c.loop.invariant.same classes);
  room = let left = rounds_left c.args.quantum c.loop.counter c.args.rounds c.loop-test.true in let room = c.loop.invariant.room in omega (arith, left, room);
}
