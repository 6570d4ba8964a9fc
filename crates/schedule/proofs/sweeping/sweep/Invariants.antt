use Rattle.std.proofs.Common.{◌≡◌, ℕ, ◌+◌, ◌-◌, ◌*◌, ◌≤◌, ◌++◌}
use Rattle.schedule.specs.Schedule.{swept}
use Rattle.schedule.proofs.Sweeps.{shaped}
use Rattle.schedule.proofs.sweeping.sweep.Given as goal

abbrev pub invariant-loop : goal.invariant-loop
invariant-loop l = record {
  same : (classes : ℕ) → l.events.items ++ swept (shaped l.processors classes l.cycle l.quantum) l.place (l.rounds - l.counter)
      ≡ l.fn.events.items ++ swept (shaped l.processors classes l.cycle l.quantum) l.fn.place l.rounds;
  room : l.place + (l.rounds - l.counter) * l.quantum ≤ 4194304;
}
