use Rattle.std.proofs.Common.{◌≡◌, ◌++◌, ◌-◌}
use Rattle.schedule.specs.Schedule.{mixed}
use Rattle.schedule.proofs.drawing.mix.Given as goal

abbrev pub invariant-loop : goal.invariant-loop
invariant-loop l = l.events.items ++ mixed l.processors l.classes l.x (l.count - l.counter) ≡ l.fn.events.items ++ mixed l.processors l.classes l.start l.count
