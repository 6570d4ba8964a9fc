use Rattle.std.proofs.Common.{◌≡◌, ◌≤◌, take, length, vec_len, vec_capacity}
use Rattle.machine.specs.Plain.{OnWords}
use Rattle.machine.specs.Steps.{RunsBy}
use Rattle.trail_laws.proofs.running.trail.Given as goal

abbrev pub invariant-loop-event : goal.invariant-loop-event
invariant-loop-event l = record {
  runs : RunsBy OnWords (take l.event-index l.events) l.initial.machine l.machine l.names.items;
  banks : length l.machine.banks ≡ length l.initial.machine.banks;
  shared : l.machine.shared ≡ l.initial.machine.shared;
  len : vec_len l.names ≤ l.event-index;
  room : vec_capacity l.names ≡ length l.events;
}
