use Rattle.std.proofs.Common.{◌≡◌, List, take, length}
use Rattle.class_model.specs.Process.{ProcName}
use Rattle.machine.specs.Steps.{RunsBy}
use Rattle.machine.proofs.machine.Machine.run.Given as goal

abbrev pub invariant-loop-event : goal.invariant-loop-event
invariant-loop-event g l = record {
  runs : (names : List ProcName) × RunsBy g.W.WordPort.relation (take l.event-index l.events) l.initial.self l.self names;
  banks : length l.self.banks ≡ length l.initial.self.banks;
  shared : l.self.shared ≡ l.initial.self.shared;
}
