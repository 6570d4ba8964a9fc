use Rattle.std.proofs.Common.{◌≡◌, ◌≤◌}
use Rattle.class_model.specs.Config.{classes}
use Rattle.machine.specs.Steps.{IsBank}
use Rattle.processors.specs.Turns.{Takes}
use Rattle.processors.proofs.processor.Processor.take_steps.Given as goal

pub record Taking (A B C D : Type 0) : Type 0 where
  pub takes : A
  pub bank : B
  pub layout : C
  pub within : D

abbrev pub invariant-loop : goal.invariant-loop
invariant-loop g l =
    Taking (Takes g.W.WordPort.relation l.shared l.counter l.initial.self l.initial.port l.self l.port) (IsBank l.shared l.self.bank) (g.W.WordPort.classes l.port ≡ classes l.shared) (l.counter ≤ l.count)
