use Rattle.std.proofs.lemmas.List.Elements.{recursion_from_All}
use Rattle.words_layout.specs.declared.op.Event.{Event}
use Rattle.machine.specs.Steps.{InRange}
use Rattle.low_run.proofs.Idle.{without}
use Rattle.low_run.proofs.running.run_these.Goals as goal

pub returns-then-others_ended : goal.returns-then-others_ended
returns-then-others_ended c =
    without c.args.low.now c.args.events.now c.args.machine.now c.run.new.self c.run.ensures.0 (c.others_ended.ensures.0 c.if-others_ended.true)
    (recursion_from_All (λ (e : Event). InRange c.args.machine.now e) c.args.events.now c.requires.events) c.run.ensures.1
