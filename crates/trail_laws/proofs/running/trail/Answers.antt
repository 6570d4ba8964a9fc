use Rattle.std.proofs.Common.{◌++◌, ◌∷◌, [], ◌∙◌, sym, subst, take, List, get_or, arith}
use Rattle.std.proofs.lemmas.List.{take_more}
use Rattle.class_model.specs.Process.{ProcName}
use Rattle.words_layout.specs.declared.op.Event.{Event}
use Rattle.machine.specs.Plain.{OnWords}
use Rattle.machine.specs.Steps.{RunsBy}
use Rattle.machine.proofs.Events.{runs_on, same_length}
use Rattle.trail_laws.proofs.running.trail.Goals as goal

pub loop-event-preserved : goal.loop-event-preserved
loop-event-preserved c =
    let i = c.loop-event.invariant in
    let event : Event = get_or c.args.events.now c.loop-event.event-index record { processor = 0; class = 0 } in
    let front = take c.loop-event.event-index c.args.events.now in
    let now = c.step_effect-effect.new.self in
    let effect = c.step_effect-effect.result in
    let s = c.step_effect-effect.ensures in record {
      runs = rw (take_more c.args.events.now c.loop-event.event-index record { processor = 0; class = 0 } c.loop-event-test.true)
          (subst (λ (names : List ProcName). RunsBy OnWords (front ++ event ∷ []) c.args.machine.now now names) (sym c.write_down.ensures.names)
          (runs_on OnWords front event c.args.machine.now c.loop-event.machine now c.loop-event.names.items effect i.runs s));
      banks = same_length OnWords event c.loop-event.machine now effect s ∙ i.banks;
      shared = s.shared ∙ i.shared;
      len = omega (arith, c.write_down.ensures.len, i.len);
      room = c.write_down.ensures.room ∙ i.room;
    }
