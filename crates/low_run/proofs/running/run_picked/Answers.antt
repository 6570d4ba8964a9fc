use Rattle.std.proofs.Common.{List, take, sym, subst}
use Rattle.std.proofs.lemmas.List.{take_all}
use Rattle.words_layout.specs.declared.op.Event.{Event}
use Rattle.low_run.specs.Flags.{is_low, low_of, picked}
use Rattle.low_run.specs.LowRuns.{GoesOn}
use Rattle.low_run.proofs.Picked.{event_at, low_more}
use Rattle.low_run.proofs.Runs.{goes_on}
use Rattle.low_run.proofs.running.run_picked.Goals as goal

pub loop-event-preserved : goal.loop-event-preserved
loop-event-preserved c =
    let event : Event = event_at c.args.events.now c.loop-event.event-index in
    subst (λ (events : List Event). GoesOn events c.args.machine.now c.step_low.new.machine)
    (sym (low_more c.args.low.now c.args.events.now c.loop-event.event-index c.loop-event-test.true))
    (goes_on (low_of c.args.low.now (take c.loop-event.event-index c.args.events.now)) (picked (is_low c.args.low.now event.class) event) _ c.loop-event.machine _ c.loop-event.invariant c.step_low.ensures)

pub returns : goal.returns
returns c =
    let all = take_all c.loop-event.event-index c.args.events.now c.loop-event-test.false in
    (subst (λ (events : List Event). GoesOn (low_of c.args.low.now events) c.args.machine.now c.loop-event.machine) all c.loop-event.invariant).runs
