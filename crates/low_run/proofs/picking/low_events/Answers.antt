use Rattle.std.proofs.Common.{List, ◌++◌, sym, ap, ◌∙◌}
use Rattle.std.proofs.lemmas.List.{take_all}
use Rattle.words_layout.specs.declared.op.Event.{Event}
use Rattle.low_run.specs.Flags.{is_low, low_of, picked}
use Rattle.low_run.proofs.Picked.{event_at, low_more, low_is}
use Rattle.low_run.proofs.picking.low_events.Goals as goal

pub loop-event-preserved : goal.loop-event-preserved
loop-event-preserved c =
    let event : Event = event_at c.args.events.now c.loop-event.event-index in
    c.in_ok-push_low.ensures ∙ ap (λ (found : List Event). found ++ picked (is_low c.of-low.result event.class) event) c.loop-event.invariant
    ∙ sym (low_more c.of-low.result c.args.events.now c.loop-event.event-index c.loop-event-test.true)

pub returns : goal.returns
returns c =
    c.loop-event.invariant ∙ ap (low_of c.of-low.result) (take_all c.loop-event.event-index c.args.events.now c.loop-event-test.false)
    ∙ low_is c.args.table.now c.args.class c.of-low.result c.of-low.ensures c.args.events.now c.requires.events
