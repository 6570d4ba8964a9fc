use Rattle.std.proofs.Common.{◌++◌, ◌∙◌, get_or}
use Rattle.std.proofs.lemmas.List.{take_more}
use Rattle.machine.specs.Steps.{named}
use Rattle.machine.proofs.Events.{runs_on, same_length}
use Rattle.machine.proofs.machine.Machine.run.Goals as goal

pub loop-event-preserved : goal.loop-event-preserved
loop-event-preserved g c =
    let i = c.loop-event.invariant in
    let event = get_or c.args.events.now c.loop-event.event-index record { processor = 0; class = 0 } in
    let s = c.step_live.ensures in record {
      runs = (
        i.runs.0 ++ named event s.0,
        rw (take_more c.args.events.now c.loop-event.event-index record { processor = 0; class = 0 } c.loop-event-test.true)
            (runs_on g.W.WordPort.relation _ event c.args.self.now c.loop-event.self c.step_live.new.self i.runs.0 s.0 i.runs.1 s.1),
      );
      banks = same_length g.W.WordPort.relation event c.loop-event.self c.step_live.new.self s.0 s.1 ∙ i.banks;
      shared = s.1.shared ∙ i.shared;
    }
