use Rattle.host_ports.proofs.Held.{kept_more, room_more}
use Rattle.host_ports.proofs.memory.MemoryHost.new.Goals as goal

pub loop-input-preserved : goal.loop-input-preserved
loop-input-preserved c =
    let made = c.in_ok-push.ensures.items in
    let pipe = c.in_ok-new.ensures in
    let held = c.loop-input.invariant in
    record {
      kept = kept_more c.loop-input.pipes.items c.push.new.self.items c.loop-input.yielded c.in_ok-new.field-0 c.in-Some.input made held.kept pipe.kept;
      reserved = room_more c.args.room c.loop-input.pipes.items c.push.new.self.items c.in_ok-new.field-0 made held.reserved pipe.spare;
    }
