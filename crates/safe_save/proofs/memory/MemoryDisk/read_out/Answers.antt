use Rattle.std.proofs.Common.{ap}
use Rattle.safe_save.specs.Memory.{Log, Idle}
use Rattle.safe_save.proofs.MemoryCalls.{shown_more, within_more}
use Rattle.safe_save.proofs.memory.MemoryDisk.read_out.Goals as goal

pub invariant_of-self : goal.invariant_of-self
invariant_of-self c =
    let calls = c.self.inside.log.calls in
    let more = ap (λ (log : Log). log.calls) c.note_idle.ensures in
    record {
      size = c.self.invariant.size;
      whole = c.self.invariant.whole;
      shown = shown_more c.self.inside.opening.items c.self.inside.bytes.items calls c.note_idle.new.self.calls Idle more c.self.invariant.shown;
      within = within_more calls c.note_idle.new.self.calls Idle more c.self.invariant.within tt;
    }
