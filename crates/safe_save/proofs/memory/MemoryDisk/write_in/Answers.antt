use Rattle.std.proofs.Common.{◌∙◌, ap, List, ℕ}
use Rattle.safe_save.specs.Disk.{written}
use Rattle.safe_save.specs.Memory.{Log, Wrote}
use Rattle.safe_save.proofs.MemoryCalls.{shown_more, within_more, written_over, written_size}
use Rattle.safe_save.proofs.memory.MemoryDisk.write_in.Goals as goal

pub invariant_of-self : goal.invariant_of-self
invariant_of-self c =
    let calls = c.self.inside.log.calls in
    let old = c.self.inside.bytes.items in
    let at = c.args.at in
    let bytes = c.args.bytes.now in
    let more = ap (λ (log : Log). log.calls) c.note_write.ensures in
    let over = written_over c.self.inside.bytes.len at bytes old c.deref_mut.result.now c.overwrite.new.image c.overwrite.ensures c.deref_mut.ensures.value c.deref_mut.ensures.len c.self.invariant.whole c.requires.range in
    record {
      size = c.self.invariant.size;
      whole = written_size at bytes old _ over c.self.invariant.whole c.requires.range;
      shown = shown_more c.self.inside.opening.items _ calls c.note_write.new.self.calls (Wrote at bytes) more (over ∙ ap (λ (xs : List ℕ). written xs at bytes) c.self.invariant.shown);
      within = within_more calls c.note_write.new.self.calls (Wrote at bytes) more c.self.invariant.within c.requires.range;
    }
