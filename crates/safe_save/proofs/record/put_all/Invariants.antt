use Rattle.std.proofs.Common.{◌≡◌, map, drop}
use Rattle.safe_save.specs.Memory.{put_calls}
use Rattle.safe_save.specs.Entries.{call_of}
use Rattle.safe_save.proofs.record.put_all.Given as goal

abbrev pub invariant-loop-entry : goal.invariant-loop-entry
invariant-loop-entry l = put_calls l.fill (map (call_of l.payload) (drop l.entry-index l.entries)) l.image ≡ put_calls l.fill (map (call_of l.payload) l.entries) l.fn.image
