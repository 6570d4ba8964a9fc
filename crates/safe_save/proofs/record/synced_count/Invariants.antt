use Rattle.std.proofs.Common.{◌≤◌, List, ℕ, length, map, drop}
use Rattle.safe_save.specs.Memory.{HasNoSync}
use Rattle.safe_save.specs.Entries.{call_of}
use Rattle.safe_save.proofs.record.synced_count.Given as goal

abbrev pub invariant-loop-count : goal.invariant-loop-count
invariant-loop-count l = record { bound : l.count ≤ length l.entries; rest : (payload : List ℕ) → HasNoSync (map (call_of payload) (drop l.count l.entries)) }

abbrev pub decreases-loop-count : goal.decreases-loop-count
decreases-loop-count l = l.count
