-- An entry of a record, and the call that it stands for. For `Record`.
use Rattle.std.specs.Prelude.{ℕ, ◌+◌, ◌≤◌, List}
use Rattle.lists.specs.Lists.{part_of}
use Rattle.safe_save.specs.declared.record.Entry.{Entry}
use Rattle.safe_save.specs.declared.record.Entry.TheVariants as entry
use Rattle.safe_save.specs.Memory.{Call, Wrote, Synced, Idle}

-- the call, where these are the bytes that were written in all
abbrev pub call_of : List ℕ → Entry → Call
call_of payload (entry.Wrote at from count) = Wrote at (part_of payload from count)
call_of payload entry.Synced = Synced
call_of payload entry.Idle = Idle

-- the bytes that it wrote are among so many
abbrev pub IsKnown : ℕ → Entry → Type 0
IsKnown n (entry.Wrote at from count) = from + count ≤ n
IsKnown n entry.Synced = Unit {0}
IsKnown n entry.Idle = Unit {0}
