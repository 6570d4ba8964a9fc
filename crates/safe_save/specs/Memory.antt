-- A disk in memory, as contracts see it, and what each of its calls does, exactly. For `MemoryDisk`.
use Rattle.std.specs.Prelude.{◌≡◌, ◌↔◌, ◌⊎◌, All, ℕ, ◌+◌, ◌-◌, ◌^◌, ◌<◌, ◌≤◌, min, List, [], ◌∷◌, ◌++◌, length, take, replicate, nat_lt, if◌then◌else◌, Contains, IsErr, MatchResult, Result}
use Rattle.host_ports.specs.declared.host.Failed.{Failed}
use Rattle.safe_save.specs.declared.fill.Fill.{Fill}
use Rattle.safe_save.specs.declared.fill.Fill.TheVariants.{Zeros, Ones, Written}
use Rattle.safe_save.specs.Disk.{written, DiffersIn, SameImages, Elapses}

-- what a call did: it wrote bytes from a place on, it was a sync, or it changed nothing
pub data Call : Type 0 where
  Wrote : (at : ℕ) (bytes : List ℕ) → Call
  Synced : Call
  Idle : Call

-- what a read gives, what stood at the last sync, and the ranges that were written since, the last of them first
pub record State : Type 0 where
  pub bytes : List ℕ
  pub stood : List ℕ
  pub ranges : List (ℕ × ℕ)

-- all of it stands from the start
abbrev pub fresh : List ℕ → State
fresh opening = record { bytes = opening; stood = opening; ranges = [] }

abbrev pub after_call : Call → State → State
after_call (Wrote at bytes) s = record { bytes = written s.bytes at bytes; stood = s.stood; ranges = (at, length bytes) ∷ s.ranges }
after_call Synced s = record { bytes = s.bytes; stood = s.bytes; ranges = [] }
after_call Idle s = s

-- the state after these calls, the first of them first
abbrev pub after_calls : List Call → State → State
after_calls [] s = s
after_calls (call ∷ calls) s = after_calls calls (after_call call s)

-- a crash leaves what stood at the last sync, with any bytes in each range that was written since
abbrev pub IsLeft : List (ℕ × ℕ) → List ℕ → List ℕ → Type 0
IsLeft [] stood c = c ≡ stood
IsLeft (range ∷ ranges) stood c = (d : List ℕ) × IsLeft ranges stood d × DiffersIn range.0 range.1 d c

-- the image with one byte all over these ranges
abbrev pub filled : ℕ → List (ℕ × ℕ) → List ℕ → List ℕ
filled byte [] image = image
filled byte (range ∷ ranges) image = written (filled byte ranges image) range.0 (replicate range.1 byte)

-- the image where the ranges that were written since the last sync are filled so
abbrev pub image_of : Fill → State → List ℕ
image_of Zeros s = filled 0 s.ranges s.stood
image_of Ones s = filled 255 s.ranges s.stood
image_of Written s = s.bytes

-- the image after one call, if what it wrote is filled so
abbrev pub put_call : Fill → Call → List ℕ → List ℕ
put_call Zeros (Wrote at bytes) image = written image at (replicate (length bytes) 0)
put_call Ones (Wrote at bytes) image = written image at (replicate (length bytes) 255)
put_call Written (Wrote at bytes) image = written image at bytes
put_call fill Synced image = image
put_call fill Idle image = image

-- and after these calls, the first of them first
abbrev pub put_calls : Fill → List Call → List ℕ → List ℕ
put_calls fill [] image = image
put_calls fill (call ∷ calls) image = put_calls fill calls (put_call fill call image)

-- all that was written stands
pub record IsSettled (s : State) : Type 0 where
  pub stood : s.stood ≡ s.bytes
  pub ranges : s.ranges ≡ []

-- none of these calls is a sync
abbrev pub HasNoSync : List Call → Type 0
HasNoSync [] = Unit {0}
HasNoSync (Wrote at bytes ∷ calls) = HasNoSync calls
HasNoSync (Synced ∷ calls) = ⊥
HasNoSync (Idle ∷ calls) = HasNoSync calls

-- a record of calls, how many it has room for, and how many bytes more of writes it has room for
pub record Log : Type 0 where
  pub calls : List Call
  pub most : ℕ
  pub room : ℕ

-- a disk in memory: its bytes at the start, the record of its calls, the numbers of the calls that are to fail,
-- and how many calls there were and how many have failed
pub record Memory : Type 0 where
  pub opening : List ℕ
  pub log : Log
  pub failing : List ℕ
  pub calls : ℕ
  pub faults : ℕ

-- where it is after the first calls of its record, as many as these
abbrev pub state_at : Memory → ℕ → State
state_at m count = after_calls (take count m.log.calls) (fresh m.opening)

-- where it is now
abbrev pub state_of : Memory → State
state_of m = after_calls m.log.calls (fresh m.opening)

-- the record with one call more
abbrev pub noted : Log → Call → Log
noted log call = record log { calls = log.calls ++ call ∷ [] }

-- where there is room for it
abbrev pub noted_if_room : Log → Call → Log
noted_if_room log call = if nat_lt (length log.calls) log.most then noted log call else log

-- a call that can be done lies within the disk
abbrev pub IsWithin : Call → Type 0
IsWithin (Wrote at bytes) = at + length bytes ≤ 8388640
IsWithin Synced = Unit {0}
IsWithin Idle = Unit {0}

-- the bytes at the start are a whole disk, and each write lies within it
pub record IsWhole (m : Memory) : Type 0 where
  pub size : length m.opening ≡ 8388640
  pub within : All IsWithin m.log.calls

-- an image that a crash may leave now
abbrev pub MayLeave : Memory → List ℕ → Type 0
MayLeave m c = let s = state_of m in IsLeft s.ranges s.stood c

-- an image that a crash may have left after at least so many calls of the record
abbrev pub LeftSince : Memory → ℕ → List ℕ → Type 0
LeftSince m count c = (k : ℕ) × (count ≤ k) × (k ≤ length m.log.calls) × (let s = state_at m k in IsLeft s.ranges s.stood c)

-- a count of 32 bits and one of 64 bits, one higher; they stay at their last number
abbrev pub next_call : ℕ → ℕ
next_call count = min (count + 1) (2 ^ 32 - 1)

abbrev pub next_fault : ℕ → ℕ
next_fault count = min (count + 1) (2 ^ 64 - 1)

-- a call that writes so many bytes fails where its number is listed, or the record has no room for it
abbrev pub CallFails : Memory → ℕ → Type 0
CallFails m count = Contains m.failing (next_call m.calls) ⊎ (m.log.most ≤ length m.log.calls) ⊎ (m.log.room < count)

-- a failed call is counted, and changes nothing
abbrev pub refused : Memory → Memory
refused m = record m { log = noted_if_room m.log Idle; calls = next_call m.calls; faults = next_fault m.faults }

-- the disk after a call that failed: a read gives the same as before, and a crash leaves the same as before
pub record IsRefusal (before after : Memory) : Type 0 where
  pub leaves : after ≡ refused before
  pub honest : IsWhole before ↔ IsWhole after
  pub seen : (state_of after).bytes ≡ (state_of before).bytes
  pub images : SameImages (MayLeave before) (MayLeave after)
  pub time : Elapses (length before.log.calls) (length after.log.calls) (LeftSince before) (LeftSince after) (MayLeave after)

-- how many bytes a call writes
abbrev pub size_of : Call → ℕ
size_of (Wrote at bytes) = length bytes
size_of Synced = 0
size_of Idle = 0

-- the room that is left after a call
abbrev pub room_after : Call → ℕ → ℕ
room_after (Wrote at bytes) room = room - length bytes
room_after Synced room = room
room_after Idle room = room

-- the disk after a call that succeeded: nothing but its record and the number of calls is another
abbrev pub done : Memory → Call → Memory
done m call = record m { log = record (noted m.log call) { room = room_after call m.log.room }; calls = next_call m.calls }

-- a call that does this fails exactly where its number is listed, or the record has no room for it
pub record DoesExactly (call : Call) (before after : Memory) (result : Result (Unit {0}) Failed) : Type 0 where
  pub fails : IsErr result ↔ CallFails before (size_of call)
  pub leaves : MatchResult result (λ _. after ≡ done before call) (λ _. after ≡ refused before)
