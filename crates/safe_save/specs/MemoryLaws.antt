-- A disk in memory is a disk. For `MemoryDisk`.
use Rattle.std.proofs.Common.{◌≡◌, ℕ, ◌+◌, ◌≤◌, List, [], ◌∷◌, All, length, take, refl, sym, ◌∙◌, subst, arith}
use Rattle.std.proofs.lemmas.List.{take_all}
use Rattle.std.proofs.lemmas.List.Elements.{All-head, All-tail, All-take}
use Rattle.std.proofs.Math.Seq.{take-length}
use Rattle.safe_save.specs.Memory.{Call, Wrote, Synced, Idle, State, fresh, after_call, after_calls, IsLeft, IsWithin, Memory, state_of, state_at, IsWhole, MayLeave, LeftSince}
use Rattle.safe_save.specs.Writing.{written_differs}

-- each of these ranges lies within the disk
abbrev pub AreWithin : List (ℕ × ℕ) → Type 0
AreWithin [] = Unit {0}
AreWithin (range ∷ ranges) = (range.0 + range.1 ≤ 8388640) × AreWithin ranges

-- the size of a disk, ranges within it, and an image that a crash may leave is what a read gives
pub record IsSound (s : State) : Type 0 where
  pub size : length s.bytes ≡ 8388640
  pub stood : length s.stood ≡ 8388640
  pub ranges : AreWithin s.ranges
  pub shown : IsLeft s.ranges s.stood s.bytes

pub sound_after : (calls : List Call) (s : State) → All IsWithin calls → IsSound s → IsSound (after_calls calls s)
sound_after [] s within sound = sound
sound_after (Wrote at bytes ∷ calls) s within sound =
    let fits : at + length bytes ≤ 8388640 = All-head IsWithin (Wrote at bytes) calls within in
    let size = sound.size in
    let differs = written_differs at bytes s.bytes (omega arith) in
    sound_after calls (after_call (Wrote at bytes) s) (All-tail IsWithin (Wrote at bytes) calls within)
    (record { size = differs.size ∙ size; stood = sound.stood; ranges = (fits, sound.ranges); shown = (s.bytes, sound.shown, differs) })
sound_after (Synced ∷ calls) s within sound =
    sound_after calls (after_call Synced s) (All-tail IsWithin Synced calls within) (record { size = sound.size; stood = sound.size; ranges = tt; shown = refl })
sound_after (Idle ∷ calls) s within sound = sound_after calls s (All-tail IsWithin Idle calls within) sound

pub sound : (m : Memory) (count : ℕ) → IsWhole m → IsSound (state_at m count)
sound m count whole = sound_after (take count m.log.calls) (fresh m.opening) (All-take IsWithin count m.log.calls whole.within) (record { size = whole.size; stood = whole.size; ranges = tt; shown = refl })

sound_now : (m : Memory) → IsWhole m → IsSound (state_of m)
sound_now m whole = sound_after m.log.calls (fresh m.opening) whole.within (record { size = whole.size; stood = whole.size; ranges = tt; shown = refl })

pub size_law : (m : Memory) → IsWhole m → length (state_of m).bytes ≡ 8388640
size_law m whole = (sound_now m whole).size

pub shown_law : (m : Memory) → IsWhole m → MayLeave m (state_of m).bytes
shown_law m whole = (sound_now m whole).shown

pub counts_law : (m : Memory) (t : ℕ) (c : List ℕ) → IsWhole m → t ≤ length m.log.calls → MayLeave m c → LeftSince m t c
counts_law m t c whole le left =
    (length m.log.calls, le, omega arith, subst (λ (calls : List Call). let s = after_calls calls (fresh m.opening) in IsLeft s.ranges s.stood c) (sym (take-length m.log.calls)) left)

pub only_law : (m : Memory) (c : List ℕ) → IsWhole m → LeftSince m (length m.log.calls) c → MayLeave m c
only_law m c whole left = subst (λ (calls : List Call). let s = after_calls calls (fresh m.opening) in IsLeft s.ranges s.stood c) (take_all left.0 m.log.calls left.1) left.3
