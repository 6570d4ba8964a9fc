-- What a disk keeps. For `open`, `save` and `load`.
use Rattle.std.specs.Prelude.{◌≡◌, ◌⊎◌, ℕ, ◌+◌, ◌*◌, ◌%◌, ◌<◌, ◌≤◌, List, [], ◌∷◌, length, take, drop, slice_index, nat_le, if◌then◌else◌}
use Rattle.std.specs.declared.result.Result.{Result}
use Rattle.std.specs.declared.result.Result.TheVariants.{Ok, Err}
use Rattle.std.specs.Int.{w64, from_be_bytes}
use Rattle.lists.specs.Lists.{part_of}
use Rattle.safe_save.specs.declared.keeping.Place.{Place}
use Rattle.safe_save.specs.declared.keeping.SaveError.{SaveError}
use Rattle.safe_save.specs.declared.keeping.SaveError.TheVariants.{Length, Disk}
use Rattle.safe_save.specs.Disk.{Only}

-- the greatest length of an image
abbrev pub max_length : ℕ
max_length = 4194304

-- Half 0 begins at byte 16, half 1 behind it: a length of eight bytes, and room for 4,194,304 bytes.
abbrev pub start_of : ℕ → ℕ
start_of half = 16 + 4194312 * half

-- the half in use is 0 where the gate, byte 0, is even, and 1 where it is odd
abbrev pub half_in_use : List ℕ → ℕ
half_in_use disk = slice_index disk 0 % 2

-- the length that a half begins with
abbrev pub length_of : List ℕ → ℕ → ℕ
length_of disk half = from_be_bytes w64 (part_of disk (start_of half) 8)

-- what a disk keeps: nothing, an image, or a length that is too great for an image
pub data Kept : Type 0 where
  Nothing : Kept
  Image : (bytes : List ℕ) → Kept
  Broken : Kept

-- no byte is nothing
abbrev pub kept_bytes : List ℕ → Kept
kept_bytes [] = Nothing
kept_bytes (byte ∷ bytes) = Image (byte ∷ bytes)

-- what a half keeps: as many bytes behind its length as the length says
abbrev pub kept_in : List ℕ → ℕ → Kept
kept_in disk half = if nat_le (length_of disk half) max_length then kept_bytes (part_of disk (start_of half + 8) (length_of disk half)) else Broken

-- what the half in use keeps
abbrev pub kept : List ℕ → Kept
kept disk = kept_in disk (half_in_use disk)

-- the place is the half in use, with its length
pub record IsPlace (disk : List ℕ) (place : Place) : Type 0 where
  pub half : place.half ≡ half_in_use disk
  pub length : place.length ≡ length_of disk (half_in_use disk)

-- The disk is open at this place: where it is honest, a crash leaves nothing but what a read gives, and the place is the half in use there.
pub record IsOpen {D : Type 0} (honest : D → Type 0) (seen : D → List ℕ) (images : D → List ℕ → Type 0) (disk : D) (place : Place) : Type 0 where
  pub half : place.half < 2
  pub length : place.length ≤ max_length
  pub only : honest disk → Only (seen disk) (images disk)
  pub in_use : honest disk → IsPlace (seen disk) place

-- a length of eight bytes, and an image of that many bytes, at least one
pub record IsStored (bytes : List ℕ) : Type 0 where
  pub some : 8 < length bytes
  pub fits : length bytes ≤ 4194312
  pub length : from_be_bytes w64 (take 8 bytes) + 8 ≡ length bytes

-- the old image or the new one, whole
abbrev pub IsOldOrNew : Kept → List ℕ → List ℕ → Type 0
IsOldOrNew old bytes disk = (kept disk ≡ old) ⊎ (kept disk ≡ Image (drop 8 bytes))

-- what `open` answers of a disk where no call of it failed: the half in use with its length, or the length where it is too great
abbrev pub Opens : List ℕ → Result Place SaveError → Type 0
Opens disk (Ok place) = IsPlace disk place × (place.length ≤ max_length)
Opens disk (Err (Length length)) = (length ≡ length_of disk (half_in_use disk)) × (max_length < length)
Opens disk (Err Disk) = Unit {0}

-- an answer that isn't that the disk failed
abbrev pub NotFailed : {T : Type 0} → Result T SaveError → Type 0 → Type 0
NotFailed (Ok x) p = p
NotFailed (Err (Length length)) p = p
NotFailed (Err Disk) p = Unit {0}
