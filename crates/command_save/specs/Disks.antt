-- What a command leaves on a disk.
use Rattle.std.specs.Prelude.{◌≡◌, ◌⊎◌, ◌^◌, ◌<◌, ◌≤◌, ◌-◌, ℕ, List}
use Rattle.safe_save.specs.Disk.{Only, LeavesOnly}
use Rattle.safe_save.specs.Kept.{Image, half_in_use, length_of, kept, max_length}

-- What contracts see of the disks of a type: whether one is honest, what a read gives, which images a crash may leave now, the
-- moment, which images a crash since a moment may have left, and how many calls have failed.
pub record Sight (D : Type 0) : Type 1 where
  pub honest : D → Type 0
  pub seen : D → List ℕ
  pub may_leave : D → List ℕ → Type 0
  pub moment : D → ℕ
  pub left_since : D → ℕ → List ℕ → Type 0
  pub faults : D → ℕ

abbrev pub sight : {D : Type 0} → (D → Type 0) → (D → List ℕ) → (D → List ℕ → Type 0) → (D → ℕ) → (D → ℕ → List ℕ → Type 0) → (D → ℕ) → Sight D
sight honest seen may_leave moment left_since faults =
    record { honest = honest; seen = seen; may_leave = may_leave; moment = moment; left_since = left_since; faults = faults }

-- a count rose in a call: it is greater behind it, or stands at its last number
abbrev pub HasRisen : ℕ → ℕ → Type 0
HasRisen before now = (before < now) ⊎ (now ≡ 2 ^ 64 - 1)

-- the length that the half in use begins with
abbrev pub length_in_use : List ℕ → ℕ
length_in_use disk = length_of disk (half_in_use disk)

-- What a read gives is as it was, and a crash at any moment of the call leaves an image that a crash before it may leave.
pub record Stays {D : Type 0} (d : Sight D) (old new : D) : Type 0 where
  pub seen : d.seen new ≡ d.seen old
  pub any_moment : LeavesOnly d.moment d.left_since old new (d.may_leave old)

-- the image keeps what the old one keeps, or these bytes, whole
abbrev pub KeepsOneOf : List ℕ → List ℕ → List ℕ → Type 0
KeepsOneOf old bytes image = (kept image ≡ kept old) ⊎ (kept image ≡ Image bytes)

-- The disk keeps what it kept, or these bytes, whole, and so it is at any moment of the call.
pub record KeepsOldOrNew {D : Type 0} (d : Sight D) (bytes : List ℕ) (old new : D) : Type 0 where
  pub seen : KeepsOneOf (d.seen old) bytes (d.seen new)
  -- a crash at any moment leaves an image that a crash before the call may leave, or that keeps one of the two
  pub any_moment : LeavesOnly d.moment d.left_since old new (λ image. d.may_leave old image ⊎ KeepsOneOf (d.seen old) bytes image)
  -- where a crash before the call leaves nothing but what a read gives, it leaves one of the two
  pub one_image : Only (d.seen old) (d.may_leave old) → (image : List ℕ) → d.left_since new (d.moment old) image → KeepsOneOf (d.seen old) bytes image

-- The disk keeps these bytes: a crash leaves nothing but what a read gives, and that keeps them. The length that it began with
-- was that of an image, or 0.
pub record KeepsNew {D : Type 0} (d : Sight D) (bytes : List ℕ) (old new : D) : Type 0 where
  pub fits : length_in_use (d.seen old) ≤ max_length
  pub only : Only (d.seen new) (d.may_leave new)
  pub kept : kept (d.seen new) ≡ Image bytes
  pub on_the_way : KeepsOldOrNew d bytes old new

-- The half in use begins with a length that is none of an image: 0, or one that is too great.
pub record FoundNoImage {D : Type 0} (d : Sight D) (length : ℕ) (old : D) : Type 0 where
  pub none : (length ≡ 0) ⊎ (max_length < length)
  pub found : d.honest old → length ≡ length_in_use (d.seen old)
