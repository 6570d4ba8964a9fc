-- What the records of a volume must be, in each of the two formats. Each part is a test that computes.
use Rattle.std.specs.Prelude.{◌≡◌, ℕ, ◌<◌, ◌^◌, Bool, true, false, not, ◌&&◌, ◌||◌, List, [], ◌∷◌, ◌==◌, nat_le, nat_lt, length, slice_index, IfSome}
use Rattle.std.specs.List.{AllByRecursion}
use Rattle.labels.specs.Label.{ClassEntry, at_or_below}
use Rattle.rings.specs.Brackets.{in_order}
use Rattle.words_layout.specs.Segments.{seg}
use Rattle.words_layout.specs.declared.segment.SegId.{SegId}
use Rattle.class_model.specs.Config.{SegRecord}
use Rattle.class_model.specs.Valid.{within, is_root}
use Rattle.volume_image.specs.declared.head.Format.{Format}
use Rattle.volume_image.specs.declared.head.Format.TheVariants.{One, Two}

-- Serials are below this.
abbrev pub serials : Format → ℕ
serials One = 32
serials Two = 64

-- Format 1 has room for eight classes.
abbrev pub has_room : Format → List ClassEntry → Bool
has_room One table = nat_le (length table) 8
has_room Two table = true

-- one of the levels in a label's ten bytes is above 15
abbrev pub is_high : List ℕ → Bool
is_high bytes = nat_lt 15 (slice_index bytes 0) || nat_lt 15 (slice_index bytes 5)

-- a class of the table
abbrev pub is_class : List ClassEntry → ℕ → Bool
is_class table c = nat_lt c (length table)

-- a class of the table with a serial of the format
abbrev pub is_identity : Format → List ClassEntry → SegId → Bool
is_identity f table u = is_class table u.mentor && nat_lt u.serial (serials f)

-- The second identity comes after the first: by the mentor's class, and within it by serial.
abbrev pub is_above : SegId → SegId → Bool
is_above before u = nat_lt before.mentor u.mentor || (before.mentor == u.mentor && nat_lt before.serial u.serial)

-- A segment of this identity may stand under the mentor: the class of the mentor's identity is at or below its own, and where
-- both are one, the mentor's serial is smaller.
abbrev pub may_stand : List ClassEntry → SegId → SegId → Bool
may_stand table u mentor = at_or_below table mentor.mentor u.mentor && (not (mentor.mentor == u.mentor) || nat_lt mentor.serial u.serial)

-- as many words as the size, each of 64 bits
abbrev pub AreWords : ℕ → List ℕ → Type 0
AreWords size words = (length words ≡ size) × AllByRecursion (λ w. w < 2 ^ 64) words

-- what a record must be that follows one of this identity
pub record IsRecord (f : Format) (table : List ClassEntry) (before : SegId) (r : SegRecord) : Type 0 where
  pub seg : is_identity f table r.seg ≡ true
  pub other : is_root r.seg ≡ false
  pub above : is_above before r.seg ≡ true
  pub class : is_class table r.class ≡ true
  pub flows : at_or_below table r.seg.mentor r.class ≡ true
  pub brackets : in_order r.brackets ≡ true
  pub size : within 1 64 r.size ≡ true
  pub mentor : is_identity f table r.mentor ≡ true
  pub stands : may_stand table r.seg r.mentor ≡ true
  pub entry : nat_lt r.entry 8 ≡ true
  pub kept : IfSome r.kept (AreWords r.size)

-- each record, one after the other
abbrev pub AreRecords : Format → List ClassEntry → SegId → List SegRecord → Type 0
AreRecords f table before [] = Unit {0}
AreRecords f table before (r ∷ rs) = IsRecord f table before r × AreRecords f table r.seg rs

-- A volume that the format can spell. The first record follows the root, which has none and is below every other identity.
pub record IsVolumeOf (f : Format) (table : List ClassEntry) (rs : List SegRecord) : Type 0 where
  pub room : has_room f table ≡ true
  pub records : AreRecords f table (seg 0 0) rs

-- A valid volume is one that format 2 can spell.
abbrev pub IsVolume : List ClassEntry → List SegRecord → Type 0
IsVolume table rs = IsVolumeOf Two table rs
