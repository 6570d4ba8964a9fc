-- Names of segments.
use Rattle.std.specs.Prelude.{ℕ, ◌+◌, ◌*◌, ◌/◌, ◌%◌, Bool, ◌&&◌, ◌==◌, if◌then◌else◌}
use Rattle.words_layout.specs.declared.segment.SegId.{SegId}

-- the identity of serial s under a mentor of class m
abbrev pub seg : ℕ → ℕ → SegId
seg m s = record { mentor = m; serial = s }

-- the number of an identity
abbrev pub seg_number : SegId → ℕ
seg_number u = 64 * u.mentor + u.serial

-- the identity of a number
abbrev pub numbered : ℕ → SegId
numbered n = seg (n / 64) (n % 64)

-- the same identity
abbrev pub same_seg : SegId → SegId → Bool
same_seg u v = u.mentor == v.mentor && u.serial == v.serial

-- the table f with x at u
abbrev pub put_seg : {X : Type 0} → (SegId → X) → SegId → X → SegId → X
put_seg f u x v = let rest = f v in if same_seg v u then x else rest
