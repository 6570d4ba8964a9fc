-- Bodies of looks and turns: what is still to do, given what was loaded so far. They speak of guarded words alone, and end
-- with what they show.
use Rattle.std.specs.Prelude.{ℕ}
use Rattle.words_layout.specs.declared.segment.SegId.{SegId}
use Rattle.words_layout.specs.Words.{GuardedWord}

-- the body of a look loads words of one class
pub data Loads (R : Type 0) : Type 0 where
  Load : GuardedWord → (ℕ → Loads R) → Loads R
  Shows : R → Loads R

-- the body of a segment's turn also stores words of its class, and adds to them
pub data Inner (R : Type 0) : Type 0 where
  Load : GuardedWord → (ℕ → Inner R) → Inner R
  Store : GuardedWord → ℕ → Inner R → Inner R
  Add : GuardedWord → ℕ → (ℕ → Inner R) → Inner R
  Shows : R → Inner R

-- the body of a class's turn loads and stores; it may end with the whole turn of a segment
pub data Outer (R : Type 0) : Type 0 where
  Load : GuardedWord → (ℕ → Outer R) → Outer R
  Store : GuardedWord → ℕ → Outer R → Outer R
  Enter : SegId → Inner R → Outer R
  Shows : R → Outer R
