-- What a crash leaves at any moment of `save`.
use Rattle.std.proofs.Common.{◌≡◌, ℕ, ◌-◌, ◌<◌, ◌≤◌, List, length}
use Rattle.safe_save.specs.Disk.{DiffersIn, LeavesOnly}
use Rattle.safe_save.specs.Kept.{start_of, half_in_use, kept, IsOldOrNew}
use Rattle.safe_save.proofs.Moments.{joined, weaker}
use Rattle.safe_save.proofs.Halves.{IsStaged, staging, switching}

module _ {D : Type 0} (moment : D → ℕ) (left_since : D → ℕ → List ℕ → Type 0) (half at : ℕ) (bytes image : List ℕ) (low : half < 2) (is : half ≡ half_in_use image) (fits : length bytes ≤ 4194312) (place : at ≡ start_of (1 - half)) where
  -- while the new image is written
  pub while_staging : (old mid : D) → LeavesOnly moment left_since old mid (DiffersIn at (length bytes) image) → LeavesOnly moment left_since old mid (IsOldOrNew (kept image) bytes)
  while_staging old mid run = weaker moment left_since old mid (DiffersIn at (length bytes) image) (IsOldOrNew (kept image) bytes) run (λ c differs. staging half at (length bytes) bytes image c is low fits place differs)

  -- and while the gate is written
  pub while_switching : (old mid new : D) (staged : List ℕ) → IsStaged half bytes image staged → LeavesOnly moment left_since old mid (DiffersIn at (length bytes) image) → LeavesOnly moment left_since mid new (DiffersIn 0 1 staged)
      → LeavesOnly moment left_since old new (IsOldOrNew (kept image) bytes)
  while_switching old mid new staged ready first second =
      joined moment left_since old mid new (IsOldOrNew (kept image) bytes) (DiffersIn 0 1 staged) (while_staging old mid first) second (λ c differs. switching half bytes image staged c low ready differs)
