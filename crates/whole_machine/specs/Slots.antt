-- What is said of a change in one slot.
use Rattle.std.specs.Prelude.{ℕ, ◌≡◌, List, Option, Some, None, slice_index_or, slice_set}
use Rattle.class_model.specs.Config.{Shared}
use Rattle.class_model.specs.Next.{KnowsClasses}
use Rattle.class_model.specs.Plan.{Own, plan}
use Rattle.class_model.specs.Process.{Process}

-- the process at a place is changed by f, and no other
abbrev pub SlotTakes : List (Option Process) → List (Option Process) → ℕ → (Process → Process) → Type 0
SlotTakes old new at f = (p : Process) → slice_index_or old at None ≡ Some p → new ≡ slice_set old at (Some (f p))

-- The process at a place performs its next instruction, whose plan takes effect on itself alone, and no other changes. It knows
-- no other classes then.
pub record Performs (s : Shared) (class : ℕ) (old new : List (Option Process)) (at : ℕ) (p : Process) : Type 0 where
  pub after : Process
  pub plan : plan s class p ≡ Own after
  pub bank : new ≡ slice_set old at (Some after)
  pub knows : (n : ℕ) → KnowsClasses n p → KnowsClasses n after

-- likewise, whichever process it is
abbrev pub SlotPerforms : Shared → ℕ → List (Option Process) → List (Option Process) → ℕ → Type 0
SlotPerforms s class old new at = (p : Process) → slice_index_or old at None ≡ Some p → Performs s class old new at p
