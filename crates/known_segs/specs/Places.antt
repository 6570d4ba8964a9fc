-- The known table as a list of sixteen places.
use Rattle.std.specs.Prelude.{◌≡◌, ℕ, ◌<◌, List, Option, Some, None, is_none, slice_index_or, slice_set, position}
use Rattle.policy.specs.Known.{Known}

-- what a place holds; nothing where it is empty or there is no such place
abbrev pub place_at : List (Option Known) → ℕ → Option Known
place_at places segno = slice_index_or places segno None

-- the least empty place
abbrev pub free_place : List (Option Known) → Option ℕ
free_place places = position (λ k. is_none k) places

-- no place is empty
abbrev pub IsFull : List (Option Known) → Type 0
IsFull places = (k : ℕ) → k < 16 → place_at places k ≡ None → ⊥

-- all places but this one are as they were
abbrev pub OthersStay : List (Option Known) → ℕ → List (Option Known) → Type 0
OthersStay before place after = (k : ℕ) → (k ≡ place → ⊥) → place_at after k ≡ place_at before k

-- the item has gone into the least empty place
pub record FillsLeast (before : List (Option Known)) (item : Known) (place : ℕ) (after : List (Option Known)) : Type 0 where
  pub within : place < 16
  pub empty : place_at before place ≡ None
  pub least : (k : ℕ) → k < place → place_at before k ≡ None → ⊥
  pub filled : place_at after place ≡ Some item
  pub others : OthersStay before place after

-- a place is empty now
pub record Empties (before : List (Option Known)) (place : ℕ) (after : List (Option Known)) : Type 0 where
  pub emptied : place_at after place ≡ None
  pub others : OthersStay before place after
