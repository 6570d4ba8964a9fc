-- How many frames or pages of a class are in use.
use Rattle.std.specs.Prelude.{ℕ, ◌≡◌, ◌<◌, ◌==◌, ◌&&◌, Bool, false, List, map, count_by, is_some, slice_index_or}
use Rattle.std.specs.List.{IsDistinct}
use Rattle.lists.specs.Lists.{below}
use Rattle.words_layout.specs.Segments.{seg, same_seg}
use Rattle.words_layout.specs.declared.segment.SegId.{SegId}
use Rattle.class_model.specs.State.{Cell, is_in, identities}
use Rattle.whole_machine.specs.Parts.{Listed, cell_key, cell_in}
use Rattle.whole_machine.specs.declared.pools.Pooled.{Pooled}
use Rattle.whole_machine.specs.declared.pools.Pooled.TheVariants as P

-- the cell uses a frame, or a page
abbrev pub uses : Pooled → Cell → Bool
uses P.Frame cell = is_in cell
uses P.Page cell = is_some cell.stored

-- how many cells among these identities under n classes use one
abbrev pub in_use : Pooled → List Listed → ℕ → ℕ
in_use kind cells n = count_by (λ u. uses kind (cell_in cells u)) (identities n)

-- how many identities under a mentor of class m pass a test
unfoldable pub under : (SegId → Bool) → ℕ → ℕ
under p m = count_by p (map (λ s. seg m s) (below 64))

-- the numbers say it of each class
abbrev pub CountsUnder : (SegId → Bool) → List ℕ → Type 0
CountsUnder p numbers = (m : ℕ) → m < 16 → slice_index_or numbers m 0 ≡ under p m

-- one test is like another one but for the identity u
pub record ChangesAt (p r : SegId → Bool) (u : SegId) (was now : Bool) : Type 0 where
  pub before : was ≡ p u
  pub after : now ≡ r u
  pub others : (v : SegId) → same_seg v u ≡ false → r v ≡ p v

-- what is the same key
abbrev pub same_key : ℕ × ℕ → ℕ × ℕ → Bool
same_key j k = j.0 == k.0 && j.1 == k.1

-- the cell of an identity uses a frame, or a page
abbrev pub uses_at : Pooled → List Listed → SegId → Bool
uses_at kind cells u = uses kind (cell_in cells u)

-- what is kept beside a list of cells: their keys, no two the same, and how many of them use a frame and a page
pub record IsKept (cells : List Listed) (keys : List (ℕ × ℕ)) (in_frames on_pages : List ℕ) : Type 0 where
  pub keyed : keys ≡ map cell_key cells
  pub apart : IsDistinct same_key keys
  pub frames : CountsUnder (uses_at P.Frame cells) in_frames
  pub pages : CountsUnder (uses_at P.Page cells) on_pages
