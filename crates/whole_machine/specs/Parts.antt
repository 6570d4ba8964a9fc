-- The state of the machine of whole instructions as lists: what is listed of each class, and the state that it stands for.
use Rattle.std.specs.Prelude.{ℕ, ◌+◌, ◌*◌, Bool, List, [], ◌∷◌, ◌==◌, ◌&&◌, if◌then◌else◌, map, replicate, Option, None, slice_index_or}
use Rattle.lists.specs.Lists.{below}
use Rattle.words_layout.specs.Segments.{same_seg}
use Rattle.words_layout.specs.declared.segment.SegId.{SegId}
use Rattle.class_model.specs.Config.{Shared}
use Rattle.class_model.specs.Process.{Process}
use Rattle.class_model.specs.State.{State, Part, Cell, blank_cell}

-- a cell with its identity
pub record Listed : Type 0 where
  pub seg : SegId
  pub cell : Cell

-- a component of the eventcount of the cell of class x and identity seg
pub record Counted : Type 0 where
  pub class : ℕ
  pub seg : SegId
  pub count : ℕ

-- what is listed of a class: cells, components, the next serial, the console lines and places used, and sixteen slots,
-- four for each processor
pub record ListedPart : Type 0 where
  pub cells : List Listed
  pub counts : List Counted
  pub next_serial : ℕ
  pub lines : List ℕ
  pub used : ℕ
  pub bank : List (Option Process)

-- what no step changes, and a part for each class
pub record ListedState : Type 0 where
  pub shared : Shared
  pub parts : List ListedPart

-- what the first item that passes a test holds, or else a default
abbrev pub first_of : {X A : Type 0} → (X → Bool) → (X → A) → A → List X → A
first_of p f d [] = d
first_of p f d (x ∷ xs) = if p x then f x else first_of p f d xs

-- the item is the cell of the identity
abbrev pub is_cell : SegId → Listed → Bool
is_cell u x = same_seg u x.seg

-- the item is a component at the identity of class x
abbrev pub is_count : ℕ → SegId → Counted → Bool
is_count x u y = x == y.class && same_seg u y.seg

-- what the cell of an identity is found by
abbrev pub cell_key : Listed → ℕ × ℕ
cell_key x = (x.seg.mentor, x.seg.serial)

-- what a component at an identity of class x is found by
abbrev pub count_key : Counted → ℕ × (ℕ × ℕ)
count_key y = (y.class, (y.seg.mentor, y.seg.serial))

-- the cell of an identity: the first that is listed, else a blank one
abbrev pub cell_in : List Listed → SegId → Cell
cell_in cells u = first_of (is_cell u) (λ x. x.cell) blank_cell cells

-- the component at an identity of class x: the first that is listed, else 0
abbrev pub count_in : List Counted → ℕ → SegId → ℕ
count_in counts x u = first_of (is_count x u) (λ y. y.count) 0 counts

-- the four slots of a processor
abbrev pub slots_in : List (Option Process) → ℕ → List (Option Process)
slots_in bank processor = map (λ slot. slice_index_or bank (4 * processor + slot) None) (below 4)

-- the part that the lists stand for
abbrev pub part_in : ListedPart → Part
part_in p = record {
  cell = cell_in p.cells;
  component = count_in p.counts;
  next_serial = p.next_serial;
  lines = p.lines;
  used = p.used;
  slots = slots_in p.bank;
}

-- the part of a class of which nothing is listed
abbrev pub no_part : ListedPart
no_part = record { cells = []; counts = []; next_serial = 0; lines = []; used = 0; bank = replicate 16 None }

-- the state that the lists stand for
abbrev pub state_of : ListedState → State
state_of m = record { shared = m.shared; part = λ class. part_in (slice_index_or m.parts class no_part) }
