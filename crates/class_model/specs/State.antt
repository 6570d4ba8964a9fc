-- The state of the machine that performs one whole instruction at a time.
-- It is a part for each class, so that what a class may see is the parts of the classes at or below it.
use Rattle.std.specs.Prelude.{ℕ, ◌%◌, ◌^◌, sum, Bool, true, false, List, [], map, replicate, count_by, Option, Some, None, is_some, slice_index_or, slice_set}
use Rattle.std.specs.List.{list_any, flat_map}
use Rattle.lists.specs.Lists.{below, put}
use Rattle.words_layout.specs.Segments.{seg, put_seg}
use Rattle.words_layout.specs.declared.segment.SegId.{SegId}
use Rattle.words_layout.specs.declared.coding.Alias.{Alias}
use Rattle.policy.specs.Known.{Known}
use Rattle.policy.specs.Outcome.{components}
use Rattle.class_model.specs.Config.{Shared, classes}
use Rattle.class_model.specs.Process.{Process, ProcName}

-- where the words of a cell are; the live words are there exactly where it is In
pub data CellHome : Type 0 where
  Never : CellHome
  Stored : CellHome
  In : (live : List ℕ) → CellHome
  Deleted : CellHome

-- a cell: its home, its stored words or none, its count of writes, its sequencer, and its eight entries
pub record Cell : Type 0 where
  pub home : CellHome
  pub stored : Option (List ℕ)
  pub writes : ℕ
  pub sequencer : ℕ
  pub entries : List (Option Alias)

-- a cell that nothing has touched
abbrev pub blank_cell : Cell
blank_cell = record { home = Never; stored = None; writes = 0; sequencer = 0; entries = replicate 8 None }

-- The part of one class: its cells by identity; its components of the eventcounts of the cells of each class; its next
-- serial, its console lines and the places used; and its processes, four slots for each processor. A slot that never held
-- a process is empty.
pub record Part : Type 0 where
  pub cell : SegId → Cell
  pub component : ℕ → SegId → ℕ
  pub next_serial : ℕ
  pub lines : List ℕ
  pub used : ℕ
  pub slots : ℕ → List (Option Process)

-- what no step changes, and the part of each class
pub record State : Type 0 where
  pub shared : Shared
  pub part : ℕ → Part

-- the cell of class c and identity u
abbrev pub cell_at : State → ℕ → SegId → Cell
cell_at a c u = (a.part c).cell u

-- the component of a class of the eventcount of the cell of class x and identity u
abbrev pub component_at : State → ℕ → ℕ → SegId → ℕ
component_at a c x u = (a.part c).component x u

-- the eventcount of the cell of class x and identity u: the sum of the components of the classes at or below x
abbrev pub eventcount : State → ℕ → SegId → ℕ
eventcount a x u = sum (map (λ c. component_at a c x u) (components a.shared.table x)) % 2 ^ 64

-- the cell of which a known place speaks
abbrev pub cell_of : State → Known → Cell
cell_of a k = cell_at a k.class k.seg

-- an entry of a cell
abbrev pub entry_at : Cell → ℕ → Option Alias
entry_at cell e = slice_index_or cell.entries e None

-- a cell with an entry
abbrev pub has_entry : Cell → Bool
has_entry cell = list_any (λ e. is_some e) cell.entries

-- the home is In
abbrev pub is_in_home : CellHome → Bool
is_in_home (In live) = true
is_in_home _ = false

-- the cell is In
abbrev pub is_in : Cell → Bool
is_in cell = is_in_home cell.home

-- the home is Deleted
abbrev pub is_deleted_home : CellHome → Bool
is_deleted_home Deleted = true
is_deleted_home _ = false

-- the cell is Deleted
abbrev pub is_deleted : Cell → Bool
is_deleted cell = is_deleted_home cell.home

-- the words of a cell that is In
abbrev pub live_of : CellHome → List ℕ
live_of (In live) = live
live_of _ = []

-- the live words of a cell
abbrev pub live_words : Cell → List ℕ
live_words cell = live_of cell.home

-- the identities under the first n classes, in order
abbrev pub identities : ℕ → List SegId
identities n = flat_map (λ m. map (λ s. seg m s) (below 64)) (below n)

-- the frames in use: the cells of the class that are In
abbrev pub frames_in_use : Shared → Part → ℕ
frames_in_use s part = count_by (λ u. is_in (part.cell u)) (identities (classes s))

-- the pages in use: the cells of the class with stored words
abbrev pub pages_in_use : Shared → Part → ℕ
pages_in_use s part = count_by (λ u. is_some (part.cell u).stored) (identities (classes s))

-- the process of a name
abbrev pub process_at : State → ProcName → Option Process
process_at a n = slice_index_or ((a.part n.class).slots n.processor) n.slot None

-- the part with a cell changed
abbrev pub with_cell : Part → SegId → Cell → Part
with_cell part u cell = record part { cell = put_seg part.cell u cell }

-- the part with a component changed
abbrev pub with_component : Part → ℕ → SegId → ℕ → Part
with_component part x u v = record part { component = put part.component x (put_seg (part.component x) u v) }

-- the part with the process of a slot changed
abbrev pub with_process : Part → ℕ → ℕ → Process → Part
with_process part processor slot p =
    record part { slots = put part.slots processor (slice_set (part.slots processor) slot (Some p)) }

-- the state with the part of a class changed
abbrev pub with_part : State → ℕ → Part → State
with_part a d part = record a { part = put a.part d part }
