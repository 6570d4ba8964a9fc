-- What is put into a state that is built, and the state after it.
use Rattle.std.specs.Prelude.{ℕ, ◌+◌, Bool, List, [], ◌∷◌, ◌++◌, ◌==◌, ◌&&◌, max, count_by, Option, Some, None}
use Rattle.words_layout.specs.Segments.{seg}
use Rattle.words_layout.specs.declared.segment.SegId.{SegId}
use Rattle.words_layout.specs.declared.coding.Alias.{Alias}
use Rattle.class_model.specs.Config.{Config, SegRecord, ProcessLine}
use Rattle.class_model.specs.Process.{ProcName, new_process}
use Rattle.class_model.specs.Run.{alias_of}
use Rattle.class_model.specs.State.{State, Part, Cell, Stored, with_cell, with_process, with_part}
use Rattle.class_model.specs.Step.{with_entry}

-- a cell with these words stored, if there are any
abbrev pub storing : Option (List ℕ) → Cell → Cell
storing None cell = cell
storing (Some words) cell = record cell { home = Stored; stored = Some words }

-- the part with words stored in the cell of an identity, if there are any
abbrev pub keeping : Part → SegId → Option (List ℕ) → Part
keeping part u kept = with_cell part u (storing kept (part.cell u))

-- the part with a segment in an entry of a cell, and with a next serial above the segment's
abbrev pub holding : Part → SegId → ℕ → Alias → Part
holding part u e child =
    record (with_cell part u (with_entry (part.cell u) e (Some child))) { next_serial = max part.next_serial (child.serial + 1) }

-- the state with a segment in entry e of the cell of class m and identity u, and with its kept words in its own cell
abbrev pub with_record : State → ℕ → SegId → ℕ → Alias → Option (List ℕ) → State
with_record a m u e child kept =
    let b : State = with_part a m (holding (a.part m) u e child) in
    with_part b child.class (keeping (b.part child.class) (seg m child.serial) kept)

-- the state with a process at the start of its script
abbrev pub with_new : State → ProcName → ℕ → ℕ → State
with_new a n script ring =
    with_part a n.class (with_process (a.part n.class) n.processor n.slot (new_process n.class script ring 0))

-- ---- the records and processes of a configuration

-- the state with a record
abbrev pub recorded : State → SegRecord → State
recorded a r = with_record a r.seg.mentor r.mentor r.entry (alias_of r) r.kept

-- the state with records, put one after the other
abbrev pub all_recorded : State → List SegRecord → State
all_recorded a [] = a
all_recorded a (r ∷ rs) = all_recorded (recorded a r) rs

-- a line of the same processor and class
abbrev pub is_beside : ProcessLine → ProcessLine → Bool
is_beside l x = x.processor == l.processor && x.class == l.class

-- the name of the process of a line that follows these: it takes the next slot of its processor and class
abbrev pub name_after : List ProcessLine → ProcessLine → ProcName
name_after front l = record { processor = l.processor; class = l.class; slot = count_by (is_beside l) front }

-- the state with the process of a line that follows these
abbrev pub begun_after : State → List ProcessLine → ProcessLine → State
begun_after a front l = with_new a (name_after front l) l.script l.ring

-- the state with processes, put one after the other, that follow those in front
abbrev pub all_begun : State → List ProcessLine → List ProcessLine → State
all_begun a front [] = a
all_begun a front (l ∷ ls) = all_begun (begun_after a front l) (front ++ l ∷ []) ls

-- a configuration without processes and records
abbrev pub bare : Config → Config
bare k = record k { processes = []; records = [] }

-- what is put into the opening of a bare configuration: its records, and then its processes
abbrev pub built : Config → State → State
built k a = all_begun (all_recorded a k.records) [] k.processes
