-- The section of a class, read off a state of the machine of whole instructions.
use Rattle.std.specs.Prelude.{ℕ, Bool, true, false, ◌||◌, not, List, nat_lt, map, codes, Option, Some, None}
use Rattle.std.specs.List.{filter, filter_map, flat_map, enumerate_from}
use Rattle.std.specs.Option.{option_map}
use Rattle.lists.specs.Lists.{below}
use Rattle.labels.specs.Label.{class_at}
use Rattle.words_layout.specs.declared.segment.SegId.{SegId}
use Rattle.words_layout.specs.declared.coding.Alias.{Alias}
use Rattle.class_model.specs.Config.{classes}
use Rattle.class_model.specs.Process.{Process}
use Rattle.class_model.specs.State.{State, Cell, CellHome, Never, Stored, In, Deleted, has_entry, cell_at, eventcount, identities}
use Rattle.class_model.specs.Report.{Seen, SeenProcess, SeenSegment, section_text}

-- the processes that there are among the slots of a processor
abbrev pub seen_slots : ℕ → List (Option Process) → List SeenProcess
seen_slots processor slots =
    filter_map (λ (item : ℕ × Option Process). option_map (λ (p : Process). record { processor = processor; slot = item.0; process = p }) item.1)
    (enumerate_from 0 slots)

-- at most four processors
abbrev pub seen_processes : (ℕ → List (Option Process)) → List SeenProcess
seen_processes slots = flat_map (λ processor. seen_slots processor (slots processor)) (below 4)

-- a home in a word
abbrev pub home_name : CellHome → List ℕ
home_name Never = codes "never"
home_name Stored = codes "stored"
home_name (In live) = codes "in"
home_name Deleted = codes "deleted"

-- the home is Never
abbrev pub never : CellHome → Bool
never Never = true
never _ = false

-- the words that are shown: the live words where the cell is In, the stored words where it is Stored
abbrev pub shown_words : CellHome → Option (List ℕ) → Option (List ℕ)
shown_words (In live) stored = Some live
shown_words Stored stored = stored
shown_words _ stored = None

-- a cell that has been touched, with its eventcount
abbrev pub is_touched : Cell → ℕ → Bool
is_touched cell count =
    not (never cell.home) || nat_lt 0 cell.writes || nat_lt 0 count || nat_lt 0 cell.sequencer || has_entry cell

-- the entries that aren't empty, by number
abbrev pub seen_entries : List (Option Alias) → List (ℕ × Alias)
seen_entries entries =
    filter_map (λ (item : ℕ × Option Alias). option_map (λ (a : Alias). (item.0, a)) item.1) (enumerate_from 0 entries)

-- what is seen of a cell
abbrev pub seen_segment : SegId → Cell → ℕ → SeenSegment
seen_segment u cell count = record {
  seg = u;
  home = home_name cell.home;
  writes = cell.writes;
  count = count;
  tickets = cell.sequencer;
  words = shown_words cell.home cell.stored;
  entries = seen_entries cell.entries;
}

-- the touched segments of class c
abbrev pub seen_segments : State → ℕ → List SeenSegment
seen_segments a c =
    map (λ u. seen_segment u (cell_at a c u) (eventcount a c u))
    (filter (λ u. is_touched (cell_at a c u) (eventcount a c u)) (identities (classes a.shared)))

-- what is seen of class c
abbrev pub seen : ℕ → State → Seen
seen c a = record {
  class = c;
  name = (class_at a.shared.table c).name;
  lines = (a.part c).lines;
  processes = seen_processes (a.part c).slots;
  segments = seen_segments a c;
}

-- SectionA(c, state)
abbrev pub section : ℕ → State → List ℕ
section c a = section_text (seen c a)
