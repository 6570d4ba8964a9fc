-- Parts of the text of a section.
use Rattle.std.specs.Prelude.{ℕ, ◌≡◌, Bool, true, false, List, [], ◌∷◌, Option, Some, None, length}
use Rattle.std.specs.List.{flat_map}
use Rattle.std.specs.Fmt.{decimal}
use Rattle.words_layout.specs.declared.segment.SegId.{SegId}
use Rattle.words_layout.specs.declared.coding.Alias.{Alias}
use Rattle.class_model.specs.Process.{Process}
use Rattle.class_model.specs.State.{State, cell_at, eventcount}
use Rattle.class_model.specs.Report.{SeenSegment, process_text, entry_text, segment_text}
use Rattle.class_model.specs.Section.{is_touched, seen_segment, seen_slots}
use Rattle.whole_machine.specs.Parts.{ListedPart}
use Rattle.whole_machine.specs.Steps.{slot_in}

-- numbers, each behind a blank
abbrev pub numbers_text : List ℕ → List ℕ
numbers_text ns = flat_map (λ n. 32 ∷ decimal n) ns

-- the lines of the process in a slot
abbrev pub slot_text : ℕ → ℕ → Option Process → List ℕ
slot_text processor slot None = []
slot_text processor slot (Some p) = process_text (record { processor = processor; slot = slot; process = p })

-- the lines of the processes of a processor
abbrev pub processor_text : ℕ → List (Option Process) → List ℕ
processor_text processor slots = flat_map process_text (seen_slots processor slots)

-- a slot holds a live process
abbrev pub lives : Option Process → Bool
lives None = false
lives (Some p) = p.live

-- each process of a part has sixteen registers
abbrev pub HasRegisters : ListedPart → Type 0
HasRegisters part = (processor slot : ℕ) (p : Process) → slot_in part processor slot ≡ Some p → length p.regs ≡ 16

-- the line of an entry at a place, if it isn't empty
abbrev pub place_text : ℕ → Option Alias → List ℕ
place_text e None = []
place_text e (Some a) = entry_text (e, a)

-- the lines of a segment, if it was touched
abbrev pub touched_text : Bool → SeenSegment → List ℕ
touched_text true s = segment_text s
touched_text false s = []

-- the lines of the segment of class c and identity u, if it was touched
abbrev pub cell_text : State → ℕ → SegId → List ℕ
cell_text a c u = touched_text (is_touched (cell_at a c u) (eventcount a c u)) (seen_segment u (cell_at a c u) (eventcount a c u))
