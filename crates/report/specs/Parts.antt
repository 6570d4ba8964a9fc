-- The text of a section part by part, as it is printed.
use Rattle.std.specs.Prelude.{ℕ, ◌==◌, List, [], ◌∷◌, if◌then◌else◌, codes, Option, Some, None, slice_index_or}
use Rattle.std.specs.List.{find, flat_map}
use Rattle.std.specs.Option.{option_map}
use Rattle.std.specs.Fmt.{decimal}
use Rattle.lists.specs.Lists.{below}
use Rattle.words_layout.specs.Segments.{seg}
use Rattle.words_layout.specs.declared.segment.SegId.{SegId}
use Rattle.words_layout.specs.declared.coding.Alias.{Alias}
use Rattle.class_model.specs.Config.{classes}
use Rattle.class_model.specs.Report.{line_of, process_text, entry_text, segment_text}
use Rattle.process.specs.Standing.{Standing}
use Rattle.machine.specs.Machine.{Machine}
use Rattle.machine.specs.Processing.{Processing}
use Rattle.machine.specs.Banks.{State, vp_at}
use Rattle.report.specs.Reported.{is_touched, word_segment}
use Rattle.report.specs.Found.{entry_in}

-- the line of a console value
abbrev pub console_text : ℕ → List ℕ
console_text v = line_of (codes "line" ∷ decimal v ∷ [])

-- its line, if there is a value
abbrev pub value_text : Option ℕ → List ℕ
value_text None = []
value_text (Some v) = console_text v

-- the value of a place among lines
abbrev pub value_in : List (ℕ × ℕ) → ℕ → Option ℕ
value_in lines place = option_map (λ (x : ℕ × ℕ). x.1) (find (λ (x : ℕ × ℕ). x.0 == place) lines)

-- the lines of the process of a slot, none where the slot is empty
abbrev pub slot_text : ℕ → ℕ → Option Standing → List ℕ
slot_text processor slot None = []
slot_text processor slot (Some p) = process_text (record { processor = processor; slot = slot; process = p.process })

-- the lines of the processes of a virtual processor
abbrev pub slots_text : ℕ → Processing → List ℕ
slots_text processor v = flat_map (λ slot. slot_text processor slot (slice_index_or v.slots slot None)) (below 4)

-- the lines of the processes of a class
abbrev pub processes_text : State (List ℕ) → ℕ → List ℕ
processes_text m class = flat_map (λ p. slots_text p (vp_at m.banks p class)) (below 4)

-- the line of an entry, none where it is empty
abbrev pub alias_text : ℕ → Option Alias → List ℕ
alias_text e None = []
alias_text e (Some a) = entry_text (e, a)

-- the lines of the entries of a segment
abbrev pub entries_text : State (List ℕ) → ℕ → SegId → List ℕ
entries_text m class u = flat_map (λ e. alias_text e (entry_in m class u e)) (below 8)

-- the lines of a segment, if it has been touched
abbrev pub touched_text : Machine → ℕ → SegId → List ℕ
touched_text m class u = if is_touched m class u then segment_text (word_segment m class u) else []

-- the lines of the touched segments with mentors of one class
abbrev pub mentor_text : Machine → ℕ → ℕ → List ℕ
mentor_text m class mentor = flat_map (λ serial. touched_text m class (seg mentor serial)) (below 64)

-- the lines of the touched segments of a class
abbrev pub segments_text : Machine → ℕ → List ℕ
segments_text m class = flat_map (λ mentor. mentor_text m class mentor) (below (classes m.shared))
