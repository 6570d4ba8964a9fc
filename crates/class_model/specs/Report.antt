-- The text of a section of the report, from what is read off a state.
use Rattle.std.specs.Prelude.{ℕ, Bool, true, false, List, [], ◌∷◌, ◌++◌, map, codes, Option, Some, None}
use Rattle.std.specs.List.{list_any, join_with_byte, flat_map}
use Rattle.std.specs.Fmt.{decimal}
use Rattle.words_layout.specs.declared.segment.SegId.{SegId}
use Rattle.words_layout.specs.declared.coding.Alias.{Alias}
use Rattle.class_model.specs.Process.{Process}

-- a line of words: blanks between them and a line feed at its end
abbrev pub line_of : List (List ℕ) → List ℕ
line_of words = join_with_byte 32 words ++ 10 ∷ []

-- a process that was ever there
pub record SeenProcess : Type 0 where
  pub processor : ℕ
  pub slot : ℕ
  pub process : Process

-- a touched segment: its home by name, its counts, the words that are shown, and its entries by number
pub record SeenSegment : Type 0 where
  pub seg : SegId
  pub home : List ℕ
  pub writes : ℕ
  pub count : ℕ
  pub tickets : ℕ
  pub words : Option (List ℕ)
  pub entries : List (ℕ × Alias)

-- what a section shows of a class
pub record Seen : Type 0 where
  pub class : ℕ
  pub name : List ℕ
  pub lines : List ℕ
  pub processes : List SeenProcess
  pub segments : List SeenSegment

-- whether a process is live, in a word
abbrev pub state_word : Bool → List ℕ
state_word true = codes "live"
state_word false = codes "ended"

-- the two lines of a process
abbrev pub process_text : SeenProcess → List ℕ
process_text s =
    line_of (codes "process" ∷ decimal s.processor ∷ decimal s.slot ∷ state_word s.process.live ∷ codes "script" ∷
    decimal s.process.script ∷ codes "place" ∷ decimal s.process.place ∷ codes "ring" ∷ decimal s.process.ring ∷ []) ++
    line_of (codes "regs" ∷ map decimal s.process.regs)

-- the line of words, if words are shown
abbrev pub words_text : Option (List ℕ) → List ℕ
words_text None = []
words_text (Some words) = line_of (codes "words" ∷ map decimal words)

-- the line of an entry
abbrev pub entry_text : ℕ × Alias → List ℕ
entry_text (e, a) = line_of (codes "entry" ∷ decimal e ∷ codes "class" ∷ decimal a.class ∷ codes "brackets" ∷
    decimal a.r1 ∷ decimal a.r2 ∷ decimal a.r3 ∷ codes "size" ∷ decimal a.size ∷ codes "serial" ∷ decimal a.serial ∷ [])

-- the lines of a segment
abbrev pub segment_text : SeenSegment → List ℕ
segment_text s =
    line_of (codes "segment" ∷ decimal s.seg.mentor ∷ decimal s.seg.serial ∷ s.home ∷ codes "writes" ∷ decimal s.writes ∷
    codes "count" ∷ decimal s.count ∷ codes "tickets" ∷ decimal s.tickets ∷ []) ++
    words_text s.words ++ flat_map entry_text s.entries

-- a process of the class is live
abbrev pub some_live : List SeenProcess → Bool
some_live processes = list_any (λ (s : SeenProcess). s.process.live) processes

-- open and nothing more while a process is live, else closed and the segments
abbrev pub closing_text : Bool → List SeenSegment → List ℕ
closing_text true segments = line_of (codes "open" ∷ [])
closing_text false segments = line_of (codes "closed" ∷ []) ++ flat_map segment_text segments

-- the section of a class
abbrev pub section_text : Seen → List ℕ
section_text s =
    line_of (codes "class" ∷ decimal s.class ∷ s.name ∷ []) ++
    flat_map (λ v. line_of (codes "line" ∷ decimal v ∷ [])) s.lines ++
    flat_map process_text s.processes ++
    closing_text (some_live s.processes) s.segments
