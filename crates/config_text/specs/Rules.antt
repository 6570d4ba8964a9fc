-- How a configuration's text judges its lines: each kind of line has a table of tests with their codes, in rising order,
-- and the place after a line that has none.
use Rattle.std.specs.Prelude.{ℕ, ◌+◌, ◌-◌, ◌*◌, min, List, [], ◌∷◌, ◌++◌, length, map, codes, Bool, true, false, not, ◌==◌, ◌&&◌, ◌||◌, nat_le, nat_lt, if◌then◌else◌, is_none, Option, Some, None, option_map, option_and_then}
use Rattle.std.specs.List.{list_all, list_any, sum_by}
use Rattle.std.specs.Option.{option_map_or}
use Rattle.std.specs.Str.{bytes_eq}
use Rattle.text_lines.specs.Number.{misspelt, value_of}
use Rattle.text_lines.specs.Lines.{cut, words_of}
use Rattle.text_lines.specs.Name.{is_name, all_allowed}
use Rattle.text_lines.specs.Faults.{Tests, LineRules}
use Rattle.labels.specs.Label.{Label, ClassEntry, dominates}
use Rattle.labels.specs.Reading.{label_of_text}
use Rattle.rings.specs.Brackets.{Brackets, in_order}
use Rattle.script_asm.specs.declared.fault.Code.{Code as ScriptCode}
use Rattle.script_asm.specs.declared.fault.Code.TheVariants as script
use Rattle.script_asm.specs.Script.{start as script_start, line_tests as script_line_tests, end_tests as script_end_tests, next_place as script_next}
use Rattle.config_text.specs.declared.config.Pool.{Pool}
use Rattle.config_text.specs.declared.config.Script.{Script}
use Rattle.config_text.specs.declared.config.GateLine.{GateLine}
use Rattle.config_text.specs.declared.config.ProcessLine.{ProcessLine}
use Rattle.config_text.specs.declared.config.Item.{Item}
use Rattle.config_text.specs.declared.config.Item.TheVariants as item
use Rattle.config_text.specs.declared.fault.Code.{Code}
use Rattle.config_text.specs.declared.fault.Code.TheVariants as code
use Rattle.config_text.specs.declared.stage.Stage.{Stage}
use Rattle.config_text.specs.declared.stage.Stage.TheVariants as stage
use Rattle.config_text.specs.declared.stage.Kind.{Kind}
use Rattle.config_text.specs.declared.stage.Kind.TheVariants as kind
use Rattle.words_layout.specs.Sizes.{max_events}
use Rattle.config_text.specs.Valid.{within, uses_script, processes_of}
use Rattle.config_text.specs.Codes.{code_number, of_script}
use Rattle.config_text.specs.Place.{Inside, Place, config_in}

infixl 10 ◌>>=◌
-- the next step, where this one gave something
abbrev ◌>>=◌ : {A B : Type 0} → Option A → (A → Option B) → Option B
o >>= f = option_and_then f o

-- a word of a line, as its bytes
abbrev pub Text : Type 0
Text = List ℕ

-- a line, as its bytes
abbrev pub Line : Type 0
Line = List ℕ

-- ---- tests of words

-- The number is below the first one or above the second.
abbrev pub is_outside : ℕ → ℕ → ℕ → Bool
is_outside low high n = nat_lt n low || nat_lt high n

-- One of the words is no number below the limit.
abbrev pub has_past : ℕ → List Text → Bool
has_past limit ws = list_any (λ w. nat_le limit (value_of w)) ws

-- A class, a script or a processor by its number. A line whose number is past what there is has a code; the cut makes
-- the function total.
abbrev pub byte : ℕ → ℕ
byte n = min n 255

-- The byte is in the word.
abbrev pub has_byte : ℕ → Text → Bool
has_byte wanted w = list_any (λ b. b == wanted) w

-- the parts of an event word `P.C*N`
pub record EventParts : Type 0 where
  pub processor : Text
  pub class : Text
  pub count : Text

-- the parts of a word with one `.` and behind it one `*`
abbrev pub event_parts : Text → Option EventParts
event_parts w = do
  front ← cut 46 w
  back ← cut 42 front.1
  if has_byte 46 front.1 || has_byte 42 back.1 then None else Some (record { processor = front.0; class = back.0; count = back.1 })

-- It is the line that ends a script: its only word is `end`.
abbrev pub is_end : List Text → Bool
is_end (w ∷ []) = bytes_eq w (codes "end")
is_end ws = false

-- the lines before the one that ends a script
abbrev pub body_of : List Line → List Line
body_of [] = []
body_of (line ∷ more) = if is_end (words_of line) then [] else line ∷ body_of more

-- ---- which line may stand

-- what comes after a class line, with this many still to come
abbrev pub after_class : ℕ → Stage
after_class due = if due == 0 then stage.Processors else stage.Classes

-- what a line behind the header is, by its first word
unfoldable pub kind_of : Text → Option Kind
kind_of w =
    if bytes_eq w (codes "script") then Some kind.Script else
    if bytes_eq w (codes "gate") then Some kind.Gate else
    if bytes_eq w (codes "process") then Some kind.Process else
    if bytes_eq w (codes "events") then Some kind.Events else
    if bytes_eq w (codes "mix") then Some kind.Mix else
    if bytes_eq w (codes "sweep") then Some kind.Sweep else
    if bytes_eq w (codes "end") then Some kind.End else None

-- how far the stage is, behind the header
abbrev pub stage_rank : Stage → ℕ
stage_rank stage.Scripts = 0
stage_rank stage.Gates = 1
stage_rank stage.Processes = 2
stage_rank stage.Items = 3
stage_rank _ = 4

-- how far a line of the kind may stand
abbrev pub kind_rank : Kind → ℕ
kind_rank kind.Script = 0
kind_rank kind.Gate = 1
kind_rank kind.Process = 2
kind_rank _ = 3

-- Scripts come before gates, gates before processes, processes before items and the end.
abbrev pub may_stand : Stage → Kind → Bool
may_stand s k = nat_le (stage_rank s) (kind_rank k)

-- ---- each kind of line: its tests, and the place after it

-- no form that may stand here
abbrev pub no_form : Tests Code
no_form = (true, code.Form) ∷ []

-- `gemkernel 1`
abbrev pub header_tests : List Text → Tests Code
header_tests (k ∷ v ∷ []) = (not (bytes_eq k (codes "gemkernel")), code.Form) ∷ (not (bytes_eq v (codes "1")), code.Form) ∷ []
header_tests ws = no_form

-- a keyword and a number from low to high
abbrev pub number_tests : Text → ℕ → ℕ → List Text → Tests Code
number_tests keyword low high (k ∷ n ∷ []) = (not (bytes_eq k keyword), code.Form) ∷ (misspelt n, code.Number) ∷ (is_outside low high (value_of n), code.Range) ∷ []
number_tests keyword low high ws = no_form

-- that number
abbrev pub number_in : List Text → ℕ
number_in (k ∷ n ∷ []) = value_of n
number_in ws = 0

-- the words of a class line
pub record ClassText : Type 0 where
  pub keyword : Text
  pub name : Text
  pub label : Text
  pub frames_word : Text
  pub frames : Text
  pub pages_word : Text
  pub pages : Text
  pub volume_word : Text
  pub volume : Text

-- the fixed words of a class line
unfoldable pub fixed_tests : Text → Text → Text → Text → Tests Code
fixed_tests k f g v =
    (not (bytes_eq k (codes "class")), code.Form) ∷ (not (bytes_eq f (codes "frames")), code.Form) ∷ (not (bytes_eq g (codes "pages")), code.Form) ∷
    (not (bytes_eq v (codes "volume")), code.Form) ∷ []

-- its numbers
unfoldable pub pool_tests : Text → Text → Text → Tests Code
pool_tests frames pages volume =
    (list_any misspelt (frames ∷ pages ∷ volume ∷ []), code.Number) ∷
    (nat_lt 16 (value_of frames) || nat_lt 32 (value_of pages) || nat_lt 4 (value_of volume), code.Range) ∷ []

-- The labels are equal.
abbrev pub same_label : Label → Label → Bool
same_label a b = a.secrecy_level == b.secrecy_level && a.secrecy_cats == b.secrecy_cats && a.integrity_level == b.integrity_level && a.integrity_cats == b.integrity_cats

-- An earlier class has the name or the label.
abbrev pub stood_before : List ClassEntry → Text → Label → Bool
stood_before table name l = list_any (λ (c : ClassEntry). bytes_eq c.name name || same_label c.label l) table

-- The label doesn't dominate that of class 0.
abbrev pub is_low : List ClassEntry → Label → Bool
is_low [] l = false
is_low (c ∷ cs) l = not (dominates l c.label)

-- its name and label
unfoldable pub entry_tests : List ClassEntry → Text → Option Label → Tests Code
entry_tests table name None = (true, code.Label) ∷ []
entry_tests table name (Some l) = (not (is_name name), code.Name) ∷ (stood_before table name l, code.Twice) ∷ (is_low table l, code.Low) ∷ []

-- its fixed words and its numbers
unfoldable pub front_tests : ClassText → Tests Code
front_tests w = fixed_tests w.keyword w.frames_word w.pages_word w.volume_word ++ pool_tests w.frames w.pages w.volume

-- a class line by its words
abbrev pub class_text_tests : List ClassEntry → ClassText → Tests Code
class_text_tests table w = front_tests w ++ entry_tests table w.name (label_of_text w.label)

-- `class NAME LABEL frames F pages G volume V`
abbrev pub class_tests : List ClassEntry → List Text → Tests Code
class_tests table (k ∷ name ∷ label ∷ f ∷ frames ∷ g ∷ pages ∷ v ∷ volume ∷ []) =
    class_text_tests table (record { keyword = k; name = name; label = label; frames_word = f; frames = frames; pages_word = g; pages = pages; volume_word = v; volume = volume })
class_tests table ws = no_form

-- the place with one class more
abbrev pub with_class : Place → Text → Option Label → Pool → Place
with_class p name None pool = p
with_class p name (Some l) pool =
    record p { stage = after_class (p.due - 1); due = p.due - 1; table = p.table ++ record { name = name; label = l } ∷ []; pools = p.pools ++ pool ∷ [] }

-- its pool
abbrev pub pool_in : Text → Text → Text → Pool
pool_in frames pages volume = record { frames = value_of frames; pages = value_of pages; volume = value_of volume }

-- the place after a class line
abbrev pub class_next : Place → List Text → Place
class_next p (k ∷ name ∷ label ∷ f ∷ frames ∷ g ∷ pages ∷ v ∷ volume ∷ []) = with_class p name (label_of_text label) (pool_in frames pages volume)
class_next p ws = p

-- the keyword of a cycle and the words behind it
abbrev pub cycle_line_tests : ℕ → Text → List Text → Tests Code
cycle_line_tests classes k ws =
    (not (bytes_eq k (codes "cycle")), code.Form) ∷ (is_outside 1 16 (length ws), code.Form) ∷ (list_any misspelt ws, code.Number) ∷
    (has_past classes ws, code.Range) ∷ []

-- `cycle C C ..`, where there are so many classes
abbrev pub cycle_tests : ℕ → List Text → Tests Code
cycle_tests classes [] = no_form
cycle_tests classes (k ∷ ws) = cycle_line_tests classes k ws

-- the classes behind the keyword
abbrev pub numbers_in : List Text → List ℕ
numbers_in [] = []
numbers_in (k ∷ ws) = map (λ w. byte (value_of w)) ws

-- `script C`
abbrev pub script_tests : Place → List Text → Tests Code
script_tests p (n ∷ []) = (misspelt n, code.Number) ∷ (nat_le (length p.table) (value_of n), code.Range) ∷ (nat_le 32 (length p.scripts), code.Limit) ∷ []
script_tests p ws = no_form

-- the place inside a script of the class, with the lines that follow
abbrev pub begun : Place → ℕ → List Line → Place
begun p class more = record p { stage = stage.Scripts; inside = Some (record { class = class; all = map words_of (body_of more); place = script_start }) }

-- the place after a script's first line
abbrev pub script_next_place : Place → List Text → List Line → Place
script_next_place p (n ∷ []) more = begun p (byte (value_of n)) more
script_next_place p ws more = p

-- the brackets of these words
abbrev pub brackets_in : Text → Text → Text → Brackets
brackets_in a b d = record { r1 = value_of a; r2 = value_of b; r3 = value_of d }

-- the gate of these words
abbrev pub gate_in : Text → Text → Text → Text → Text → GateLine
gate_in c s a b d = record { class = byte (value_of c); script = byte (value_of s); brackets = brackets_in a b d }

-- a class or a script that isn't there, or brackets not in order
abbrev pub gate_past : ℕ → ℕ → Text → Text → Brackets → Bool
gate_past classes scripts c s b = nat_le classes (value_of c) || nat_le scripts (value_of s) || not (in_order b)

-- the gate behind its numbers
unfoldable pub gate_line_tests : Place → GateLine → Tests Code
gate_line_tests p g = (not (uses_script (config_in p) g.class g.script), code.Above) ∷ (nat_le 32 (length p.gates), code.Limit) ∷ []

-- `gate C S R1 R2 R3`
abbrev pub gate_tests : Place → List Text → Tests Code
gate_tests p (c ∷ s ∷ a ∷ b ∷ d ∷ []) =
    (list_any misspelt (c ∷ s ∷ a ∷ b ∷ d ∷ []), code.Number) ∷ (gate_past (length p.table) (length p.scripts) c s (brackets_in a b d), code.Range) ∷
    gate_line_tests p (gate_in c s a b d)
gate_tests p ws = no_form

-- the place with one gate more
abbrev pub with_gate : Place → GateLine → Place
with_gate p g = record p { stage = stage.Gates; gates = p.gates ++ g ∷ [] }

-- the place after a gate line
abbrev pub gate_next : Place → List Text → Place
gate_next p (c ∷ s ∷ a ∷ b ∷ d ∷ []) = with_gate p (gate_in c s a b d)
gate_next p ws = p

-- the process of these words
abbrev pub process_in : Text → Text → Text → Text → ProcessLine
process_in a c s r = record { processor = byte (value_of a); class = byte (value_of c); script = byte (value_of s); ring = min (value_of r) 7 }

-- a processor, a class, a script or a ring that isn't there
abbrev pub process_past : ℕ → ℕ → ℕ → Text → Text → Text → Text → Bool
process_past processors classes scripts a c s r = nat_le processors (value_of a) || nat_le classes (value_of c) || nat_le scripts (value_of s) || nat_lt 7 (value_of r)

-- the process behind its numbers
unfoldable pub process_line_tests : Place → ProcessLine → Tests Code
process_line_tests p x =
    (not (uses_script (config_in p) x.class x.script), code.Above) ∷ (nat_le 4 (processes_of (config_in p) x.processor x.class), code.Fifth) ∷ []

-- `process P C S R`
abbrev pub process_tests : Place → List Text → Tests Code
process_tests p (a ∷ c ∷ s ∷ r ∷ []) =
    (list_any misspelt (a ∷ c ∷ s ∷ r ∷ []), code.Number) ∷ (process_past p.processors (length p.table) (length p.scripts) a c s r, code.Range) ∷
    process_line_tests p (process_in a c s r)
process_tests p ws = no_form

-- the place with one process more
abbrev pub with_process : Place → ProcessLine → Place
with_process p x = record p { stage = stage.Processes; processes = p.processes ++ x ∷ [] }

-- the place after a process line
abbrev pub process_next : Place → List Text → Place
process_next p (a ∷ c ∷ s ∷ r ∷ []) = with_process p (process_in a c s r)
process_next p ws = p

-- the place with these items more, of so many events
abbrev pub with_items : Place → List Item → ℕ → Place
with_items p items count = record p { stage = stage.Items; schedule = p.schedule ++ items; used = p.used + count }

-- So many events more are past the limit.
abbrev pub is_past : ℕ → ℕ → Bool
is_past used count = nat_lt max_events (used + count)

-- The word isn't `P.C*N`.
abbrev pub is_no_event : Text → Bool
is_no_event w = is_none (event_parts w)

-- One of its numbers is misspelt.
abbrev pub is_misspelt_event : Text → Bool
is_misspelt_event w = option_map_or (λ e. misspelt e.processor || misspelt e.class || misspelt e.count) (event_parts w) false

-- One of its numbers is out of its range, where there are so many processors and classes.
abbrev pub is_outside_event : ℕ → ℕ → Text → Bool
is_outside_event processors classes w =
    option_map_or (λ e. nat_le processors (value_of e.processor) || nat_le classes (value_of e.class) || is_outside 1 max_events (value_of e.count)) (event_parts w) false

-- the events that it stands for
abbrev pub event_count : Text → ℕ
event_count w = option_map_or (λ e. value_of e.count) (event_parts w) 0

-- its item
abbrev pub event_item : Text → Item
event_item w = option_map_or (λ e. item.Events (byte (value_of e.processor)) (byte (value_of e.class)) (min (value_of e.count) max_events)) (event_parts w) (item.Events 0 0 0)

-- `events P.C*N P.C*N ..` with at least one
abbrev pub events_tests : Place → List Text → Tests Code
events_tests p [] = no_form
events_tests p (w ∷ ws) =
    (list_any is_no_event (w ∷ ws), code.Form) ∷ (list_any is_misspelt_event (w ∷ ws), code.Number) ∷
    (list_any (is_outside_event p.processors (length p.table)) (w ∷ ws), code.Range) ∷ (is_past p.used (sum_by event_count (w ∷ ws)), code.Limit) ∷ []

-- the place after an event line
abbrev pub events_next : Place → List Text → Place
events_next p ws = with_items p (map event_item ws) (sum_by event_count ws)

-- `mix X N`
abbrev pub mix_tests : Place → List Text → Tests Code
mix_tests p (x ∷ n ∷ []) =
    (list_any misspelt (x ∷ n ∷ []), code.Number) ∷ (is_outside 1 max_events (value_of n), code.Range) ∷ (is_past p.used (value_of n), code.Limit) ∷ []
mix_tests p ws = no_form

-- the place after a `mix` line
abbrev pub mix_next : Place → List Text → Place
mix_next p (x ∷ n ∷ []) = with_items p (item.Mix (value_of x) (min (value_of n) max_events) ∷ []) (value_of n)
mix_next p ws = p

-- the events of so many rounds
abbrev pub sweep_events : Place → ℕ → ℕ
sweep_events p n = n * p.quantum * p.processors

-- `sweep N`
abbrev pub sweep_tests : Place → List Text → Tests Code
sweep_tests p (n ∷ []) =
    (misspelt n, code.Number) ∷ (is_outside 1 max_events (value_of n), code.Range) ∷ (is_past p.used (sweep_events p (value_of n)), code.Limit) ∷ []
sweep_tests p ws = no_form

-- the place after a `sweep` line
abbrev pub sweep_next : Place → List Text → Place
sweep_next p (n ∷ []) = with_items p (item.Sweep (min (value_of n) max_events) ∷ []) (sweep_events p (value_of n))
sweep_next p ws = p

-- `end`
abbrev pub end_tests : List Text → Tests Code
end_tests [] = []
end_tests ws = no_form

-- ---- a line behind the header, by its kind

-- the words behind the first one, which says the kind
abbrev pub kind_tests : Kind → Place → List Text → Tests Code
kind_tests kind.Script p ws = script_tests p ws
kind_tests kind.Gate p ws = gate_tests p ws
kind_tests kind.Process p ws = process_tests p ws
kind_tests kind.Events p ws = events_tests p ws
kind_tests kind.Mix p ws = mix_tests p ws
kind_tests kind.Sweep p ws = sweep_tests p ws
kind_tests kind.End p ws = end_tests ws

-- the place after a line of the kind
abbrev pub kind_next : Kind → Place → List Text → List Line → Place
kind_next kind.Script p ws more = script_next_place p ws more
kind_next kind.Gate p ws more = gate_next p ws
kind_next kind.Process p ws more = process_next p ws
kind_next kind.Events p ws more = events_next p ws
kind_next kind.Mix p ws more = mix_next p ws
kind_next kind.Sweep p ws more = sweep_next p ws
kind_next kind.End p ws more = record p { stage = stage.Ended }

-- the tests of a line of the kind, or of a line of none
abbrev pub some_kind_tests : Option Kind → Place → List Text → Tests Code
some_kind_tests None p ws = no_form
some_kind_tests (Some k) p ws = (not (may_stand p.stage k), code.Form) ∷ kind_tests k p ws

-- the place after such a line
abbrev pub some_kind_next : Option Kind → Place → List Text → List Line → Place
some_kind_next None p ws more = p
some_kind_next (Some k) p ws more = kind_next k p ws more

-- a script, a gate, a process, an item or the end
abbrev pub body_tests : Place → List Text → Tests Code
body_tests p [] = []
body_tests p (k ∷ ws) = some_kind_tests (kind_of k) p ws

-- the place after it
abbrev pub body_next : Place → List Text → List Line → Place
body_next p [] more = p
body_next p (k ∷ ws) more = some_kind_next (kind_of k) p ws more

-- ---- any line outside a script

-- the tests of a line's words at a stage
abbrev pub stage_tests : Stage → Place → List Text → Tests Code
stage_tests stage.Header p ws = header_tests ws
stage_tests stage.Count p ws = number_tests (codes "classes") 1 16 ws
stage_tests stage.Classes p ws = class_tests p.table ws
stage_tests stage.Processors p ws = number_tests (codes "processors") 1 4 ws
stage_tests stage.Cycle p ws = cycle_tests (length p.table) ws
stage_tests stage.Rounds p ws = number_tests (codes "rounds") 1 4096 ws
stage_tests stage.Quantum p ws = number_tests (codes "quantum") 1 256 ws
stage_tests stage.Console p ws = number_tests (codes "console") 0 4096 ws
stage_tests stage.Ended p ws = no_form
stage_tests _ p ws = body_tests p ws

-- the place after them
abbrev pub stage_next : Stage → Place → List Text → List Line → Place
stage_next stage.Header p ws more = record p { stage = stage.Count }
stage_next stage.Count p ws more = record p { stage = stage.Classes; due = number_in ws }
stage_next stage.Classes p ws more = class_next p ws
stage_next stage.Processors p ws more = record p { stage = stage.Cycle; processors = number_in ws }
stage_next stage.Cycle p ws more = record p { stage = stage.Rounds; cycle = numbers_in ws }
stage_next stage.Rounds p ws more = record p { stage = stage.Quantum; rounds = number_in ws }
stage_next stage.Quantum p ws more = record p { stage = stage.Console; quantum = number_in ws }
stage_next stage.Console p ws more = record p { stage = stage.Scripts; console = number_in ws }
stage_next stage.Ended p ws more = p
stage_next _ p ws more = body_next p ws more

-- A line without a word means nothing.
abbrev pub word_tests : Place → List Text → Tests Code
word_tests p [] = []
word_tests p (w ∷ ws) = stage_tests p.stage p (w ∷ ws)

-- the place after a line of these words
abbrev pub word_next : Place → List Text → List Line → Place
word_next p [] more = p
word_next p (w ∷ ws) more = stage_next p.stage p (w ∷ ws) more

-- ---- any line

-- the tests of a script with their codes here
abbrev pub lifted : Tests ScriptCode → Tests Code
lifted ts = map (λ t. (t.0, of_script t.1)) ts

-- the tests of a line inside a script, or outside of one
abbrev pub inside_tests : Option Inside → Place → Line → Tests Code
inside_tests None p line = word_tests p (words_of line)
inside_tests (Some s) p line = if is_end (words_of line) then lifted (script_end_tests s.place) else lifted (script_line_tests s.all s.place line)

-- the place with the script that has ended
abbrev pub with_script : Place → Script → Place
with_script p s = record p { scripts = p.scripts ++ s ∷ []; inside = None }

-- the place after a line inside a script, or outside of one
abbrev pub inside_next : Option Inside → Place → Line → List Line → Place
inside_next None p line more = word_next p (words_of line) more
inside_next (Some s) p line more =
    if is_end (words_of line) then with_script p (record { class = s.class; program = s.place.program })
    else record p { inside = Some (record s { place = script_next s.all s.place (words_of line) }) }

-- The lines so far don't end with the final `end`.
abbrev pub is_unended : Stage → Bool
is_unended stage.Ended = false
is_unended s = true

-- How a configuration's text judges its lines.
abbrev pub config_rules : LineRules Code Place
config_rules = record {
  number = code_number;
  tests = λ p line more. (not (all_allowed line), code.Bytes) ∷ inside_tests p.inside p line;
  next = λ p line more. inside_next p.inside p line more;
  last = λ p. (is_unended p.stage, code.Missing) ∷ [];
}
