-- How an order's text judges its lines: each kind of line has a table of tests with their codes, in rising order, and
-- the place after a line that has none.
use Rattle.std.specs.Prelude.{ℕ, ◌+◌, ◌-◌, List, [], ◌∷◌, ◌++◌, length, codes, Bool, true, false, not, ◌==◌, ◌||◌, nat_le, if◌then◌else◌, Option, Some, None}
use Rattle.std.specs.Str.{bytes_eq}
use Rattle.text_lines.specs.Number.{misspelt, value_of}
use Rattle.text_lines.specs.Lines.{words_of}
use Rattle.text_lines.specs.Name.{is_name, all_allowed}
use Rattle.text_lines.specs.Faults.{Tests, LineRules}
use Rattle.labels.specs.Label.{Label, ClassEntry}
use Rattle.labels.specs.Reading.{label_of_text}
use Rattle.words_layout.specs.Segments.{seg}
use Rattle.words_layout.specs.declared.segment.SegId.{SegId}
use Rattle.config_text.specs.Rules.{Text, is_outside, byte, stood_before, is_low}
use Rattle.release_guard.specs.declared.order.Stage.{Stage}
use Rattle.release_guard.specs.declared.order.Stage.TheVariants as stage
use Rattle.release_guard.specs.declared.fault.Code.{Code}
use Rattle.release_guard.specs.declared.fault.Code.TheVariants as code
use Rattle.release_guard.specs.Codes.{code_number}
use Rattle.release_guard.specs.Place.{Place}

-- no form that may stand here
abbrev pub no_form : Tests Code
no_form = (true, code.Form) ∷ []

-- ---- each kind of line: its tests, and the place after it

-- `gemrelease 1`
abbrev pub header_tests : List Text → Tests Code
header_tests (k ∷ v ∷ []) = (not (bytes_eq k (codes "gemrelease")), code.Form) ∷ (not (bytes_eq v (codes "1")), code.Form) ∷ []
header_tests ws = no_form

-- `classes N`
abbrev pub count_tests : List Text → Tests Code
count_tests (k ∷ n ∷ []) = (not (bytes_eq k (codes "classes")), code.Form) ∷ (misspelt n, code.Number) ∷ (is_outside 1 16 (value_of n), code.Range) ∷ []
count_tests ws = no_form

-- that number
abbrev pub count_in : List Text → ℕ
count_in (k ∷ n ∷ []) = value_of n
count_in ws = 0

-- a class's name and label, behind these classes
unfoldable pub entry_tests : List ClassEntry → Text → Option Label → Tests Code
entry_tests table name None = (true, code.Label) ∷ []
entry_tests table name (Some l) = (not (is_name name), code.Name) ∷ (stood_before table name l, code.Twice) ∷ (is_low table l, code.Low) ∷ []

-- `class NAME LABEL`
abbrev pub class_tests : List ClassEntry → List Text → Tests Code
class_tests table (k ∷ name ∷ label ∷ []) = (not (bytes_eq k (codes "class")), code.Form) ∷ entry_tests table name (label_of_text label)
class_tests table ws = no_form

-- what comes after a class line, with this many still to come
abbrev pub after_class : ℕ → Stage
after_class due = if due == 0 then stage.Releases else stage.Classes

-- the place with one class more
abbrev pub with_class : Place → Text → Option Label → Place
with_class p name None = p
with_class p name (Some l) = record p { stage = after_class (p.due - 1); due = p.due - 1; table = p.table ++ record { name = name; label = l } ∷ [] }

-- the place after a class line
abbrev pub class_next : Place → List Text → Place
class_next p (k ∷ name ∷ label ∷ []) = with_class p name (label_of_text label)
class_next p ws = p

-- The class isn't below the number of classes, or the serial not below 64.
abbrev pub is_past : ℕ → Text → Text → Bool
is_past classes c s = nat_le classes (value_of c) || nat_le 64 (value_of s)

-- One of the four words is a misspelt number.
unfoldable pub one_misspelt : Text → Text → Text → Text → Bool
one_misspelt a b c d = misspelt a || misspelt b || misspelt c || misspelt d

-- the identity of these words
abbrev pub identity_in : Text → Text → SegId
identity_in c s = seg (byte (value_of c)) (byte (value_of s))

-- the words behind `release`: `M S to M S`
abbrev pub release_tests : Place → List Text → Tests Code
release_tests p (a ∷ b ∷ t ∷ c ∷ d ∷ []) =
    (not (bytes_eq t (codes "to")), code.Form) ∷ (one_misspelt a b c d, code.Number) ∷ (is_past (length p.table) a b, code.Range) ∷
    (is_past (length p.table) c d, code.Range) ∷ (nat_le 64 (length p.releases), code.Limit) ∷ []
release_tests p ws = no_form

-- the place with one release more
abbrev pub with_release : Place → SegId → SegId → Place
with_release p from to = record p { releases = p.releases ++ record { line = p.line; from = from; to = to } ∷ [] }

-- the place after them
abbrev pub release_next : Place → List Text → Place
release_next p (a ∷ b ∷ t ∷ c ∷ d ∷ []) = with_release p (identity_in a b) (identity_in c d)
release_next p ws = p

-- the word behind `export`
abbrev pub export_tests : Place → List Text → Tests Code
export_tests p (c ∷ []) = (misspelt c, code.Number) ∷ (nat_le (length p.table) (value_of c), code.Range) ∷ []
export_tests p ws = no_form

-- the place after it
abbrev pub export_next : Place → List Text → Place
export_next p (c ∷ []) = record p { stage = stage.End; export = byte (value_of c) }
export_next p ws = p

-- a release or the export
abbrev pub body_tests : Place → List Text → Tests Code
body_tests p [] = []
body_tests p (k ∷ ws) = if bytes_eq k (codes "release") then release_tests p ws else (not (bytes_eq k (codes "export")), code.Form) ∷ export_tests p ws

-- the place after it
abbrev pub body_next : Place → List Text → Place
body_next p [] = p
body_next p (k ∷ ws) = if bytes_eq k (codes "release") then release_next p ws else export_next p ws

-- `end`
abbrev pub end_tests : List Text → Tests Code
end_tests (k ∷ []) = (not (bytes_eq k (codes "end")), code.Form) ∷ []
end_tests ws = no_form

-- ---- any line

-- the tests of a line's words at a stage
abbrev pub stage_tests : Stage → Place → List Text → Tests Code
stage_tests stage.Header p ws = header_tests ws
stage_tests stage.Count p ws = count_tests ws
stage_tests stage.Classes p ws = class_tests p.table ws
stage_tests stage.Releases p ws = body_tests p ws
stage_tests stage.End p ws = end_tests ws
stage_tests stage.Ended p ws = no_form

-- the place after them
abbrev pub stage_next : Stage → Place → List Text → Place
stage_next stage.Header p ws = record p { stage = stage.Count }
stage_next stage.Count p ws = record p { stage = stage.Classes; due = count_in ws }
stage_next stage.Classes p ws = class_next p ws
stage_next stage.Releases p ws = body_next p ws
stage_next stage.End p ws = record p { stage = stage.Ended }
stage_next stage.Ended p ws = p

-- A line without a word means nothing.
abbrev pub word_tests : Place → List Text → Tests Code
word_tests p [] = []
word_tests p (w ∷ ws) = stage_tests p.stage p (w ∷ ws)

-- the place after a line of these words
abbrev pub word_next : Place → List Text → Place
word_next p [] = p
word_next p (w ∷ ws) = stage_next p.stage p (w ∷ ws)

-- The lines so far don't end with the final `end`.
abbrev pub is_unended : Stage → Bool
is_unended stage.Ended = false
is_unended s = true

-- How an order's text judges its lines. Each line counts, also one without a word.
abbrev pub order_rules : LineRules Code Place
order_rules = record {
  number = code_number;
  tests = λ p line more. (not (all_allowed line), code.Bytes) ∷ word_tests p (words_of line);
  next = λ p line more. record (word_next p (words_of line)) { line = p.line + 1 };
  last = λ p. (is_unended p.stage, code.Missing) ∷ [];
}
