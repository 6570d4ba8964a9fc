-- Reading from left to right. Only private functions speak of it.
use Rattle.std.specs.Prelude.{◌≡◌, Bool, ℕ, ◌+◌, ◌^◌, ◌<◌, ◌≤◌, List, [], ◌∷◌, map, length, drop, if◌then◌else◌, Result, Ok, Err}
use Rattle.text_lines.specs.Lines.{lines, words_of}
use Rattle.text_lines.specs.Name.{all_allowed}
use Rattle.text_lines.specs.Faults.{judged, lines_answer}
use Rattle.labels.specs.Table.{IsTable}
use Rattle.script_asm.specs.declared.fault.Code.{Code as ScriptCode}
use Rattle.config_text.specs.declared.config.Config.{Config}
use Rattle.config_text.specs.declared.fault.Code.{Code}
use Rattle.config_text.specs.declared.fault.Code.TheVariants as code
use Rattle.config_text.specs.declared.fault.Stop.{Stop}
use Rattle.config_text.specs.declared.fault.Stop.TheVariants as stop
use Rattle.config_text.specs.declared.fault.Refusal.{Refusal}
use Rattle.config_text.specs.declared.fault.Refusal.TheVariants as refusal
use Rattle.config_text.specs.declared.fault.ConfigError.{ConfigError}
use Rattle.config_text.specs.declared.fault.ConfigError.TheVariants as error
use Rattle.config_text.specs.declared.draft.Draft.{Draft}
use Rattle.config_text.specs.Codes.{code_number, of_script}
use Rattle.config_text.specs.Place.{Place, place_of}
use Rattle.config_text.specs.declared.stage.Kind.{Kind}
use Rattle.config_text.specs.declared.draft.Taken.{Taken}
use Rattle.config_text.specs.declared.draft.Taken.TheVariants as taken
use Rattle.config_text.specs.Rules.{Text, Line, is_end, gate_past, process_past, brackets_in, begun, kind_tests, kind_next, body_tests, body_next, word_tests, word_next, config_rules}

-- what a step answers, and the place that it leaves
abbrev pub Answers : Place → Result (Unit {0}) Refusal → Result Place Code → Type 0
Answers new (Ok u) answer = answer ≡ Ok new
Answers new (Err (refusal.Code c)) answer = answer ≡ Err c
Answers new (Err refusal.Memory) answer = Unit {0}

-- a line that is taken, or why it isn't
abbrev pub Taking : Result (Unit {0}) Refusal → Result Taken Refusal → Type 0
Taking (Ok u) answer = answer ≡ Ok taken.Line
Taking (Err r) answer = answer ≡ Err r

-- the range tests of a gate's words and of a process's, at a place
abbrev pub gate_past_in : Place → Text → Text → Text → Text → Text → Bool
gate_past_in p c s a b d = gate_past (length p.table) (length p.scripts) c s (brackets_in a b d)

-- likewise of a process's words
abbrev pub process_past_in : Place → Text → Text → Text → Text → Bool
process_past_in p a c s r = process_past p.processors (length p.table) (length p.scripts) a c s r

-- what a line's words outside a script answer, with the place that they leave: a line is taken, or a script of a class
-- begins and the place stays
abbrev pub Takes : Place → Place → List Text → Result Taken Refusal → Type 0
Takes old new ws (Ok taken.Line) = (more : List Line) → judged (word_tests old ws) (word_next old ws more) ≡ Ok new
Takes old new ws (Ok (taken.Script class)) = (new ≡ old) × ((more : List Line) → judged (word_tests old ws) (word_next old ws more) ≡ Ok (begun old class more))
Takes old new ws (Err (refusal.Code c)) = (more : List Line) → judged (word_tests old ws) (word_next old ws more) ≡ Err c
Takes old new ws (Err refusal.Memory) = Unit {0}

-- likewise of a line behind the header, by the words behind its keyword
abbrev pub TakesKind : Place → Place → Kind → List Text → Result Taken Refusal → Type 0
TakesKind old new k ws (Ok taken.Line) = (more : List Line) → judged (kind_tests k old ws) (kind_next k old ws more) ≡ Ok new
TakesKind old new k ws (Ok (taken.Script class)) = (new ≡ old) × ((more : List Line) → judged (kind_tests k old ws) (kind_next k old ws more) ≡ Ok (begun old class more))
TakesKind old new k ws (Err (refusal.Code c)) = (more : List Line) → judged (kind_tests k old ws) (kind_next k old ws more) ≡ Err c
TakesKind old new k ws (Err refusal.Memory) = Unit {0}

-- likewise of a line behind the header
abbrev pub TakesBody : Place → Place → List Text → Result Taken Refusal → Type 0
TakesBody old new ws (Ok taken.Line) = (more : List Line) → judged (body_tests old ws) (body_next old ws more) ≡ Ok new
TakesBody old new ws (Ok (taken.Script class)) = (new ≡ old) × ((more : List Line) → judged (body_tests old ws) (body_next old ws more) ≡ Ok (begun old class more))
TakesBody old new ws (Err (refusal.Code c)) = (more : List Line) → judged (body_tests old ws) (body_next old ws more) ≡ Err c
TakesBody old new ws (Err refusal.Memory) = Unit {0}

-- the line that ends a script, and those behind it
abbrev pub after_body : List Line → List Line
after_body [] = []
after_body (line ∷ more) = if is_end (words_of line) then line ∷ more else after_body more

-- the code of a line that has this code as a script's line
abbrev pub code_at : Line → ScriptCode → Code
code_at line c = if all_allowed line then of_script c else code.Bytes

-- likewise of the next of these lines; the final `end` is missing where there is none
abbrev pub next_code : ScriptCode → List Line → Code
next_code c [] = code.Missing
next_code c (line ∷ more) = code_at line c

-- what is answered to lines
abbrev pub lines_answer_from : Place → ℕ → List Line → Result Place (ℕ × Code)
lines_answer_from p n ls = lines_answer config_rules p n ls

-- a fault at a line
abbrev pub fault_at : ℕ → Code → Result Place (ℕ × Code)
fault_at n c = Err (n, c)

-- what the lines behind the first one of a script, which has the number n, answer: so many of them are taken and leave
-- the place, or the line so far behind the first one has the code
abbrev pub ScriptSteps : Place → ℕ → List Line → Place → Result ℕ Stop → Type 0
ScriptSteps p class more new (Ok count) = (count ≤ length more) × ((n : ℕ) → lines_answer_from (begun p class more) (n + 1) more ≡ lines_answer_from new (n + 1 + count) (drop count more))
ScriptSteps p class more new (Err (stop.Fault offset c)) = (offset ≤ length more + 1) × ((n : ℕ) → lines_answer_from (begun p class more) (n + 1) more ≡ fault_at (n + offset) c)
ScriptSteps p class more new (Err stop.Memory) = Unit {0}

-- likewise of a line outside a script and those behind it
abbrev pub Steps : Place → Line → List Line → Place → Result ℕ Stop → Type 0
Steps p line more new (Ok count) = (count ≤ length more) × ((n : ℕ) → lines_answer_from p n (line ∷ more) ≡ lines_answer_from new (n + 1 + count) (drop count more))
Steps p line more new (Err (stop.Fault offset c)) = (offset ≤ length more + 1) × ((n : ℕ) → lines_answer_from p n (line ∷ more) ≡ fault_at (n + offset) c)
Steps p line more new (Err stop.Memory) = Unit {0}

-- the line of the fault has a number that fits, where this stops a line
abbrev pub StopFits : ℕ → Stop → Type 0
StopFits n (stop.Fault offset c) = n + offset < 2 ^ 32
StopFits n stop.Memory = Unit {0}

-- the error that this makes
abbrev pub error_of : ℕ → Stop → ConfigError
error_of n (stop.Fault offset c) = error.Fault (n + offset) (code_number c)
error_of n stop.Memory = error.NoMemory

-- what reading answers, by the answer to its lines
abbrev pub Reads : Result Draft ConfigError → Result Place (ℕ × Code) → Type 0
Reads (Ok d) answer = answer ≡ Ok (place_of d)
Reads (Err (error.Fault line n)) answer = (c : Code) × (answer ≡ Err (line, c)) × (n ≡ code_number c)
Reads (Err error.NoMemory) answer = Unit {0}
