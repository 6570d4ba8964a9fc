-- The tables of tests rise, and no two codes have the same number.
use Rattle.std.proofs.Common.{◌≡◌, ℕ, ◌+◌, ◌≤◌, true, false, cond, eqb, not, List, [], ◌∷◌, ◌++◌, length, Option, Some, None, refl, sym, ap, ◌∙◌, arith}
use Rattle.std.specs.Prelude.{codes}
use Rattle.text_lines.specs.Lines.{words_of}
use Rattle.text_lines.specs.Faults.{Tests, Rises, Rising}
use Rattle.labels.specs.Label.{Label, ClassEntry}
use Rattle.labels.specs.Reading.{label_of_text}
use Rattle.script_asm.specs.declared.fault.Code.{Code as ScriptCode}
use Rattle.script_asm.specs.declared.fault.Code.TheVariants as script
use Rattle.script_asm.specs.declared.op.Op.{Op}
use Rattle.script_asm.specs.Script.{code_number as script_number, begins_at, op_of, Place as ScriptPlace, name_tests, operand_tests, instr_tests, word_tests as script_word_tests, line_tests as script_line_tests, end_tests as script_end_tests}
use Rattle.config_text.specs.declared.fault.Code.{Code}
use Rattle.config_text.specs.declared.fault.Code.TheVariants as code
use Rattle.config_text.specs.declared.stage.Stage.{Stage}
use Rattle.config_text.specs.declared.stage.Stage.TheVariants as stage
use Rattle.config_text.specs.declared.stage.Kind.{Kind}
use Rattle.config_text.specs.declared.stage.Kind.TheVariants as kind
use Rattle.config_text.specs.Codes.{code_number, of_script}
use Rattle.config_text.specs.Place.{Inside, Place}
use Rattle.config_text.specs.Rules.{Text, Line, is_end, header_tests, number_tests, fixed_tests, pool_tests, front_tests, entry_tests, class_text_tests, class_tests, cycle_tests, script_tests, gate_line_tests, gate_tests, process_line_tests, process_tests, events_tests, mix_tests, sweep_tests, end_tests as last_tests, kind_of, kind_tests, some_kind_tests, body_tests, stage_tests, word_tests, lifted, inside_tests, config_rules}

numbered : ℕ → Code
numbered n =
    cond (eqb n 1) code.Bytes (cond (eqb n 2) code.Form (cond (eqb n 3) code.Number (cond (eqb n 4) code.Range (cond (eqb n 5) code.Label (cond (eqb n 6) code.Name (cond (eqb n 7) code.Twice (cond (eqb n 8) code.Low (cond (eqb n 9) code.Above (cond (eqb n 10) code.Fifth (cond (eqb n 11) code.Limit (cond (eqb n 12) code.Missing
    (cond (eqb n 21) code.ScriptWord (cond (eqb n 22) code.ScriptForm (cond (eqb n 23) code.ScriptNumber (cond (eqb n 24) code.ScriptRegister (cond (eqb n 25) code.ScriptTwice (cond (eqb n 26) code.ScriptNameless (cond (eqb n 27) code.ScriptLong (cond (eqb n 28) code.ScriptEnd code.ScriptPast)))))))))))))))))))

its_number : (c : Code) → numbered (code_number c) ≡ c
unfolding numbered
its_number code.Bytes = refl
its_number code.Form = refl
its_number code.Number = refl
its_number code.Range = refl
its_number code.Label = refl
its_number code.Name = refl
its_number code.Twice = refl
its_number code.Low = refl
its_number code.Above = refl
its_number code.Fifth = refl
its_number code.Limit = refl
its_number code.Missing = refl
its_number code.ScriptWord = refl
its_number code.ScriptForm = refl
its_number code.ScriptNumber = refl
its_number code.ScriptRegister = refl
its_number code.ScriptTwice = refl
its_number code.ScriptNameless = refl
its_number code.ScriptLong = refl
its_number code.ScriptEnd = refl
its_number code.ScriptPast = refl

-- No two codes have the same number.
pub apart : (a b : Code) → code_number a ≡ code_number b → a ≡ b
apart a b e = sym (its_number a) ∙ ap numbered e ∙ its_number b

-- ---- a script's lines

script_20 : (c : ScriptCode) → code_number (of_script c) ≡ 20 + script_number c
script_20 script.Mnemonic = refl
script_20 script.Form = refl
script_20 script.Number = refl
script_20 script.Register = refl
script_20 script.Twice = refl
script_20 script.Nameless = refl
script_20 script.Long = refl
script_20 script.End = refl
script_20 script.Past = refl

lifted_rises : (ts : Tests ScriptCode) (low n : ℕ) → n ≤ 20 + low → Rises script_number low ts → Rises code_number n (lifted ts)
lifted_rises [] low n le rise = tt
lifted_rises (t ∷ ts) low n le rise =
    (omega (arith, le, rise.0, script_20 t.1), lifted_rises ts (script_number t.1) (code_number (of_script t.1)) (omega (arith, script_20 t.1)) rise.1)

name_rises : (all : List (List Text)) (at : ℕ) (w : Text) (ws : List Text) → Rises script_number 1 (name_tests all at w ws)
unfolding name_tests
name_rises all at w ws = (omega arith, (omega arith, (omega arith, tt)))

instr_rises : (all : List (List Text)) (at : ℕ) (o : Option Op) (ws : List Text) → Rises script_number 1 (instr_tests all at o ws)
unfolding operand_tests
instr_rises all at None ws = (omega arith, tt)
instr_rises all at (Some o) ws = (omega arith, (omega arith, (omega arith, (omega arith, (omega arith, (omega arith, tt))))))

script_word_rises : (all : List (List Text)) (p : ScriptPlace) (ws : List Text) → Rises script_number 1 (script_word_tests all p ws)
script_word_rises all p [] = tt
script_word_rises all p (w ∷ ws) =
    elim (begins_at w) as (λ b. Rises script_number 1 (cond b (name_tests all p.line w ws) (instr_tests all (length p.program) (op_of w) ws))) [
      | true ↦ name_rises all p.line w ws
      | false ↦ instr_rises all (length p.program) (op_of w) ws
    ]

-- ---- each kind's codes rise

header_rises : (ws : List Text) → Rises code_number 1 (header_tests ws)
header_rises (k ∷ v ∷ []) = (omega arith, (omega arith, tt))
header_rises ws = (omega arith, tt)

number_rises : (keyword : Text) (low high : ℕ) (ws : List Text) → Rises code_number 1 (number_tests keyword low high ws)
number_rises keyword low high (k ∷ n ∷ []) = (omega arith, (omega arith, (omega arith, tt)))
number_rises keyword low high ws = (omega arith, tt)

entry_rises : (t : List ClassEntry) (name : Text) (l : Option Label) → Rises code_number 4 (entry_tests t name l)
unfolding entry_tests
entry_rises t name None = (omega arith, tt)
entry_rises t name (Some l) = (omega arith, (omega arith, (omega arith, tt)))

class_rises : (t : List ClassEntry) (ws : List Text) → Rises code_number 1 (class_tests t ws)
unfolding front_tests fixed_tests pool_tests
class_rises t (k ∷ name ∷ label ∷ f ∷ frames ∷ g ∷ pages ∷ v ∷ volume ∷ []) =
    (omega arith, (omega arith, (omega arith, (omega arith, (omega arith, (omega arith, entry_rises t name (label_of_text label)))))))
class_rises t ws = (omega arith, tt)

cycle_rises : (n : ℕ) (ws : List Text) → Rises code_number 1 (cycle_tests n ws)
cycle_rises n [] = (omega arith, tt)
cycle_rises n (k ∷ ws) = (omega arith, (omega arith, (omega arith, (omega arith, tt))))

script_rises : (p : Place) (ws : List Text) → Rises code_number 2 (script_tests p ws)
script_rises p (n ∷ []) = (omega arith, (omega arith, (omega arith, tt)))
script_rises p ws = (omega arith, tt)

gate_rises : (p : Place) (ws : List Text) → Rises code_number 2 (gate_tests p ws)
unfolding gate_line_tests
gate_rises p (c ∷ s ∷ a ∷ b ∷ d ∷ []) = (omega arith, (omega arith, (omega arith, (omega arith, tt))))
gate_rises p ws = (omega arith, tt)

process_rises : (p : Place) (ws : List Text) → Rises code_number 2 (process_tests p ws)
unfolding process_line_tests
process_rises p (a ∷ c ∷ s ∷ r ∷ []) = (omega arith, (omega arith, (omega arith, (omega arith, tt))))
process_rises p ws = (omega arith, tt)

events_rises : (p : Place) (ws : List Text) → Rises code_number 2 (events_tests p ws)
events_rises p [] = (omega arith, tt)
events_rises p (w ∷ ws) = (omega arith, (omega arith, (omega arith, (omega arith, tt))))

mix_rises : (p : Place) (ws : List Text) → Rises code_number 2 (mix_tests p ws)
mix_rises p (x ∷ n ∷ []) = (omega arith, (omega arith, (omega arith, tt)))
mix_rises p ws = (omega arith, tt)

sweep_rises : (p : Place) (ws : List Text) → Rises code_number 2 (sweep_tests p ws)
sweep_rises p (n ∷ []) = (omega arith, (omega arith, (omega arith, tt)))
sweep_rises p ws = (omega arith, tt)

last_rises : (ws : List Text) → Rises code_number 2 (last_tests ws)
last_rises [] = tt
last_rises (w ∷ ws) = (omega arith, tt)

kind_rises : (k : Kind) (p : Place) (ws : List Text) → Rises code_number 2 (kind_tests k p ws)
kind_rises kind.Script p ws = script_rises p ws
kind_rises kind.Gate p ws = gate_rises p ws
kind_rises kind.Process p ws = process_rises p ws
kind_rises kind.Events p ws = events_rises p ws
kind_rises kind.Mix p ws = mix_rises p ws
kind_rises kind.Sweep p ws = sweep_rises p ws
kind_rises kind.End p ws = last_rises ws

some_kind_rises : (o : Option Kind) (p : Place) (ws : List Text) → Rises code_number 1 (some_kind_tests o p ws)
some_kind_rises None p ws = (omega arith, tt)
some_kind_rises (Some k) p ws = (omega arith, kind_rises k p ws)

body_rises : (p : Place) (ws : List Text) → Rises code_number 1 (body_tests p ws)
body_rises p [] = tt
body_rises p (k ∷ ws) = some_kind_rises (kind_of k) p ws

stage_rises : (s : Stage) (p : Place) (ws : List Text) → Rises code_number 1 (stage_tests s p ws)
stage_rises stage.Header p ws = header_rises ws
stage_rises stage.Count p ws = number_rises (codes "classes") 1 16 ws
stage_rises stage.Classes p ws = class_rises p.table ws
stage_rises stage.Processors p ws = number_rises (codes "processors") 1 4 ws
stage_rises stage.Cycle p ws = cycle_rises (length p.table) ws
stage_rises stage.Rounds p ws = number_rises (codes "rounds") 1 4096 ws
stage_rises stage.Quantum p ws = number_rises (codes "quantum") 1 256 ws
stage_rises stage.Console p ws = number_rises (codes "console") 0 4096 ws
stage_rises stage.Scripts p ws = body_rises p ws
stage_rises stage.Gates p ws = body_rises p ws
stage_rises stage.Processes p ws = body_rises p ws
stage_rises stage.Items p ws = body_rises p ws
stage_rises stage.Ended p ws = (omega arith, tt)

word_rises : (p : Place) (ws : List Text) → Rises code_number 1 (word_tests p ws)
word_rises p [] = tt
word_rises p (w ∷ ws) = stage_rises p.stage p (w ∷ ws)

inside_rises : (o : Option Inside) (p : Place) (line : Line) → Rises code_number 1 (inside_tests o p line)
inside_rises None p line = word_rises p (words_of line)
inside_rises (Some s) p line =
    elim (is_end (words_of line)) as (λ b. Rises code_number 1 (cond b (lifted (script_end_tests s.place)) (lifted (script_line_tests s.all s.place line)))) [
      | true ↦ lifted_rises (script_end_tests s.place) 0 1 (omega arith) (omega arith, tt)
      | false ↦ lifted_rises (script_line_tests s.all s.place line) 0 1 (omega arith) (omega arith, script_word_rises s.all s.place (words_of line))
    ]

pub rising : Rising config_rules
rising = record { lines = λ p line more. (omega arith, inside_rises p.inside p line); last = λ p. (omega arith, tt) }
