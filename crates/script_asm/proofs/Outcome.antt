-- What is answered to a script's lines is right, and nothing else is.
use Rattle.std.proofs.Common.{◌≡◌, ℕ, true, false, cond, eqb, List, [], ◌∷◌, length, Option, Some, None, Result, Ok, Err, refl, sym, ap, ◌∙◌, arith}
use Rattle.std.specs.Result.{result_err}
use Rattle.std.proofs.lemmas.Option.{some_pair_parts}
use Rattle.text_lines.specs.Lines.{words_of}
use Rattle.text_lines.specs.Faults.{Rises, Rising, lines_answer}
use Rattle.text_lines.proofs.FirstFault.{first_fault, faultless, faultless_read, first_fault_read}
use Rattle.script_lang.specs.declared.instr.Instr.{Instr}
use Rattle.script_asm.specs.declared.op.Op.{Op}
use Rattle.script_asm.specs.declared.fault.Code.{Code}
use Rattle.script_asm.specs.declared.fault.Code.TheVariants as code
use Rattle.script_asm.specs.declared.fault.AsmError.{AsmError}
use Rattle.script_asm.specs.declared.fault.AsmError.TheVariants as error
use Rattle.script_asm.specs.Operand.{Word}
use Rattle.script_asm.specs.Script.{code_number, begins_at, op_of, Place, start, name_tests, operand_tests, instr_tests, word_tests, script_rules, words_in}
use Rattle.script_asm.specs.Answer.{Says, IsFault, AnswersScript, IsReadAs, IsRefusedWith}
use Rattle.script_asm.specs.Spelling.{Spells}
use Rattle.script_asm.specs.Reading.{Reads}
use Rattle.script_asm.proofs.Spelled.{says_spells, spells_says}

-- ---- codes

numbered : ℕ → Code
numbered n = cond (eqb n 1) code.Mnemonic (cond (eqb n 2) code.Form (cond (eqb n 3) code.Number (cond (eqb n 4) code.Register (cond (eqb n 5) code.Twice (cond (eqb n 6) code.Nameless (cond (eqb n 7) code.Long (cond (eqb n 8) code.End code.Past)))))))

its_number : (c : Code) → numbered (code_number c) ≡ c
unfolding numbered
its_number code.Mnemonic = refl
its_number code.Form = refl
its_number code.Number = refl
its_number code.Register = refl
its_number code.Twice = refl
its_number code.Nameless = refl
its_number code.Long = refl
its_number code.End = refl
its_number code.Past = refl

-- No two codes have the same number.
pub apart : (a b : Code) → code_number a ≡ code_number b → a ≡ b
apart a b e = sym (its_number a) ∙ ap numbered e ∙ its_number b

name_rises : (all : List (List Word)) (line : ℕ) (w : Word) (ws : List Word) → Rises code_number 1 (name_tests all line w ws)
unfolding name_tests
name_rises all line w ws = (omega arith, (omega arith, (omega arith, tt)))

instr_rises : (all : List (List Word)) (at : ℕ) (o : Option Op) (ws : List Word) → Rises code_number 1 (instr_tests all at o ws)
unfolding operand_tests
instr_rises all at None ws = (omega arith, tt)
instr_rises all at (Some o) ws = (omega arith, (omega arith, (omega arith, (omega arith, (omega arith, (omega arith, tt))))))

word_rises : (all : List (List Word)) (p : Place) (ws : List Word) → Rises code_number 1 (word_tests all p ws)
word_rises all p [] = tt
word_rises all p (w ∷ ws) =
    elim (begins_at w) as (λ b. Rises code_number 1 (cond b (name_tests all p.line w ws) (instr_tests all (length p.program) (op_of w) ws))) [
      | true ↦ name_rises all p.line w ws
      | false ↦ instr_rises all (length p.program) (op_of w) ws
    ]

rising : (all : List (List Word)) → Rising (script_rules all)
rising all = record { lines = λ p line more. (omega arith, word_rises all p (words_of line)); last = λ p. (omega arith, tt) }

-- ---- the answer

abbrev pub answer_of : List (List ℕ) → Result Place (ℕ × Code)
answer_of ls = lines_answer (script_rules (words_in ls)) start 1 ls

pub read_says : (ls : List (List ℕ)) (q : Place) → answer_of ls ≡ Ok q → Says ls q.program
read_says ls q e = (q, faultless (script_rules (words_in ls)) ls start 1 q e, refl)

pub read_fault : (ls : List (List ℕ)) (line n : ℕ) (c : Code) → answer_of ls ≡ Err (line, c) → n ≡ code_number c → IsFault ls line n
read_fault ls line n c e same = (c, same, first_fault (script_rules (words_in ls)) (rising (words_in ls)) start ls line c e)

abbrev fault_at : ℕ → Code → Result Place (ℕ × Code)
fault_at line c = Err (line, c)

abbrev reached : Place → Result Place (ℕ × Code)
reached p = Ok p

pub refused_right : (ls : List (List ℕ)) (e : AsmError) → Reads (Err e) (answer_of ls) → AnswersScript ls (Err e)
refused_right ls (error.Fault line c) reads = read_fault ls line (code_number c) c reads refl
refused_right ls error.NoMemory reads = tt

-- what the ls says is what is read
pub says_read : (ls : List (List ℕ)) (program : List Instr) → Says ls program → (q : Place) × (answer_of ls ≡ Ok q) × (q.program ≡ program)
says_read ls program s = (s.0, faultless_read (script_rules (words_in ls)) ls start 1 s.0 s.1, s.2)

pub fault_read : (ls : List (List ℕ)) (line n : ℕ) → IsFault ls line n → (c : Code) × (answer_of ls ≡ Err (line, c)) × (n ≡ code_number c)
fault_read ls line n f = (f.0, first_fault_read (script_rules (words_in ls)) (rising (words_in ls)) apart start ls line f.0 f.2, f.1)

pub only_program : (ls : List (List ℕ)) (q : Place) → answer_of ls ≡ Ok q → (program : List Instr) → Spells ls program → q.program ≡ program
only_program ls q e program s =
    let r = says_read ls program (spells_says ls program s) in
    let both : reached q ≡ reached r.0 = sym e ∙ r.1 in
    let same : q ≡ r.0 = cc in
    ap (λ x. x.program) same ∙ r.2

pub only_error : (ls : List (List ℕ)) (e : AsmError) → Reads (Err e) (answer_of ls) → (program : List Instr) → Spells ls program → IsReadAs program (Err e)
only_error ls (error.Fault line c) reads program s =
    let r = says_read ls program (spells_says ls program s) in
    let both : reached r.0 ≡ fault_at line c = sym r.1 ∙ reads in
    absurd cc
only_error ls error.NoMemory reads program s = tt

pub refused_program : (ls : List (List ℕ)) (q : Place) → answer_of ls ≡ Ok q → (line n : ℕ) → IsFault ls line n → ⊥
refused_program ls q e line n f =
    let r = fault_read ls line n f in
    let both : reached q ≡ fault_at line r.0 = sym e ∙ r.1 in
    absurd cc

pub refused_error : (ls : List (List ℕ)) (e : AsmError) → Reads (Err e) (answer_of ls) → (line n : ℕ) → IsFault ls line n → IsRefusedWith line n (Err e)
refused_error ls (error.Fault l c) reads line n f =
    let r = fault_read ls line n f in
    let both : fault_at l c ≡ fault_at line r.0 = sym reads ∙ r.1 in
    let parts = some_pair_parts l line c r.0 (ap result_err both) in
    (parts.0, ap code_number parts.1 ∙ sym r.2)
refused_error ls error.NoMemory reads line n f = tt

pub read_spells : (ls : List (List ℕ)) (q : Place) → answer_of ls ≡ Ok q → Spells ls q.program
read_spells ls q e = says_spells ls q.program (read_says ls q e)

pub ruleset outcomes = (read_spells, refused_right, only_error, refused_error)
