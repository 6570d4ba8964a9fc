-- The text of a program spells the program, and is short.
use Rattle.std.proofs.Common.{◌≡◌, ℕ, ◌+◌, ◌*◌, ◌<◌, ◌≤◌, ◌^◌, true, false, leb, ◌&&◌, List, [], ◌∷◌, ◌++◌, length, refl, sym, ap, subst, ◌∙◌, length-append, arith, inl}
use Rattle.std.specs.Prelude.{map, filter}
use Rattle.std.specs.Fmt.{decimal}
use Rattle.std.specs.List.{AllZip, AllByRecursion, list_all}
use Rattle.std.proofs.lemmas.Bool.{and_parts, leb-true}
use Rattle.std.proofs.lemmas.Fmt.{length-decimal-le}
use Rattle.text_lines.specs.Lines.{lines, words_of}
use Rattle.text_lines.specs.Printed.{spaced, IsWord, IsLineOfWords}
use Rattle.text_lines.proofs.PrintedWords.{decimal_word, decimal_number, plain_from, line_words, line_allowed, printed_lines}
use Rattle.script_lang.specs.declared.instr.Instr.{Instr}
use Rattle.script_lang.specs.Program.{target_ok, program_ok}
use Rattle.script_lang.specs.Fault.{ends_well}
use Rattle.script_asm.specs.declared.op.Op.{Op}
use Rattle.script_asm.specs.declared.op.Op.TheVariants as op
use Rattle.script_asm.specs.declared.op.Kind.{Kind}
use Rattle.script_asm.specs.declared.op.Kind.TheVariants.{Register, Immediate, Target, Index}
use Rattle.script_asm.specs.Operand.{Word, op_text, kinds}
use Rattle.script_asm.specs.Script.{is_instruction, words_in}
use Rattle.script_asm.specs.Item.{value, op_for, values_of, operand_items, item_text, instr_words, InRange, AreInRange, Fits}
use Rattle.script_asm.specs.ScriptText.{script_text, after_blanks}
use Rattle.script_asm.specs.Spelling.{IsOperand, IsItem, IsInstr, is_name_line, are_allowed, Spells}
use Rattle.script_asm.proofs.InstrWords.{not_at}
use Rattle.script_asm.proofs.Pieces.{spaced_after}

-- ---- the words of an instruction

item_word : (k : Kind) (n : ℕ) → InRange k n → IsWord (item_text (value k n))
item_word Register n fits = let d = decimal_word n (omega (arith, fits)) in (omega arith, (record { low = omega arith; high = omega arith; mark = λ e. omega (arith, e) }, d.1))
item_word Immediate n fits = decimal_word n fits
item_word Target n fits = decimal_word n (omega (arith, fits))
item_word Index n fits = decimal_word n (omega (arith, fits))

op_word : (o : Op) → IsWord (op_text o)
op_word op.Halt = (omega arith, plain_from (op_text op.Halt) refl)
op_word o = (omega arith, plain_from (op_text o) refl)

operands_words : (ks : List Kind) (ns : List ℕ) → AreInRange ks ns → AllByRecursion IsWord (map item_text (operand_items ks ns))
operands_words [] ns fits = tt
operands_words (k ∷ ks) [] fits = tt
operands_words (k ∷ ks) (n ∷ ns) fits = (item_word k n fits.0, operands_words ks ns fits.1)

pub line_of_words : (i : Instr) → Fits i → IsLineOfWords (instr_words i)
line_of_words i fits = (omega arith, (op_word (op_for i), operands_words (kinds (op_for i)) (values_of i) fits))

all_lines_of_words : (is : List Instr) → AllByRecursion Fits is → AllByRecursion IsLineOfWords (map instr_words is)
all_lines_of_words [] fits = tt
all_lines_of_words (i ∷ is) fits = (line_of_words i fits.0, all_lines_of_words is fits.1)

operand_is_spelled : (all : List (List Word)) (k : Kind) (n : ℕ) → InRange k n → IsOperand all (item_text (value k n)) k n
operand_is_spelled all Register n fits = record { digits = decimal n; spelled = refl; number = decimal_number n (omega (arith, fits)); range = fits }
operand_is_spelled all Immediate n fits = inl (record { number = decimal_number n fits; range = fits })
operand_is_spelled all Target n fits = let low : n < 2 ^ 64 = omega (arith, fits) in inl (record { number = decimal_number n low; range = low })
operand_is_spelled all Index n fits = record { number = decimal_number n (omega (arith, fits)); range = fits }

operands_are_spelled : (all : List (List Word)) (ks : List Kind) (ns : List ℕ) → AreInRange ks ns → AllZip (IsItem all) (map item_text (operand_items ks ns)) (operand_items ks ns)
operands_are_spelled all [] ns fits = tt
operands_are_spelled all (k ∷ ks) [] fits = tt
operands_are_spelled all (k ∷ ks) (n ∷ ns) fits = (operand_is_spelled all k n fits.0, operands_are_spelled all ks ns fits.1)

instrs_are_spelled : (all : List (List Word)) (is : List Instr) → AllByRecursion Fits is → AllZip (IsInstr all) (map instr_words is) is
instrs_are_spelled all [] fits = tt
instrs_are_spelled all (i ∷ is) fits = ((refl, operands_are_spelled all (kinds (op_for i)) (values_of i) fits.0), instrs_are_spelled all is fits.1)

-- ---- the lines of the text

pub words_again : (is : List Instr) → AllByRecursion Fits is → map words_of (map spaced (map instr_words is)) ≡ map instr_words is
words_again [] fits = refl
words_again (i ∷ is) fits = rw (line_words (instr_words i) (line_of_words i fits.0), words_again is fits.1) refl

pub lines_again : (is : List Instr) → AllByRecursion Fits is → lines (script_text is) ≡ map spaced (map instr_words is)
lines_again is fits = printed_lines (map instr_words is) (all_lines_of_words is fits)

allowed : (is : List Instr) → AllByRecursion Fits is → are_allowed (map spaced (map instr_words is)) ≡ true
allowed [] fits = refl
allowed (i ∷ is) fits = rw (line_allowed (instr_words i) (line_of_words i fits.0), allowed is fits.1) refl

all_instructions : (is : List Instr) → filter is_instruction (map instr_words is) ≡ map instr_words is
all_instructions [] = refl
all_instructions (i ∷ is) = rw (not_at (op_for i), all_instructions is) refl

first_is : (ws vs : List Word) (more after : List (List Word)) → ws ∷ more ≡ vs ∷ after → ws ≡ vs
first_is ws vs more after e = cc

later_is : (ws b vs : List Word) (more bs after : List (List Word)) → ws ∷ more ≡ b ∷ (bs ++ vs ∷ after) → more ≡ bs ++ vs ∷ after
later_is ws b vs more bs after e = cc

no_names : (is : List Instr) (before after : List (List Word)) (ws : List Word) → map instr_words is ≡ before ++ ws ∷ after → is_name_line ws ≡ true → ⊥
no_names [] [] after ws e begins = absurd cc
no_names [] (b ∷ bs) after ws e begins = absurd cc
no_names (i ∷ is) [] after ws e begins =
    let here : is_name_line (instr_words i) ≡ true = ap is_name_line (first_is (instr_words i) ws (map instr_words is) after e) ∙ begins in
    absurd (let both : false ≡ true = sym (not_at (op_for i)) ∙ here in cc)
no_names (i ∷ is) (b ∷ bs) after ws e begins = no_names is bs after ws (later_is (instr_words i) b ws (map instr_words is) bs after e) begins

pub printed_spells : (is : List Instr) → AllByRecursion Fits is → program_ok is ≡ true → Spells (lines (script_text is)) is
printed_spells is fits ok =
    let ls = lines_again is fits in
    let words : words_in (lines (script_text is)) ≡ map instr_words is = ap words_in ls ∙ words_again is fits in
    record {
      bytes = subst (λ t. are_allowed t ≡ true) (sym ls) (allowed is fits);
      instrs = subst (λ t. AllZip (IsInstr t) (filter is_instruction t) is) (sym words) (subst (λ t. AllZip (IsInstr (map instr_words is)) t is) (sym (all_instructions is)) (instrs_are_spelled (map instr_words is) is fits));
      names = λ before after ws split begins. absurd (no_names is before after ws (sym words ∙ split) begins);
      valid = ok;
    }

-- ---- its length

-- how long an operand of this kind is at most, with the blank in front
abbrev room : Kind → ℕ
room Register = 4
room Immediate = 21
room Target = 6
room Index = 3

abbrev rooms : List Kind → ℕ
rooms [] = 0
rooms (k ∷ ks) = room k + rooms ks

item_short : (k : Kind) (n : ℕ) → InRange k n → length (item_text (value k n)) + 1 ≤ room k
item_short Register n fits = omega (arith, length-decimal-le 2 n (omega arith) (omega (arith, fits)) (omega (arith, fits)))
item_short Immediate n fits = omega (arith, length-decimal-le 20 n (omega arith) (omega (arith, fits)) fits)
item_short Target n fits = omega (arith, length-decimal-le 5 n (omega arith) (omega (arith, fits)) (omega (arith, fits)))
item_short Index n fits = omega (arith, length-decimal-le 2 n (omega arith) (omega (arith, fits)) (omega (arith, fits)))

operands_short : (ks : List Kind) (ns : List ℕ) → AreInRange ks ns → length (after_blanks (map item_text (operand_items ks ns))) ≤ rooms ks
operands_short [] ns fits = omega arith
operands_short (k ∷ ks) [] fits = omega arith
operands_short (k ∷ ks) (n ∷ ns) fits =
    omega (arith, item_short k n fits.0, operands_short ks ns fits.1, length-append (item_text (value k n)) (after_blanks (map item_text (operand_items ks ns))))

op_rooms : (o : Op) → leb (length (op_text o) + rooms (kinds o)) 31 ≡ true
op_rooms op.Halt = refl
op_rooms o = refl

line_short : (i : Instr) → Fits i → length (spaced (instr_words i) ++ 10 ∷ []) ≤ 32
line_short i fits =
    let text = ap length (spaced_after (op_text (op_for i)) (map item_text (operand_items (kinds (op_for i)) (values_of i)))) in
    omega (
      arith,
      text,
      leb-true _ _ (op_rooms (op_for i)),
      operands_short (kinds (op_for i)) (values_of i) fits,
      length-append (op_text (op_for i)) (after_blanks (map item_text (operand_items (kinds (op_for i)) (values_of i)))),
      length-append (spaced (instr_words i)) (10 ∷ []),
    )

text_short : (is : List Instr) → AllByRecursion Fits is → length (script_text is) ≤ 32 * length is
text_short [] fits = omega arith
text_short (i ∷ is) fits = omega (arith, line_short i fits.0, text_short is fits.1, length-append (spaced (instr_words i) ++ 10 ∷ []) (script_text is))

pub printed_short : (is : List Instr) → AllByRecursion Fits is → program_ok is ≡ true → length (script_text is) ≤ 8192
printed_short is fits ok =
    let parts = and_parts (leb 1 (length is) && leb (length is) 256 && list_all (λ i. target_ok (length is) i) is) (ends_well is) ok in
    let more = and_parts (leb 1 (length is) && leb (length is) 256) (list_all (λ i. target_ok (length is) i) is) parts.0 in
    omega (arith, leb-true (length is) 256 (and_parts (leb 1 (length is)) (leb (length is) 256) more.0).1, text_short is fits)

pub ruleset printing = (printed_spells, printed_short)
