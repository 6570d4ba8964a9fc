-- Lines of words that spell a program: what holds of any such lines.
use Rattle.std.proofs.Common.{◌≡◌, ℕ, ◌<◌, ◌^◌, Bool, true, false, cond, not, eqb, leb, ltb, ◌&&◌, List, [], ◌∷◌, ◌++◌, length, refl, sym, ap, subst, ◌∙◌, append_assoc, arith, inl, inr, Some, Result, Ok, Err, IfOk}
use Rattle.std.specs.Prelude.{map, filter}
use Rattle.std.specs.Fmt.{decimal}
use Rattle.std.specs.List.{AllZip, AllByRecursion, list_all}
use Rattle.std.proofs.lemmas.Bool.{and_parts, ltb-true, eqb-true}
use Rattle.std.proofs.lemmas.List.{append-nil, nil_from_length}
use Rattle.text_lines.specs.Lines.{lines, words_of}
use Rattle.text_lines.specs.Printed.{spaced, printed, IsWord, IsLineOfWords}
use Rattle.text_lines.proofs.PrintedWords.{decimal_word, decimal_number, plain_from, line_words, line_allowed, printed_lines}
use Rattle.script_lang.specs.declared.instr.Instr.{Instr}
use Rattle.script_lang.specs.Program.{program_ok}
use Rattle.script_asm.specs.declared.op.Kind.TheVariants.{Register, Immediate, Target}
use Rattle.script_asm.specs.Operand.{Word}
use Rattle.script_asm.specs.Script.{begins_at, names_place, register_of, immediate_of, is_instruction, words_in, instructions}
use Rattle.mail_scripts.specs.Texts.{text_of}
use Rattle.script_asm.proofs.Figures.{register_is, immediate_is}
use Rattle.script_asm.specs.Spelling.{IsOperand, IsInstr, is_name_line, is_named, NamesNew, AreNewNames, are_allowed, Spells}

-- ---- words

abbrev is_plain : ℕ → Bool
is_plain b = (leb 33 b && leb b 126) && not (eqb b 35)

-- a word that computes to plain bytes
abbrev is_word : Word → Bool
is_word w = ltb 0 (length w) && list_all is_plain w

word : (w : Word) → is_word w ≡ true → IsWord w
word w e = let p = and_parts (ltb 0 (length w)) (list_all is_plain w) e in (ltb-true 0 (length w) p.0, plain_from w p.1)

words : (ws : List Word) → list_all is_word ws ≡ true → AllByRecursion IsWord ws
words [] e = tt
words (w ∷ ws) e = let p = and_parts (is_word w) (list_all is_word ws) e in (word w p.0, words ws p.1)

-- a fixed line
pub fixed : (w : Word) (ws : List Word) → list_all is_word (w ∷ ws) ≡ true → IsLineOfWords (w ∷ ws)
fixed w ws e = (omega arith, words (w ∷ ws) e)

-- two fixed words and a number
pub numbered : (v w : Word) (n : ℕ) → is_word v ≡ true → is_word w ≡ true → n < 2 ^ 64 → IsLineOfWords (v ∷ w ∷ decimal n ∷ [])
numbered v w n e f small = (omega arith, (word v e, (word w f, (decimal_word n small, tt))))

-- ---- operands

pub register : (all : List (List Word)) (w : Word) (n : ℕ) → register_of w ≡ Some n → IsOperand all w Register n
register all w n e = register_is w n e

-- a fixed number
pub constant : (all : List (List Word)) (w : Word) (n : ℕ) → immediate_of w ≡ Some n → IsOperand all w Immediate n
constant all w n e = immediate_is w n e

pub number : (all : List (List Word)) (n : ℕ) → n < 2 ^ 64 → IsOperand all (decimal n) Immediate n
number all n small = inl (record { number = decimal_number n small; range = small })

-- a target by name
pub name : (before after : List (List Word)) (w : Word) → names_place w ≡ true → IsOperand (before ++ (w ∷ []) ∷ after) w Target (instructions before)
name before after w e = inr (record { before = before; after = after; name = e; line = refl; place = refl })

-- ---- names

-- the line names a place by a name that the lines before don't have, or it names none
abbrev name_ok : List (List Word) → List Word → Bool
name_ok before [] = true
name_ok before (w ∷ ws) = cond (begins_at w) ((eqb (length ws) 0 && names_place w) && not (is_named before w)) true

abbrev names_ok : List (List Word) → List (List Word) → Bool
names_ok before [] = true
names_ok before (ws ∷ more) = name_ok before ws && names_ok (before ++ ws ∷ []) more

is_not : (b : Bool) → not b ≡ true → b ≡ false
is_not false e = refl
is_not true e = absurd cc

line_new : (before : List (List Word)) (ws : List Word) → name_ok before ws ≡ true → is_name_line ws ≡ true → NamesNew before ws
line_new before [] ok begins = absurd (let e : false ≡ true = begins in cc)
line_new before (w ∷ ws) ok begins =
    let now : ((eqb (length ws) 0 && names_place w) && not (is_named before w)) ≡ true =
    subst (λ t. cond t ((eqb (length ws) 0 && names_place w) && not (is_named before w)) true ≡ true) begins ok in
    let p = and_parts (eqb (length ws) 0 && names_place w) (not (is_named before w)) now in
    let q = and_parts (eqb (length ws) 0) (names_place w) p.0 in
    let none : ws ≡ [] = nil_from_length ws (eqb-true (length ws) 0 q.0) in
    record { word = w; alone = ap (λ t. w ∷ t) none; name = q.1; new = is_not (is_named before w) p.1 }

first_is : (ws vs : List Word) (more after : List (List Word)) → ws ∷ more ≡ vs ∷ after → ws ≡ vs
first_is ws vs more after e = cc

later_is : (ws b vs : List Word) (more bs after : List (List Word)) → ws ∷ more ≡ b ∷ (bs ++ vs ∷ after) → (ws ≡ b) × (more ≡ bs ++ vs ∷ after)
later_is ws b vs more bs after e = (cc, cc)

names_new : (rest front : List (List Word)) → names_ok front rest ≡ true → (before after : List (List Word)) (ws : List Word) → rest ≡ before ++ ws ∷ after → is_name_line ws ≡ true → NamesNew (front ++ before) ws
names_new [] front ok [] after ws e begins = absurd cc
names_new [] front ok (b ∷ bs) after ws e begins = absurd cc
names_new (l ∷ rest) front ok [] after ws e begins =
    let p = and_parts (name_ok front l) (names_ok (front ++ l ∷ []) rest) ok in
    let same : l ≡ ws = first_is l ws rest after e in
    subst (λ z. NamesNew z ws) (sym (append-nil front)) (line_new front ws (subst (λ z. name_ok front z ≡ true) same p.0) begins)
names_new (l ∷ rest) front ok (b ∷ bs) after ws e begins =
    let p = and_parts (name_ok front l) (names_ok (front ++ l ∷ []) rest) ok in
    let same = later_is l b ws rest bs after e in
    subst (λ z. NamesNew z ws) (append_assoc front (l ∷ []) bs ∙ ap (λ z. front ++ z ∷ bs) same.0) (names_new rest (front ++ l ∷ []) p.1 bs after ws same.1 begins)

-- ---- lines

words_again : (ls : List (List Word)) → AllByRecursion IsLineOfWords ls → map words_of (map spaced ls) ≡ ls
words_again [] all = refl
words_again (ws ∷ ls) all = rw (line_words ws all.0, words_again ls all.1) refl

allowed : (ls : List (List Word)) → AllByRecursion IsLineOfWords ls → are_allowed (map spaced ls) ≡ true
allowed [] all = refl
allowed (ws ∷ ls) all = rw (line_allowed ws all.0, allowed ls all.1) refl

-- the text of printed lines
pub printed_text : (ls : List (List Word)) → printed ls ≡ text_of (map spaced ls)
printed_text [] = refl
printed_text (ws ∷ ls) = append_assoc (spaced ws) (10 ∷ []) (printed ls) ∙ ap (λ t. spaced ws ++ 10 ∷ t) (printed_text ls)

-- printed lines of words spell the program whose instructions they are
pub spells : (ls : List (List Word)) (program : List Instr) → AllByRecursion IsLineOfWords ls → AllZip (IsInstr ls) (filter is_instruction ls) program → names_ok [] ls ≡ true →
    program_ok program ≡ true → Spells (lines (printed ls)) program
spells ls program all instrs new ok =
    let again : lines (printed ls) ≡ map spaced ls = printed_lines ls all in
    let same : words_in (lines (printed ls)) ≡ ls = ap words_in again ∙ words_again ls all in
    record {
      bytes = subst (λ t. are_allowed t ≡ true) (sym again) (allowed ls all);
      instrs = subst (λ t. AllZip (IsInstr t) (filter is_instruction t) program) (sym same) instrs;
      names = subst AreNewNames (sym same) (λ before after ws split begins. names_new ls [] new before after ws split begins);
      valid = ok;
    }

-- what follows for the value of a result
pub if_ok_more : {A E : Type 0} (P Q : A → Type 0) → ((x : A) → P x → Q x) → (r : Result A E) → IfOk r P → IfOk r Q
if_ok_more P Q go (Ok x) h = go x h
if_ok_more P Q go (Err e) h = h
