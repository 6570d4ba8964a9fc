-- The words of an instruction: what is made of them is what they spell.
use Rattle.std.proofs.Common.{◌≡◌, ℕ, zero, suc, ◌≤◌, Bool, true, false, cond, eqb, leb, ltb, ◌&&◌, ◌||◌, List, [], ◌∷◌, length, Some, refl, sym, ap, subst, ◌∙◌, arith}
use Rattle.std.specs.Result.{result_unwrap_or}
use Rattle.std.specs.List.{AllZip, list_all}
use Rattle.std.specs.Str.{bytes_eq}
use Rattle.std.proofs.lemmas.Bool.{and_from, and_parts, eqb-true, leb-true}
use Rattle.std.proofs.lemmas.Slice.Eq.{bytes_eq-Decides}
use Rattle.script_lang.specs.declared.instr.Instr.{Instr}
use Rattle.script_lang.specs.declared.instr.Instr.TheVariants as instr
use Rattle.script_lang.specs.Program.{target_ok}
use Rattle.script_asm.specs.declared.op.Op.{Op}
use Rattle.script_asm.specs.declared.op.Op.TheVariants as op
use Rattle.script_asm.specs.declared.op.Kind.{Kind}
use Rattle.script_asm.specs.declared.fault.Code.{Code}
use Rattle.script_asm.specs.declared.fault.Code.TheVariants as code
use Rattle.script_asm.specs.Operand.{Word, op_text, kinds, instr_of}
use Rattle.script_asm.specs.Script.{begins_at, all_ops, op_among, op_of, instructions, operand, is_code, has_code, first_value, tail_of, made}
use Rattle.script_asm.specs.Item.{Item, mnemonic, value, op_for, values_of, operand_items, instr_items}
use Rattle.script_asm.specs.Spelling.{IsOperand, IsItem, IsInstr, AreNewNames}
use Rattle.script_asm.proofs.OperandWords.{IsClean, is_low, cut, operand_is, is_operand, uncut, clean_ok}

-- ---- mnemonics

pub op_again : (o : Op) → op_of (op_text o) ≡ Some o
unfolding op_of
op_again op.Halt = refl
op_again o = refl

pub not_at : (o : Op) → begins_at (op_text o) ≡ false
not_at op.Halt = refl
not_at o = refl

among_is : (os : List Op) (w : Word) (o : Op) → op_among os w ≡ Some o → w ≡ op_text o
among_is [] w o e = absurd cc
among_is (x ∷ xs) w o e =
    elim (bytes_eq w (op_text x)) as (λ t. bytes_eq w (op_text x) ≡ t → cond t (Some x) (op_among xs w) ≡ Some o → w ≡ op_text o) [
      | true ↦ λ is s. let same : x ≡ o = cc in (bytes_eq-Decides w (op_text x)).0 is ∙ ap op_text same
      | false ↦ λ is s. among_is xs w o s
    ] refl e

pub op_is : (w : Word) (o : Op) → op_of w ≡ Some o → w ≡ op_text o
unfolding op_of
op_is w o e = among_is all_ops w o e

-- ---- the numbers of the operands

-- the numbers of the first m operands, 0 where there is none
numbers : List (List Word) → ℕ → List Kind → List Word → List ℕ
numbers all zero ks ws = []
numbers all (suc m) ks ws = first_value all ks ws ∷ numbers all m (tail_of ks) (tail_of ws)

-- the instruction with five numbers
abbrev built : Op → List ℕ → Instr
built o (a ∷ b ∷ c ∷ d ∷ e ∷ ns) = instr_of o a b c d e
built o ns = instr.Halt

made_is : (all : List (List Word)) (o : Op) (ws : List Word) → made all o ws ≡ built o (numbers all 5 (kinds o) ws)
unfolding made numbers
made_is all o ws = refl

-- what the words of these operands say, cut as an instruction takes them
abbrev cut_items : List Kind → List ℕ → List Item
cut_items [] ns = []
cut_items (k ∷ ks) [] = []
cut_items (k ∷ ks) (n ∷ ns) = value k (cut k n) ∷ cut_items ks ns

items_are : (o : Op) (a b c d e : ℕ) → instr_items (instr_of o a b c d e) ≡ mnemonic o ∷ cut_items (kinds o) (a ∷ b ∷ c ∷ d ∷ e ∷ [])
items_are op.Halt a b c d e = refl
items_are o a b c d e = refl

-- ---- what is made is spelled

-- none of the operands has a code
pub record AreClean (all : List (List Word)) (ks : List Kind) (ws : List Word) : Type 0 where
  pub number : has_code all code.Number ks ws ≡ false
  pub register : has_code all code.Register ks ws ≡ false
  pub nameless : has_code all code.Nameless ks ws ≡ false
  pub past : has_code all code.Past ks ws ≡ false

or_false : (a b : Bool) → (a || b) ≡ false → (a ≡ false) × (b ≡ false)
or_false true b e = absurd cc
or_false false b e = (refl, e)

first_clean : (all : List (List Word)) (k : Kind) (ks : List Kind) (w : Word) (ws : List Word) → AreClean all (k ∷ ks) (w ∷ ws) → IsClean (operand all k w)
first_clean all k ks w ws h = record {
  number = (or_false (is_code code.Number (operand all k w)) (has_code all code.Number ks ws) h.number).0;
  register = (or_false (is_code code.Register (operand all k w)) (has_code all code.Register ks ws) h.register).0;
  nameless = (or_false (is_code code.Nameless (operand all k w)) (has_code all code.Nameless ks ws) h.nameless).0;
  past = (or_false (is_code code.Past (operand all k w)) (has_code all code.Past ks ws) h.past).0;
}

later_clean : (all : List (List Word)) (k : Kind) (ks : List Kind) (w : Word) (ws : List Word) → AreClean all (k ∷ ks) (w ∷ ws) → AreClean all ks ws
later_clean all k ks w ws h = record {
  number = (or_false (is_code code.Number (operand all k w)) (has_code all code.Number ks ws) h.number).1;
  register = (or_false (is_code code.Register (operand all k w)) (has_code all code.Register ks ws) h.register).1;
  nameless = (or_false (is_code code.Nameless (operand all k w)) (has_code all code.Nameless ks ws) h.nameless).1;
  past = (or_false (is_code code.Past (operand all k w)) (has_code all code.Past ks ws) h.past).1;
}

operands_are : (all : List (List Word)) (m : ℕ) (ks : List Kind) (ws : List Word) → AreNewNames all → instructions all ≤ 256 → length ks ≤ m → length ws ≡ length ks → AreClean all ks ws → AllZip (IsItem all) ws (cut_items ks (numbers all m ks ws))
unfolding numbers
operands_are all m [] [] names few long same clean = tt
operands_are all m [] (w ∷ ws) names few long same clean = absurd (omega (arith, same))
operands_are all m (k ∷ ks) [] names few long same clean = absurd (omega (arith, same))
operands_are all zero (k ∷ ks) (w ∷ ws) names few long same clean = absurd (omega (arith, long))
operands_are all (suc m) (k ∷ ks) (w ∷ ws) names few long same clean =
    let ok = clean_ok all w k (first_clean all k ks w ws clean) in
    let number : result_unwrap_or (operand all k w) 0 ≡ ok.0 = ap (λ r. result_unwrap_or r 0) ok.1 in
    let whole : cut k (result_unwrap_or (operand all k w) 0) ≡ ok.0 = ap (cut k) number ∙ uncut all w k ok.0 names few ok.1 in (
      subst (IsOperand all w k) (sym whole) (operand_is all w k ok.0 names ok.1),
      operands_are all m ks ws names few (omega (arith, long)) (omega (arith, same)) (later_clean all k ks w ws clean),
    )

few_kinds : (o : Op) → leb (length (kinds o)) 5 ≡ true
few_kinds op.Halt = refl
few_kinds o = refl

-- An instruction line without a code spells the instruction that is made of it.
pub line_is : (all : List (List Word)) (o : Op) (w : Word) (ws : List Word) → AreNewNames all → instructions all ≤ 256 → w ≡ op_text o → length ws ≡ length (kinds o) → AreClean all (kinds o) ws → IsInstr all (w ∷ ws) (made all o ws)
unfolding numbers
line_is all o w ws names few is same clean =
    let operands = operands_are all 5 (kinds o) ws names few (leb-true (length (kinds o)) 5 (few_kinds o)) same clean in
    let items : instr_items (made all o ws) ≡ mnemonic o ∷ cut_items (kinds o) (numbers all 5 (kinds o) ws) = ap instr_items (made_is all o ws) ∙ items_are o _ _ _ _ _ in
    subst (AllZip (IsItem all) (w ∷ ws)) (sym items) (is, operands)

-- ---- what is spelled is made

-- m numbers, zeros behind those of the kinds
abbrev padded : ℕ → List Kind → List ℕ → Bool
padded zero [] [] = true
padded zero ks ns = false
padded (suc m) ks [] = false
padded (suc m) [] (n ∷ ns) = eqb n 0 && padded m [] ns
padded (suc m) (k ∷ ks) (n ∷ ns) = padded m ks ns

are_padded : (i : Instr) → padded 5 (kinds (op_for i)) (values_of i) ≡ true
are_padded instr.Halt = refl
are_padded i = refl

-- Whether a target is below the number of instruction lines.
abbrev pub item_low : ℕ → Item → Bool
item_low count (mnemonic o) = true
item_low count (value k n) = is_low count k n

-- what is made of operands that spell these numbers
record AreRead (all : List (List Word)) (m : ℕ) (ks : List Kind) (ws : List Word) (ns : List ℕ) : Type 0 where
  long : length ws ≡ length ks
  same : numbers all m ks ws ≡ ns
  whole : cut_items ks ns ≡ operand_items ks ns
  clean : (c : Code) → has_code all c ks ws ≡ false

read_none : (all : List (List Word)) (m : ℕ) (ns : List ℕ) → padded m [] ns ≡ true → numbers all m [] [] ≡ ns
unfolding numbers
read_none all zero [] pad = refl
read_none all zero (n ∷ ns) pad = absurd (let e : false ≡ true = pad in cc)
read_none all (suc m) [] pad = absurd (let e : false ≡ true = pad in cc)
read_none all (suc m) (n ∷ ns) pad =
    let parts = and_parts (eqb n 0) (padded m [] ns) pad in
    let none : n ≡ 0 = eqb-true n 0 parts.0 in
    rw (none, read_none all m ns parts.1) refl

are_read : (all : List (List Word)) (m : ℕ) (ks : List Kind) (ws : List Word) (ns : List ℕ) → AreNewNames all → instructions all ≤ 256 → padded m ks ns ≡ true → list_all (item_low (instructions all)) (operand_items ks ns) ≡ true → AllZip (IsItem all) ws (operand_items ks ns) → AreRead all m ks ws ns
unfolding numbers
are_read all m [] [] ns names few pad low zip = record { long = refl; same = read_none all m ns pad; whole = refl; clean = λ c. refl }
are_read all m [] (w ∷ ws) ns names few pad low zip = absurd zip
are_read all zero (k ∷ ks) ws ns names few pad low zip = absurd (let e : false ≡ true = pad in cc)
are_read all (suc m) (k ∷ ks) ws [] names few pad low zip = absurd (let e : false ≡ true = pad in cc)
are_read all (suc m) (k ∷ ks) [] (n ∷ ns) names few pad low zip = absurd zip
are_read all (suc m) (k ∷ ks) (w ∷ ws) (n ∷ ns) names few pad low zip =
    let lows = and_parts (is_low (instructions all) k n) (list_all (item_low (instructions all)) (operand_items ks ns)) low in
    let ok = is_operand all w k n names lows.0 zip.0 in
    let rest = are_read all m ks ws ns names few pad lows.1 zip.1 in
    let number : result_unwrap_or (operand all k w) 0 ≡ n = ap (λ r. result_unwrap_or r 0) ok in
    record {
      long = omega (arith, rest.long);
      same = rw (number, rest.same) refl;
      whole = rw (uncut all w k n names few ok, rest.whole) refl;
      clean = λ c. let none : is_code c (operand all k w) ≡ false = ap (is_code c) ok in rw (none, rest.clean c) refl;
    }

-- Where no operand is cut, the instruction is made of its numbers again.
built_again : (i : Instr) → cut_items (kinds (op_for i)) (values_of i) ≡ operand_items (kinds (op_for i)) (values_of i) → built (op_for i) (values_of i) ≡ i
built_again instr.Halt e = refl
built_again i e = cc

pub low_items : (count : ℕ) (i : Instr) → target_ok count i ≡ true → list_all (item_low count) (instr_items i) ≡ true
low_items count (instr.Jump to) e = and_from (ltb to count) true e refl
low_items count (instr.JumpZ a to) e = and_from (ltb to count) true e refl
low_items count (instr.JumpL a b to) e = and_from (ltb to count) true e refl
low_items count i e = refl

-- a line of words that spell the instruction
pub record IsMade (all : List (List Word)) (w : Word) (ws : List Word) (i : Instr) : Type 0 where
  pub word : w ≡ op_text (op_for i)
  pub long : length ws ≡ length (kinds (op_for i))
  pub clean : (c : Code) → has_code all c (kinds (op_for i)) ws ≡ false
  pub same : made all (op_for i) ws ≡ i

pub is_made : (all : List (List Word)) (w : Word) (ws : List Word) (i : Instr) → AreNewNames all → instructions all ≤ 256 → target_ok (instructions all) i ≡ true → IsInstr all (w ∷ ws) i → IsMade all w ws i
is_made all w ws i names few low is =
    let r = are_read all 5 (kinds (op_for i)) ws (values_of i) names few (are_padded i) (low_items (instructions all) i low) is.1 in
    record {
      word = is.0;
      long = r.long;
      clean = r.clean;
      same = made_is all (op_for i) ws ∙ ap (built (op_for i)) r.same ∙ built_again i r.whole;
    }
