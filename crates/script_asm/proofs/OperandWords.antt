-- An operand is read exactly where its word spells it.
use Rattle.std.proofs.Common.{◌≡◌, ℕ, ◌<◌, ◌≤◌, Bool, true, false, cond, leb, ltb, List, [], ◌∷◌, min, Option, Some, None, Result, Ok, Err, refl, ap, subst, ◌∙◌, arith, inl, inr, ◌⊎◌}
use Rattle.std.specs.Prelude.{option_map}
use Rattle.std.specs.Char.{digit_value}
use Rattle.std.proofs.lemmas.Bool.{leb-false, lt-leb, ltb-true, ne_eqb}
use Rattle.script_asm.specs.declared.named.Named.{Named}
use Rattle.script_asm.specs.declared.op.Kind.{Kind}
use Rattle.script_asm.specs.declared.op.Kind.TheVariants.{Register, Immediate, Target, Index}
use Rattle.script_asm.specs.declared.fault.Code.{Code}
use Rattle.script_asm.specs.declared.fault.Code.TheVariants as code
use Rattle.script_asm.specs.Operand.{Word}
use Rattle.script_asm.specs.Script.{begins_at, spelled, up_to, register_of, immediate_of, instructions, named, number_or, within, target_of, operand, is_code}
use Rattle.script_asm.specs.Spelling.{IsDecimal, IsNamedPlace, IsOperand, AreNewNames}
use Rattle.script_asm.proofs.Figures.{spelled_decimal, decimal_spelled, index_is, is_index, register_is, is_register, immediate_is, is_immediate}
use Rattle.script_asm.proofs.Places.{name_begins, named_is, is_named_place}

abbrev failed : Code → Result ℕ Code
failed c = Err c

abbrev given : ℕ → Result ℕ Code
given n = Ok n

number_or_ok : (o : Option ℕ) (c : Code) (n : ℕ) → number_or o c ≡ Ok n → o ≡ Some n
number_or_ok None c n e = absurd cc
number_or_ok (Some m) c n e = let same : m ≡ n = cc in ap (λ (x : ℕ). Some x) same

within_ok : (count : ℕ) (r : Result ℕ Code) (n : ℕ) → within count r ≡ Ok n → (r ≡ Ok n) × (n < count)
within_ok count (Err c) n e = absurd cc
within_ok count (Ok m) n e =
    elim (leb count m) as (λ t. leb count m ≡ t → cond t (failed code.Past) (given m) ≡ Ok n → (given m ≡ Ok n) × (n < count)) [
      | true ↦ λ t s. absurd cc
      | false ↦ λ t s. let same : m ≡ n = cc in (s, omega (arith, leb-false count m t, same))
    ] refl e

ok_within : (count n : ℕ) → n < count → within count (given n) ≡ Ok n
ok_within count n lt = rw (lt-leb count n lt) refl

-- ---- targets

mapped_some : (o : Option Named) (n : ℕ) → option_map (λ m. m.place) o ≡ Some n → (m : Named) × (o ≡ Some m) × (m.place ≡ n)
mapped_some None n e = absurd cc
mapped_some (Some m) n e = (m, refl, cc)

abbrev by_name : List (List Word) → Word → Result ℕ Code
by_name all w = number_or (option_map (λ n. n.place) (named all w)) code.Nameless

abbrev by_number : Word → Result ℕ Code
by_number w = number_or (spelled w) code.Number

target_is : (all : List (List Word)) (w : Word) (n : ℕ) → AreNewNames all → target_of all w ≡ Ok n → IsDecimal w n ⊎ IsNamedPlace all w n
target_is all w n names e =
    elim (begins_at w) as (λ t. cond t (by_name all w) (by_number w) ≡ Ok n → IsDecimal w n ⊎ IsNamedPlace all w n) [
      | true ↦ λ s.
          let m = mapped_some (named all w) n (number_or_ok (option_map (λ x. x.place) (named all w)) code.Nameless n s) in
          inr (subst (IsNamedPlace all w) m.2 (named_is all w m.0 names m.1))
      | false ↦ λ s. inl (spelled_decimal w n (number_or_ok (spelled w) code.Number n s))
    ] e

not_begun : (w : Word) (n : ℕ) → IsDecimal w n → begins_at w ≡ false
not_begun [] n d = refl
not_begun (b ∷ bs) n d = ne_eqb b 64 (λ e. let digit : digit_value 64 < 10 = subst (λ x. digit_value x < 10) e d.number.digits.1.0 in omega (arith, digit))

is_target : (all : List (List Word)) (w : Word) (n : ℕ) → AreNewNames all → IsDecimal w n ⊎ IsNamedPlace all w n → target_of all w ≡ Ok n
is_target all w n names is = elim is [
  | inl d ↦ rw (not_begun w n d) (ap (λ o. number_or o code.Number) (decimal_spelled w n d))
  | inr p ↦
      let m = is_named_place all w n names p in
      let place : option_map (λ x. x.place) (named all w) ≡ Some n = ap (option_map (λ x. x.place)) m.1 ∙ ap (λ (x : ℕ). Some x) m.2 in
      rw (name_begins w p.name) (ap (λ o. number_or o code.Nameless) place)
]

-- ---- operands

pub operand_is : (all : List (List Word)) (w : Word) (k : Kind) (n : ℕ) → AreNewNames all → operand all k w ≡ Ok n → IsOperand all w k n
unfolding operand
operand_is all w Register n names e = register_is w n (number_or_ok (register_of w) code.Register n e)
operand_is all w Immediate n names e = immediate_is w n (number_or_ok (immediate_of w) code.Number n e)
operand_is all w Target n names e = target_is all w n names (within_ok (instructions all) (target_of all w) n e).0
operand_is all w Index n names e = index_is w n (number_or_ok (up_to 31 (spelled w)) code.Number n e)

-- Whether a target is below the number of instruction lines.
abbrev pub is_low : ℕ → Kind → ℕ → Bool
is_low count Target n = ltb n count
is_low count Register n = true
is_low count Immediate n = true
is_low count Index n = true

pub is_operand : (all : List (List Word)) (w : Word) (k : Kind) (n : ℕ) → AreNewNames all → is_low (instructions all) k n ≡ true → IsOperand all w k n → operand all k w ≡ Ok n
unfolding operand
is_operand all w Register n names low is = ap (λ o. number_or o code.Register) (is_register w n is)
is_operand all w Immediate n names low is = ap (λ o. number_or o code.Number) (is_immediate w n is)
is_operand all w Target n names low is = ap (within (instructions all)) (is_target all w n names is) ∙ ok_within (instructions all) n (ltb-true n (instructions all) low)
is_operand all w Index n names low is = ap (λ o. number_or o code.Number) (is_index w n is)

-- the number as an instruction takes it
abbrev pub cut : Kind → ℕ → ℕ
cut Register n = min n 15
cut Immediate n = n
cut Target n = min n 65535
cut Index n = min n 31

pub uncut : (all : List (List Word)) (w : Word) (k : Kind) (n : ℕ) → AreNewNames all → instructions all ≤ 256 → operand all k w ≡ Ok n → cut k n ≡ n
unfolding operand
uncut all w Register n names few e = omega (arith, (register_is w n (number_or_ok (register_of w) code.Register n e)).range)
uncut all w Immediate n names few e = refl
uncut all w Target n names few e = omega (arith, few, (within_ok (instructions all) (target_of all w) n e).1)
uncut all w Index n names few e = omega (arith, (index_is w n (number_or_ok (up_to 31 (spelled w)) code.Number n e)).range)

-- ---- operands without a code

-- none of the codes that an operand may have
pub record IsClean (r : Result ℕ Code) : Type 0 where
  pub number : is_code code.Number r ≡ false
  pub register : is_code code.Register r ≡ false
  pub nameless : is_code code.Nameless r ≡ false
  pub past : is_code code.Past r ≡ false

clean_number : IsClean (failed code.Number) → ⊥
clean_number h = absurd (let e : true ≡ false = h.number in cc)

clean_register : IsClean (failed code.Register) → ⊥
clean_register h = absurd (let e : true ≡ false = h.register in cc)

clean_nameless : IsClean (failed code.Nameless) → ⊥
clean_nameless h = absurd (let e : true ≡ false = h.nameless in cc)

clean_past : IsClean (failed code.Past) → ⊥
clean_past h = absurd (let e : true ≡ false = h.past in cc)

number_clean : (o : Option ℕ) (c : Code) → (IsClean (failed c) → ⊥) → IsClean (number_or o c) → (n : ℕ) × (number_or o c ≡ Ok n)
number_clean None c bad clean = absurd (bad clean)
number_clean (Some n) c bad clean = (n, refl)

within_clean : (count : ℕ) (o : Option ℕ) (c : Code) → (IsClean (failed c) → ⊥) → IsClean (within count (number_or o c)) → (n : ℕ) × (within count (number_or o c) ≡ Ok n)
within_clean count None c bad clean = absurd (bad clean)
within_clean count (Some n) c bad clean =
    elim (leb count n) as (λ t. IsClean (cond t (failed code.Past) (given n)) → (m : ℕ) × (cond t (failed code.Past) (given n) ≡ Ok m)) [
      | true ↦ λ h. absurd (clean_past h)
      | false ↦ λ h. (n, refl)
    ] clean

pub clean_ok : (all : List (List Word)) (w : Word) (k : Kind) → IsClean (operand all k w) → (n : ℕ) × (operand all k w ≡ Ok n)
unfolding operand
clean_ok all w Register clean = number_clean (register_of w) code.Register clean_register clean
clean_ok all w Immediate clean = number_clean (immediate_of w) code.Number clean_number clean
clean_ok all w Target clean =
    elim (begins_at w) as (λ t. IsClean (within (instructions all) (cond t (by_name all w) (by_number w))) → (n : ℕ) × (within (instructions all) (cond t (by_name all w) (by_number w)) ≡ Ok n)) [
      | true ↦ λ h. within_clean (instructions all) (option_map (λ n. n.place) (named all w)) code.Nameless clean_nameless h
      | false ↦ λ h. within_clean (instructions all) (spelled w) code.Number clean_number h
    ] clean
clean_ok all w Index clean = number_clean (up_to 31 (spelled w)) code.Number clean_number clean
