-- Words of numbers: what is read of them is what they spell.
use Rattle.std.proofs.Common.{◌≡◌, ℕ, ◌+◌, ◌*◌, ◌^◌, ◌<◌, ◌≤◌, true, false, cond, eqb, leb, ltb, ◌&&◌, List, [], ◌∷◌, length, Option, Some, None, Result, Ok, Err, refl, sym, ap, subst, ◌∙◌, arith, inl, inr, ◌⊎◌}
use Rattle.std.specs.Result.{is_err, result_unwrap_or}
use Rattle.std.specs.Char.{digit_value}
use Rattle.std.specs.Str.Parse.{AllDigits, IsNumeral, digits_value, digits_value_after}
use Rattle.std.proofs.lemmas.Bool.{cases_lt, leb-true, ltb-true, le-leb, lt-ltb, eqb-true, and_parts}
use Rattle.std.proofs.lemmas.Bool.Decides.{nat_tests}
use Rattle.std.proofs.lemmas.Int.Digits.{digits_value-lt}
use Rattle.std.proofs.Math.Nat.{pow-le-pow_right}
use Rattle.text_lines.specs.declared.decimal.NumberFault.{NumberFault}
use Rattle.text_lines.specs.declared.decimal.NumberFault.TheVariants.{Spelling, Large}
use Rattle.text_lines.specs.Number.{IsNumberAnswer, number_of}
use Rattle.text_lines.proofs.Numbers.{number_answer}
use Rattle.script_asm.specs.Operand.{Word}
use Rattle.script_asm.specs.Script.{spelled, up_to, register_of, hex_digit, with_hex_digit, hex_after, hex_of, immediate_of}
use Rattle.script_asm.specs.Spelling.{IsRegister, IsDecimal, IsHexadecimal, IsIndex}

-- ---- decimal digits

answer_decimal : (w : Word) (n : ℕ) (r : Result ℕ NumberFault) → IsNumberAnswer w r → cond (is_err r) None (Some (result_unwrap_or r 0)) ≡ Some n → IsDecimal w n
answer_decimal w n (Ok m) a e = let same : m ≡ n = cc in subst (IsDecimal w) same (record { number = a.0; range = a.1 })
answer_decimal w n (Err f) a e = absurd cc

pub spelled_decimal : (w : Word) (n : ℕ) → spelled w ≡ Some n → IsDecimal w n
spelled_decimal w n e = answer_decimal w n (number_of w) (number_answer w) e

decimal_answer : (w : Word) (n : ℕ) (r : Result ℕ NumberFault) → IsNumberAnswer w r → IsDecimal w n → cond (is_err r) None (Some (result_unwrap_or r 0)) ≡ Some n
decimal_answer w n (Ok m) a d = ap (λ (k : ℕ). Some k) (sym a.0.value ∙ d.number.value)
decimal_answer w n (Err Large) a d = let same : a.0 ≡ n = sym a.1.value ∙ d.number.value in absurd (omega (arith, a.2, d.range, same))
decimal_answer w n (Err Spelling) a d = absurd (a n d.number)

pub decimal_spelled : (w : Word) (n : ℕ) → IsDecimal w n → spelled w ≡ Some n
decimal_spelled w n d = decimal_answer w n (number_of w) (number_answer w) d

up_to_some : (bound : ℕ) (o : Option ℕ) (n : ℕ) → up_to bound o ≡ Some n → (o ≡ Some n) × (n ≤ bound)
up_to_some bound None n e = absurd cc
up_to_some bound (Some m) n e =
    elim (leb m bound) as (λ b. leb m bound ≡ b → cond b (Some m) None ≡ Some n → (Some m ≡ Some n) × (n ≤ bound)) [
      | true ↦ λ t s. let same : m ≡ n = cc in (s, omega (arith, leb-true m bound t, same))
      | false ↦ λ t s. absurd cc
    ] refl e

some_up_to : (bound n : ℕ) → n ≤ bound → up_to bound (Some n) ≡ Some n
some_up_to bound n le = rw (le-leb n bound le) refl

pub index_is : (w : Word) (n : ℕ) → up_to 31 (spelled w) ≡ Some n → IsIndex w n
index_is w n e = let u = up_to_some 31 (spelled w) n e in record { number = (spelled_decimal w n u.0).number; range = u.1 }

pub is_index : (w : Word) (n : ℕ) → IsIndex w n → up_to 31 (spelled w) ≡ Some n
is_index w n i = ap (up_to 31) (decimal_spelled w n (record { number = i.number; range = omega (arith, i.range) })) ∙ some_up_to 31 n i.range

-- ---- registers

pub register_is : (w : Word) (n : ℕ) → register_of w ≡ Some n → IsRegister w n
register_is [] n e = absurd cc
register_is (b ∷ bs) n e =
    elim (eqb b 114) as (λ t. eqb b 114 ≡ t → cond t (up_to 15 (spelled bs)) None ≡ Some n → IsRegister (b ∷ bs) n) [
      | true ↦ λ t s.
          let u = up_to_some 15 (spelled bs) n s in
          record { digits = bs; spelled = ap (λ (x : ℕ). x ∷ bs) (eqb-true b 114 t); number = (spelled_decimal bs n u.0).number; range = u.1 }
      | false ↦ λ t s. absurd cc
    ] refl e

pub is_register : (w : Word) (n : ℕ) → IsRegister w n → register_of w ≡ Some n
is_register w n r =
    ap register_of r.spelled ∙ ap (up_to 15) (decimal_spelled r.digits n (record { number = r.number; range = omega (arith, r.range) })) ∙ some_up_to 15 n r.range

-- ---- hexadecimal digits

-- a byte is a digit, with its value, or it isn't one
hex_cases : (b : ℕ) → ((hex_digit b ≡ Some (digit_value b)) × (digit_value b < 16)) ⊎ ((hex_digit b ≡ None) × (16 ≤ digit_value b))
hex_cases b = elim (cases_lt b 48) [
  | inl below ↦ inr (grind (arith, nat_tests), grind (arith, nat_tests))
  | inr le ↦ elim (cases_lt b 58) [
    | inl digit ↦ inl (grind (arith, nat_tests), grind (arith, nat_tests))
    | inr past ↦ elim (cases_lt b 65) [
      | inl between ↦ inr (grind (arith, nat_tests), grind (arith, nat_tests))
      | inr upper ↦ elim (cases_lt b 71) [
        | inl letter ↦ inl (grind (arith, nat_tests), grind (arith, nat_tests))
        | inr above ↦ elim (cases_lt b 97) [
          | inl gap ↦ inr (grind (arith, nat_tests), grind (arith, nat_tests))
          | inr lower ↦ elim (cases_lt b 103) [
            | inl letter ↦ inl (grind (arith, nat_tests), grind (arith, nat_tests))
            | inr high ↦ inr (grind (arith, nat_tests), grind (arith, nat_tests))
          ]
        ]
      ]
    ]
  ]
]

abbrev below : ℕ → Option ℕ
below m = cond (ltb m (2 ^ 64)) (Some m) None

with_digit : (v b d : ℕ) → hex_digit b ≡ Some d → with_hex_digit (Some v) b ≡ below (v * 16 + d)
with_digit v b d e = rw e refl

without_digit : (v b : ℕ) → hex_digit b ≡ None → with_hex_digit (Some v) b ≡ None
without_digit v b e = rw e refl

hex_none : (ds : List ℕ) → hex_after None ds ≡ None
hex_none [] = refl
hex_none (d ∷ ds) = hex_none ds

none_some : (ds : List ℕ) (n : ℕ) → hex_after None ds ≡ Some n → ⊥
none_some ds n e = absurd (let both : None ≡ Some n = sym (hex_none ds) ∙ e in cc)

hex_after_is : (v : ℕ) (ds : List ℕ) (n : ℕ) → hex_after (Some v) ds ≡ Some n → AllDigits 16 ds × (digits_value_after 16 v ds ≡ n)
hex_after_is v [] n e = (tt, cc)
hex_after_is v (b ∷ bs) n e = elim (hex_cases b) [
  | inl digit ↦
      let m : ℕ = v * 16 + digit_value b in
      let next : hex_after (below (v * 16 + digit_value b)) bs ≡ Some n = ap (λ o. hex_after o bs) (sym (with_digit v b (digit_value b) digit.0)) ∙ e in
      elim (ltb (v * 16 + digit_value b) (2 ^ 64)) as (λ t. hex_after (cond t (Some (v * 16 + digit_value b)) None) bs ≡ Some n → AllDigits 16 (b ∷ bs) × (digits_value_after 16 v (b ∷ bs) ≡ n)) [
        | true ↦ λ s. let rest = hex_after_is (v * 16 + digit_value b) bs n s in ((digit.1, rest.0), rest.1)
        | false ↦ λ s. absurd (none_some bs n s)
      ] next
  | inr other ↦ absurd (none_some bs n (ap (λ o. hex_after o bs) (sym (without_digit v b other.0)) ∙ e))
]

after_least : (v : ℕ) (ds : List ℕ) → v ≤ digits_value_after 16 v ds
after_least v [] = omega arith
after_least v (b ∷ bs) = omega (arith, after_least (v * 16 + digit_value b) bs)

is_hex_after : (v : ℕ) (ds : List ℕ) → AllDigits 16 ds → digits_value_after 16 v ds < 2 ^ 64 → hex_after (Some v) ds ≡ Some (digits_value_after 16 v ds)
is_hex_after v [] all low = refl
is_hex_after v (b ∷ bs) all low = elim (hex_cases b) [
  | inl digit ↦
      let small : ltb (v * 16 + digit_value b) (2 ^ 64) ≡ true = lt-ltb _ _ (omega (arith, low, after_least (v * 16 + digit_value b) bs)) in
      ap (λ o. hex_after o bs) (with_digit v b (digit_value b) digit.0) ∙ rw small (is_hex_after (v * 16 + digit_value b) bs all.1 low)
  | inr other ↦ absurd (omega (arith, other.1, all.0))
]

hex_is : (ds : List ℕ) (n : ℕ) → hex_of ds ≡ Some n → IsHexadecimal (48 ∷ 120 ∷ ds) n
hex_is ds n e =
    elim (ltb 0 (length ds) && leb (length ds) 16) as (λ t. (ltb 0 (length ds) && leb (length ds) 16) ≡ t → cond t (hex_after (Some 0) ds) None ≡ Some n → IsHexadecimal (48 ∷ 120 ∷ ds) n) [
      | true ↦ λ t s.
          let range = and_parts (ltb 0 (length ds)) (leb (length ds) 16) t in
          let is = hex_after_is 0 ds n s in
          record { digits = ds; spelled = refl; numeral = (ltb-true 0 (length ds) range.0, is.0); few = leb-true (length ds) 16 range.1; number = is.1 }
      | false ↦ λ t s. absurd cc
    ] refl e

is_hex : (ds : List ℕ) (n : ℕ) → IsNumeral 16 ds → length ds ≤ 16 → digits_value 16 ds ≡ n → hex_of ds ≡ Some n
is_hex ds n numeral few number =
    let power : 16 ^ length ds ≤ 16 ^ 16 = pow-le-pow_right (omega arith) few in
    let low : digits_value 16 ds < 2 ^ 64 = omega (arith, digits_value-lt 16 ds numeral.1, power) in
    rw (lt-ltb 0 (length ds) numeral.0, le-leb (length ds) 16 few) (is_hex_after 0 ds numeral.1 low ∙ ap (λ (k : ℕ). Some k) number)

-- ---- immediate numbers

pub immediate_is : (w : Word) (n : ℕ) → immediate_of w ≡ Some n → IsDecimal w n ⊎ IsHexadecimal w n
immediate_is [] n e = inl (spelled_decimal [] n e)
immediate_is (b ∷ []) n e = inl (spelled_decimal (b ∷ []) n e)
immediate_is (b ∷ c ∷ bs) n e =
    elim (eqb b 48 && eqb c 120) as (λ t. (eqb b 48 && eqb c 120) ≡ t → cond t (hex_of bs) (spelled (b ∷ c ∷ bs)) ≡ Some n → IsDecimal (b ∷ c ∷ bs) n ⊎ IsHexadecimal (b ∷ c ∷ bs) n) [
      | true ↦ λ t s.
          let both = and_parts (eqb b 48) (eqb c 120) t in
          let same : b ∷ c ∷ bs ≡ 48 ∷ 120 ∷ bs = rw (eqb-true b 48 both.0, eqb-true c 120 both.1) refl in
          inr (subst (λ w. IsHexadecimal w n) (sym same) (hex_is bs n s))
      | false ↦ λ t s. inl (spelled_decimal (b ∷ c ∷ bs) n s)
    ] refl e

hex_word : (w : Word) (n : ℕ) → IsHexadecimal w n → immediate_of w ≡ Some n
hex_word w n h = ap immediate_of h.spelled ∙ is_hex h.digits n h.numeral h.few h.number

decimal_word : (w : Word) (n : ℕ) → IsDecimal w n → immediate_of w ≡ Some n
decimal_word [] n d = decimal_spelled [] n d
decimal_word (b ∷ []) n d = decimal_spelled (b ∷ []) n d
decimal_word (b ∷ c ∷ bs) n d =
    elim (eqb b 48 && eqb c 120) as (λ t. (eqb b 48 && eqb c 120) ≡ t → cond t (hex_of bs) (spelled (b ∷ c ∷ bs)) ≡ Some n) [
      | true ↦ λ t. absurd (
          let c_is : c ≡ 120 = eqb-true c 120 (and_parts (eqb b 48) (eqb c 120) t).1 in
          let digit : digit_value 120 < 10 = subst (λ x. digit_value x < 10) c_is d.number.digits.1.1.0 in
          omega (arith, digit)
          )
      | false ↦ λ t. decimal_spelled (b ∷ c ∷ bs) n d
    ] refl

pub is_immediate : (w : Word) (n : ℕ) → IsDecimal w n ⊎ IsHexadecimal w n → immediate_of w ≡ Some n
is_immediate w n is = elim is [ inl d ↦ decimal_word w n d | inr h ↦ hex_word w n h ]
