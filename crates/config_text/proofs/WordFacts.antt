-- Words that are tested, and what they spell.
use Rattle.std.proofs.Common.{◌≡◌, ℕ, suc, ◌+◌, ◌-◌, ◌^◌, ◌<◌, ◌≤◌, Bool, true, false, not, cond, eqb, ltb, leb, ◌&&◌, ◌||◌, List, [], ◌∷◌, ◌++◌, length, Option, Some, None, Result, Ok, Err, min, refl, sym, ap, subst, ◌∙◌, arith}
use Rattle.std.specs.Prelude.{is_err, codes}
use Rattle.std.specs.Result.{result_unwrap_or, result_ok}
use Rattle.std.specs.List.{list_any, AllByRecursion}
use Rattle.std.specs.Option.{option_and_then, is_none}
use Rattle.std.specs.Str.{bytes_eq}
use Rattle.std.specs.Str.Parse.{AllDigits}
use Rattle.std.proofs.lemmas.Bool.{and_parts, and_from, leb-true, ltb-true, leb-false, ltb-false, lt-ltb, le-leb, le-ltb, lt-leb, ne_eqb, eqb-true}
use Rattle.std.proofs.lemmas.Slice.Eq.{bytes_eq-Decides}
use Rattle.std.proofs.lemmas.Str.Parse.{digit_from_value}
use Rattle.text_lines.specs.declared.decimal.NumberFault.{NumberFault}
use Rattle.text_lines.specs.declared.decimal.NumberFault.TheVariants as fault
use Rattle.text_lines.specs.Number.{IsNumber, IsNumberAnswer, number_of, misspelt, value_of}
use Rattle.text_lines.specs.Lines.{cut}
use Rattle.text_lines.proofs.Numbers.{number_answer}
use Rattle.text_lines.proofs.Cuts.{HasNone, cut_at, cut_some_split}
use Rattle.labels.specs.Label.{Label}
use Rattle.labels.specs.Text.{IsAnswer, Spells as SpellsLabel}
use Rattle.labels.specs.Reading.{read_label, label_of_text}
use Rattle.labels.specs.declared.fault.LabelFault.{LabelFault}
use Rattle.labels.proofs.Answer.{read_answer, read_only}
use Rattle.labels.proofs.Form.{no_byte}
use Rattle.config_text.specs.Rules.{Text, is_outside, has_byte, EventParts, event_parts}

-- ---- tests

pub not_false : (b : Bool) → not b ≡ false → b ≡ true
not_false true e = refl
not_false false e = absurd cc

pub not_true : (b : Bool) → not b ≡ true → b ≡ false
not_true false e = refl
not_true true e = absurd cc

pub or_false : (a b : Bool) → (a || b) ≡ false → (a ≡ false) × (b ≡ false)
or_false true b e = absurd cc
or_false false b e = (refl, e)

pub is_fixed : (w text : Text) → not (bytes_eq w text) ≡ false → w ≡ text
is_fixed w text e = (bytes_eq-Decides w text).0 (not_false (bytes_eq w text) e)

pub same_text : (w text : Text) → w ≡ text → bytes_eq w text ≡ true
same_text w text e = (bytes_eq-Decides w text).1 e

pub in_range : (low high n : ℕ) → is_outside low high n ≡ false → (low ≤ n) × (n ≤ high)
in_range low high n e = let both = or_false (ltb n low) (ltb high n) e in (ltb-false _ _ both.0, ltb-false _ _ both.1)

pub range_in : (low high n : ℕ) → low ≤ n → n ≤ high → is_outside low high n ≡ false
range_in low high n le ge = rw (le-ltb n low le, le-ltb high n ge) refl

-- ---- numbers

answered : (w : Text) (r : Result ℕ NumberFault) → IsNumberAnswer w r → is_err r ≡ false → IsNumber w (result_unwrap_or r 0) × (result_unwrap_or r 0 < 2 ^ 64)
answered w (Ok n) a e = a
answered w (Err f) a e = absurd cc

pub is_spelled : (w : Text) → misspelt w ≡ false → IsNumber w (value_of w)
is_spelled w e = (answered w (number_of w) (number_answer w) e).0

pub value_low : (w : Text) → misspelt w ≡ false → value_of w < 2 ^ 64
value_low w e = (answered w (number_of w) (number_answer w) e).1

-- a word that spells the number
pub record IsValueOf (w : Text) (n : ℕ) : Type 0 where
  pub spelled : misspelt w ≡ false
  pub value : value_of w ≡ n

number_cases : (w : Text) (r : Result ℕ NumberFault) (n : ℕ) → number_of w ≡ r → IsNumberAnswer w r → IsNumber w n → n < 2 ^ 64 → IsValueOf w n
number_cases w (Ok m) n e a is lt = record { spelled = ap is_err e; value = ap (λ r. result_unwrap_or r 0) e ∙ sym a.0.value ∙ is.value }
number_cases w (Err fault.Large) n e a is lt = absurd (omega (arith, a.1.value, is.value, a.2, lt))
number_cases w (Err fault.Spelling) n e a is lt = absurd (a n is)

pub value_is : (w : Text) (n : ℕ) → IsNumber w n → n < 2 ^ 64 → IsValueOf w n
value_is w n is lt = number_cases w (number_of w) n refl (number_answer w) is lt

-- ---- labels

label_cases : (w : Text) (r : Result Label LabelFault) (l : Label) → IsAnswer w r → result_ok r ≡ Some l → SpellsLabel w l
label_cases w (Ok m) l a e = let same : m ≡ l = cc in subst (SpellsLabel w) same a
label_cases w (Err f) l a e = absurd cc

pub label_spelled : (w : Text) (l : Label) → label_of_text w ≡ Some l → SpellsLabel w l
label_spelled w l e = label_cases w (read_label w) l (read_answer w) e

pub label_read : (w : Text) (l : Label) → SpellsLabel w l → label_of_text w ≡ Some l
label_read w l s = ap result_ok (sym (read_only w (read_label w) (Ok l) refl s))

-- ---- event words

abbrev pair : Text → Text → Option (Text × Text)
pair x y = Some (x, y)

-- the parts where the word is cut so
abbrev parts_from : Text × Text → Option (Text × Text) → Option EventParts
parts_from front o = option_and_then (λ back. cond (has_byte 46 front.1 || has_byte 42 back.1) None (Some (record { processor = front.0; class = back.0; count = back.1 }))) o

abbrev parts_of : Option (Text × Text) → Option EventParts
parts_of o = option_and_then (λ front. parts_from front (cut 42 front.1)) o

inner : (w : Text) (x y : Text) (o : Option (Text × Text)) (e : EventParts) → cut 42 y ≡ o → parts_from (x, y) o ≡ Some e → (x ≡ e.processor) × (y ≡ e.class ++ 42 ∷ e.count)
inner w x y None e is some = absurd cc
inner w x y (Some back) e is some =
    elim (has_byte 46 y || has_byte 42 back.1) as (λ b. cond b None (Some (record { processor = x; class = back.0; count = back.1 })) ≡ Some e → (x ≡ e.processor) × (y ≡ e.class ++ 42 ∷ e.count)) [
      | true ↦ λ none. absurd cc
      | false ↦ λ same.
          let whole : y ≡ back.0 ++ 42 ∷ back.1 = (cut_some_split 42 y back.0 back.1 is).1 in
          let a : x ≡ e.processor = cc in
          let b : back.0 ≡ e.class = cc in
          let c : back.1 ≡ e.count = cc in
          (a, whole ∙ ap (λ (t : Text). t ++ 42 ∷ back.1) b ∙ ap (λ (t : Text). e.class ++ 42 ∷ t) c)
    ] some

outer : (w : Text) (o : Option (Text × Text)) (e : EventParts) → cut 46 w ≡ o → parts_of o ≡ Some e → w ≡ e.processor ++ 46 ∷ (e.class ++ 42 ∷ e.count)
outer w None e is some = absurd cc
outer w (Some front) e is some =
    let i = inner w front.0 front.1 (cut 42 front.1) e refl some in
    (cut_some_split 46 w front.0 front.1 is).1 ∙ ap (λ (t : Text). t ++ 46 ∷ front.1) i.0 ∙ ap (λ (t : Text). e.processor ++ 46 ∷ t) i.1

-- a word with its parts is these, with `.` and `*` between
pub event_whole : (w : Text) (e : EventParts) → event_parts w ≡ Some e → w ≡ e.processor ++ 46 ∷ (e.class ++ 42 ∷ e.count)
event_whole w e some = outer w (cut 46 w) e refl some

-- no digit is such a byte
no_digit : (c : ℕ) (w : Text) (n : ℕ) → c < 48 → IsNumber w n → HasNone c w
no_digit c w n low is = no_byte c w is.digits.1 (λ d le. let range = digit_from_value d le in ne_eqb d c (λ same. omega (arith, range.0, same)))

lacks : (c : ℕ) (w : Text) → HasNone c w → has_byte c w ≡ false
lacks c [] none = refl
lacks c (b ∷ bs) none = rw (none.0, lacks c bs none.1) refl

none_joined : (c : ℕ) (x y : Text) → HasNone c x → HasNone c y → HasNone c (x ++ y)
none_joined c [] y a b = b
none_joined c (z ∷ zs) y a b = (a.0, none_joined c zs y a.1 b)

-- and three numbers with `.` and `*` between have these parts
pub event_joined : (a b d : Text) (p c n : ℕ) → IsNumber a p → IsNumber b c → IsNumber d n → event_parts (a ++ 46 ∷ (b ++ 42 ∷ d)) ≡ Some (record { processor = a; class = b; count = d })
event_joined a b d p c n ia ib id =
    rw (
      cut_at 46 a (b ++ 42 ∷ d) (no_digit 46 a p (omega arith) ia),
      cut_at 42 b d (no_digit 42 b c (omega arith) ib),
      lacks 46 (b ++ 42 ∷ d) (none_joined 46 b (42 ∷ d) (no_digit 46 b c (omega arith) ib) (refl, no_digit 46 d n (omega arith) id)),
      lacks 42 d (no_digit 42 d n (omega arith) id),
    ) refl
