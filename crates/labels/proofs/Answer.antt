-- What is answered to a text is right, and nothing else is.
use Rattle.std.proofs.Common.{◌≡◌, ℕ, zero, suc, ◌+◌, ◌*◌, ◌%◌, ◌^◌, ◌≤◌, leb, List, [], ◌∷◌, Option, Some, None, Result, Ok, Err, min, ◌-◌, refl, sym, ap, subst, ◌∙◌, arith, inl, inr, ◌⊎◌}
use Rattle.std.specs.Prelude.{Contains, ◌↔◌, bit_or}
use Rattle.std.specs.Option.{option_map}
use Rattle.std.specs.Int.{w32, bit_at}
use Rattle.std.proofs.lemmas.Nat.Bits.{bit_at_set_same, bit_at_set_other, bit_at-zero}
use Rattle.std.proofs.lemmas.Bool.{cases_lt, lt-ltb, le-ltb, lt-leb, le-leb}
use Rattle.std.proofs.lemmas.Bool.Decides.{eqb_tells}
use Rattle.std.proofs.lemmas.Option.{none-some}
use Rattle.labels.proofs.Categories.{and_false}
use Rattle.labels.specs.Label.{Label}
use Rattle.labels.specs.declared.fault.LabelFault.{LabelFault}
use Rattle.labels.specs.declared.fault.LabelFault.TheVariants.{Spelling, Level, Category}
use Rattle.labels.specs.declared.half.Rising.{Rising}
use Rattle.labels.specs.Order.{HasCategory}
use Rattle.labels.specs.Text.{Parts, HasForm, HasLevels, AreCategories, IsSetOf, IsPartsAnswer, IsAnswer}
use Rattle.labels.specs.Reading.{start, with_category, rising, seen_half, seen_form, form_of, parts_of, label_with, label_of_halves, label_of_form, read_label}
use Rattle.labels.proofs.Words.{same_bits}
use Rattle.labels.proofs.Form.{some_is, form_sound, form_complete}

-- ---- categories

pub Contains-cons_cases : (n k : ℕ) (ns : List ℕ) → Contains (n ∷ ns) k → (n ≡ k) ⊎ Contains ns k
Contains-cons_cases n k ns (zero, lt, e) = inl e
Contains-cons_cases n k ns (suc i, lt, e) = inr (i, omega arith, e)

pub Contains-here : (n : ℕ) (ns : List ℕ) → Contains (n ∷ ns) n
Contains-here n ns = (0, omega arith, refl)

pub Contains-there : (n k : ℕ) (ns : List ℕ) → Contains ns k → Contains (n ∷ ns) k
Contains-there n k ns c = (suc c.0, omega (arith, c.1), c.2)

-- the word has the categories of the first word, and those of the list
abbrev IsUnion : ℕ → List ℕ → ℕ → Type 0
IsUnion first ns word = (k : ℕ) → HasCategory word k ↔ (HasCategory first k ⊎ Contains ns k)

abbrev RisingAnswer : Rising → List ℕ → Option ℕ → Type 0
RisingAnswer c ns None = ¬ AreCategories c.next ns
RisingAnswer c ns (Some word) = AreCategories c.next ns × IsUnion c.word ns word

abbrev more : Rising → ℕ → Rising
more c n = record { word = bit_or c.word (1 * 2 ^ n % 2 ^ 32); next = n + 1 }

with_cases : (c : Rising) (n : ℕ) → ((c.next ≤ n) × (n ≤ 31) × (with_category c n ≡ Some (more c n))) ⊎ ((with_category c n ≡ None) × ¬ ((c.next ≤ n) × (n ≤ 31)))
with_cases c n = elim (cases_lt n 32) [
  | inl lt ↦ elim (cases_lt n c.next) [
    | inl below ↦ inr (rw (lt-leb c.next n below) refl, λ fits. omega (arith, fits.0))
    | inr above ↦ inl (above, omega arith, rw (le-leb c.next n above, lt-ltb n 32 lt) refl)
  ]
  | inr past ↦ inr (rw (le-ltb n 32 past, and_false (leb c.next n)) refl, λ fits. omega (arith, fits.1))
]

set_cases : (word n k : ℕ) → n ≤ 31 → HasCategory (bit_or word (1 * 2 ^ n % 2 ^ 32)) k ↔ (HasCategory word k ⊎ (n ≡ k))
set_cases word n k le = elim (eqb_tells n k) [
  | inl same ↦ (λ h. inr same.1, λ h. subst (λ i. bit_at (bit_or word (1 * 2 ^ n % 2 ^ 32)) i ≡ 1) same.1 (bit_at_set_same w32 word n (omega arith)))
  | inr other ↦
      let kept : bit_at (bit_or word (1 * 2 ^ n % 2 ^ 32)) k ≡ bit_at word k = bit_at_set_other w32 word n (omega arith) k (λ e. other.1 (sym e)) in
      (λ h. inl (sym kept ∙ h), λ h. elim h [ inl old ↦ kept ∙ old | inr e ↦ absurd (other.1 e) ])
]

rising_more : (c : Rising) (n : ℕ) (ns : List ℕ) (o : Option ℕ) → c.next ≤ n → n ≤ 31 → RisingAnswer (more c n) ns o → RisingAnswer c (n ∷ ns) o
rising_more c n ns None low high a = λ all. a all.2
rising_more c n ns (Some word) low high a = (
  (low, high, a.0),
  λ k.
      let set = set_cases c.word n k high in (
        λ h. elim ((a.1 k).0 h) [
          | inl old ↦ elim (set.0 old) [ inl first ↦ inl first | inr e ↦ inr (subst (Contains (n ∷ ns)) e (Contains-here n ns)) ]
          | inr later ↦ inr (Contains-there n k ns later)
        ],
        λ h. elim h [
          | inl first ↦ (a.1 k).1 (inl (set.1 (inl first)))
          | inr listed ↦ elim (Contains-cons_cases n k ns listed) [
            | inl e ↦ (a.1 k).1 (inl (set.1 (inr e)))
            | inr later ↦ (a.1 k).1 (inr later)
          ]
        ],
      ),
)

rising_answer : (c : Rising) (ns : List ℕ) → RisingAnswer c ns (rising (Some c) ns)
rising_answer c [] = (tt, λ k. (λ h. inl h, λ h. elim h [ inl first ↦ first | inr listed ↦ absurd (omega (arith, listed.1)) ]))
rising_answer c (n ∷ ns) = elim (with_cases c n) [
  | inl fits ↦ subst (λ o. RisingAnswer c (n ∷ ns) (rising o ns)) (sym fits.2) (rising_more c n ns (rising (Some (more c n)) ns) fits.0 fits.1 (rising_answer (more c n) ns))
  | inr not ↦ subst (λ o. RisingAnswer c (n ∷ ns) (rising o ns)) (sym not.0) (λ all. not.1 (all.0, all.1))
]

categories_some : (ns : List ℕ) (word : ℕ) → rising (Some start) ns ≡ Some word → AreCategories 0 ns × IsSetOf ns word
categories_some ns word e =
    let a = subst (RisingAnswer start ns) e (rising_answer start ns) in
    (a.0, λ k. (λ h. elim ((a.1 k).0 h) [ inl first ↦ absurd (omega (arith, first, bit_at-zero k)) | inr listed ↦ listed ], λ listed. (a.1 k).1 (inr listed)))

categories_none : (ns : List ℕ) → rising (Some start) ns ≡ None → ¬ AreCategories 0 ns
categories_none ns e = subst (RisingAnswer start ns) e (rising_answer start ns)

-- ---- the answer

abbrev Halves : Type 0
Halves = (ℕ × List ℕ) × (ℕ × List ℕ)

with_answer : (h : Halves) (a b : Option ℕ) → HasLevels (parts_of h) → rising (Some start) h.0.1 ≡ a → rising (Some start) h.1.1 ≡ b → IsPartsAnswer (parts_of h) (label_with (min h.0.0 (2 ^ 64 - 1)) (min h.1.0 (2 ^ 64 - 1)) a b)
with_answer h (Some v) (Some w) levels e f = record {
  levels = levels;
  secrecy_level = omega (arith, levels.0);
  secrecy_cats = categories_some h.0.1 v e;
  integrity_level = omega (arith, levels.1);
  integrity_cats = categories_some h.1.1 w f;
}
with_answer h (Some v) None levels e f = (levels, λ both. categories_none h.1.1 f both.1)
with_answer h None b levels e f = (levels, λ both. categories_none h.0.1 e both.0)

halves_answer : (h : Halves) → IsPartsAnswer (parts_of h) (label_of_halves (seen_half h.0) (seen_half h.1))
halves_answer h = elim (cases_lt 15 (min h.0.0 (2 ^ 64 - 1))) [
  | inl high ↦ rw (lt-ltb 15 (min h.0.0 (2 ^ 64 - 1)) high) (λ levels. omega (arith, high, levels.0))
  | inr low ↦ elim (cases_lt 15 (min h.1.0 (2 ^ 64 - 1))) [
    | inl high ↦ rw (le-ltb 15 (min h.0.0 (2 ^ 64 - 1)) low, lt-ltb 15 (min h.1.0 (2 ^ 64 - 1)) high) (λ levels. omega (arith, high, levels.1))
    | inr both ↦ rw (le-ltb 15 (min h.0.0 (2 ^ 64 - 1)) low, le-ltb 15 (min h.1.0 (2 ^ 64 - 1)) both) (with_answer h (rising (Some start) h.0.1) (rising (Some start) h.1.1) (omega (arith, low), omega (arith, both)) refl refl)
  ]
]

from_parts : (text : List ℕ) (p : Parts) (r : Result Label LabelFault) → HasForm text p → IsPartsAnswer p r → IsAnswer text r
from_parts text p (Ok l) form a = (p, form, a)
from_parts text p (Err Spelling) form a = absurd a
from_parts text p (Err Level) form a = (p, form, a)
from_parts text p (Err Category) form a = (p, form, a)

abbrev halves_in : Parts → Halves
halves_in p = ((p.secrecy_level, p.secrecy_cats), (p.integrity_level, p.integrity_cats))

form_answer : (text : List ℕ) (o : Option Halves) → form_of text ≡ o → IsAnswer text (label_of_form (option_map seen_form o))
form_answer text (Some h) e = from_parts text (parts_of h) (label_of_halves (seen_half h.0) (seen_half h.1)) (form_sound text h e) (halves_answer h)
form_answer text None e = λ p form. absurd (none-some (halves_in p) (sym e ∙ form_complete text (halves_in p) form))

-- what is read is the answer
pub read_answer : (text : List ℕ) → IsAnswer text (read_label text)
unfolding read_label
read_answer text = form_answer text (form_of text) refl

-- ---- no other answer

same_parts : (text : List ℕ) (p q : Parts) → HasForm text p → HasForm text q → p ≡ q
same_parts text p q a b = ap parts_of (some_is (halves_in p) (halves_in q) (sym (form_complete text (halves_in p) a) ∙ form_complete text (halves_in q) b))

same_word : (ns : List ℕ) (v w : ℕ) → IsSetOf ns v → IsSetOf ns w → v ≡ w
same_word ns v w a b = same_bits v w (λ k h. (b k).1 ((a k).0 h)) (λ k h. (a k).1 ((b k).0 h))

pub same_label : (l m : Label) → l.secrecy_level ≡ m.secrecy_level → l.secrecy_cats ≡ m.secrecy_cats → l.integrity_level ≡ m.integrity_level → l.integrity_cats ≡ m.integrity_cats → l ≡ m
same_label l m s sc i ic =
    ap (λ x. record l { secrecy_level = x }) s
    ∙ ap (λ x. record l { secrecy_level = m.secrecy_level; secrecy_cats = x }) sc
    ∙ ap (λ x. record l { secrecy_level = m.secrecy_level; secrecy_cats = m.secrecy_cats; integrity_level = x }) i
    ∙ ap (λ x. record m { integrity_cats = x }) ic

parts_only : (p : Parts) (r s : Result Label LabelFault) → IsPartsAnswer p r → IsPartsAnswer p s → r ≡ s
parts_only p (Ok l) (Ok m) a b = ap Ok (same_label l m (a.secrecy_level ∙ sym b.secrecy_level) (same_word p.secrecy_cats l.secrecy_cats m.secrecy_cats a.secrecy_cats.1 b.secrecy_cats.1) (a.integrity_level ∙ sym b.integrity_level) (same_word p.integrity_cats l.integrity_cats m.integrity_cats a.integrity_cats.1 b.integrity_cats.1))
parts_only p (Ok l) (Err Spelling) a b = absurd b
parts_only p (Ok l) (Err Level) a b = absurd (b a.levels)
parts_only p (Ok l) (Err Category) a b = absurd (b.1 (a.secrecy_cats.0, a.integrity_cats.0))
parts_only p (Err Spelling) s a b = absurd a
parts_only p (Err Level) (Ok m) a b = absurd (a b.levels)
parts_only p (Err Level) (Err Spelling) a b = absurd b
parts_only p (Err Level) (Err Level) a b = refl
parts_only p (Err Level) (Err Category) a b = absurd (a b.0)
parts_only p (Err Category) (Ok m) a b = absurd (a.1 (b.secrecy_cats.0, b.integrity_cats.0))
parts_only p (Err Category) (Err Spelling) a b = absurd b
parts_only p (Err Category) (Err Level) a b = absurd (b a.0)
parts_only p (Err Category) (Err Category) a b = refl

-- no form, or the answer to its numbers
cases : (text : List ℕ) (r : Result Label LabelFault) → IsAnswer text r → ((r ≡ Err Spelling) × ((p : Parts) → HasForm text p → ⊥)) ⊎ ((p : Parts) × HasForm text p × IsPartsAnswer p r)
cases text (Ok l) a = inr a
cases text (Err Spelling) a = inl (refl, a)
cases text (Err Level) a = inr a
cases text (Err Category) a = inr a

pub answer_only : (text : List ℕ) (r s : Result Label LabelFault) → IsAnswer text r → IsAnswer text s → r ≡ s
answer_only text r s a b = elim (cases text r a) [
  | inl x ↦ elim (cases text s b) [ inl y ↦ x.0 ∙ sym y.0 | inr y ↦ absurd (x.1 y.0 y.1) ]
  | inr x ↦ elim (cases text s b) [
    | inl y ↦ absurd (y.1 x.0 x.1)
    | inr y ↦ parts_only x.0 r s x.2 (subst (λ q. IsPartsAnswer q s) (same_parts text y.0 x.0 y.1 x.1) y.2)
  ]
]

pub read_only : (text : List ℕ) (r s : Result Label LabelFault) → r ≡ read_label text → IsAnswer text s → s ≡ r
read_only text r s e a = answer_only text s (read_label text) a (read_answer text) ∙ sym e

pub read_right : (text : List ℕ) (r : Result Label LabelFault) → r ≡ read_label text → IsAnswer text r
read_right text r e = subst (IsAnswer text) (sym e) (read_answer text)

pub ruleset answers = (read_only, read_right)
