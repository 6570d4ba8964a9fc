-- Printed numbers and lists of them.
use Rattle.std.proofs.Common.{◌≡◌, ℕ, zero, suc, ◌+◌, ◌/◌, ◌%◌, ◌^◌, ◌<◌, ◌≤◌, Bool, true, false, cond, eqb, ◌||◌, List, [], ◌∷◌, ◌++◌, length, get_or, refl, sym, ap, ◌∙◌, append_assoc, arith, inl, inr, add-one}
use Rattle.std.specs.Prelude.{Contains, ◌↔◌}
use Rattle.std.specs.Int.{bit_at}
use Rattle.std.specs.Fmt.{decimal}
use Rattle.std.specs.List.{slice_split, AllZip, AllByRecursion}
use Rattle.std.proofs.lemmas.Bool.{cases_lt, eqb-true, eqb-false, ne_eqb}
use Rattle.std.proofs.lemmas.Bool.Decides.{eqb_tells}
use Rattle.std.proofs.lemmas.Str.Parse.{digit_from_value}
use Rattle.std.proofs.lemmas.List.Splits.{slice_split_none}
use Rattle.std.proofs.lemmas.List.Elements.{All-from_recursion, Contains-append_cases, Contains-append_left, Contains-push}
use Rattle.std.proofs.lemmas.List.{append-nil, length-append}
use Rattle.std.proofs.lemmas.Fmt.{decimal_digit, decimal_step, decimal_is_IsNumeral, first_decimal, decimal_nonempty}
use Rattle.std.proofs.lemmas.Nat.Bits.{bit_at_above}
use Rattle.text_lines.specs.Number.{IsNumber}
use Rattle.text_lines.proofs.Cuts.{HasNone, cut_at, cut_some_split}
use Rattle.labels.specs.Label.{Label}
use Rattle.labels.specs.Order.{HasCategory, IsLabel}
use Rattle.labels.specs.Text.{pieces, AreNumbers, IsHalf, AreCategories, IsSetOf, Spells}
use Rattle.labels.proofs.Form.{no_byte}
use Rattle.labels.proofs.Answer.{Contains-cons_cases}
use Rattle.labels.specs.Spelling.{listed, joined, half_text, label_text}
use Rattle.labels.specs.Printing.{has_any, addition}

-- ---- numbers below 100

pub one_digit : (n : ℕ) (bytes : List ℕ) → n < 10 → bytes ++ decimal n ≡ bytes ++ (48 + n) ∷ []
one_digit n bytes lt = rw (decimal_digit n lt) refl

pub two_digits : (n : ℕ) (bytes : List ℕ) → 10 ≤ n → n < 100 → bytes ++ decimal n ≡ (bytes ++ (48 + n / 10) ∷ []) ++ (48 + n % 10) ∷ []
two_digits n bytes low high =
    rw (decimal_step n low (omega arith), decimal_digit (n / 10) (omega arith)) (sym (append_assoc bytes ((48 + n / 10) ∷ []) ((48 + n % 10) ∷ [])))

pub ruleset decimals = (one_digit, two_digits)

or_false : (b : Bool) → b ≡ (b || false)
or_false true = refl
or_false false = refl

-- ---- lists

joined_first : (ns : List ℕ) (n : ℕ) → has_any ns ≡ false → joined (ns ++ n ∷ []) ≡ joined ns ++ decimal n
joined_first [] n e = refl
joined_first (m ∷ ms) n e = absurd cc

joined_next : (ns : List ℕ) (n : ℕ) → has_any ns ≡ true → joined (ns ++ n ∷ []) ≡ joined ns ++ 44 ∷ decimal n
joined_next [] n e = absurd cc
joined_next (m ∷ []) n e = refl
joined_next (m ∷ k ∷ ms) n e = ap (λ (t : List ℕ). decimal m ++ 44 ∷ t) (joined_next (k ∷ ms) n refl) ∙ sym (append_assoc (decimal m) (44 ∷ joined (k ∷ ms)) (44 ∷ decimal n))

any_more : (ns : List ℕ) (n : ℕ) → has_any (ns ++ n ∷ []) ≡ true
any_more [] n = refl
any_more (m ∷ ms) n = refl

added : (ns : List ℕ) (n : ℕ) (set : Bool) → (joined (ns ++ cond set (n ∷ []) []) ≡ joined ns ++ addition (has_any ns) set n) × (has_any (ns ++ cond set (n ∷ []) []) ≡ (has_any ns || set))
added ns n false = (rw append-nil (sym (append-nil (joined ns))), rw append-nil (or_false (has_any ns)))
added [] n true = (refl, refl)
added (m ∷ ms) n true = (joined_next (m ∷ ms) n refl, refl)

pub listed_more : (i word : ℕ) → (joined (listed (i + 1) word) ≡ joined (listed i word) ++ addition (has_any (listed i word)) (eqb (bit_at word i) 1) i) × (has_any (listed (i + 1) word) ≡ (has_any (listed i word) || eqb (bit_at word i) 1))
unfolding listed
listed_more i word = rw add-one (added (listed i word) i (eqb (bit_at word i) 1))

pub listed_none : (word : ℕ) → listed 0 word ≡ []
unfolding listed
listed_none word = refl

pub ruleset lists = (listed_more, listed_none)

-- ---- what is printed is spelled

plain_decimal : (n : ℕ) → n < 2 ^ 64 → get_or (decimal n) 0 0 ≡ 48 → length (decimal n) ≡ 1
plain_decimal n lt zero_first = elim (cases_lt 0 n) [
  | inl some ↦ absurd (omega (arith, first_decimal n some lt))
  | inr none ↦ let same : n ≡ 0 = omega arith in rw (same, decimal_digit 0 (omega arith)) refl
]

is_number : (n : ℕ) → n < 2 ^ 64 → IsNumber (decimal n) n
is_number n lt = let d = decimal_is_IsNumeral n lt in record { digits = d.0; plain = plain_decimal n lt; value = d.1 }

abbrev Fits : List ℕ → Type 0
Fits ns = AllByRecursion (λ n. n < 2 ^ 64) ns

no_comma : (n : ℕ) → n < 2 ^ 64 → HasNone 44 (decimal n)
no_comma n lt = no_byte 44 (decimal n) (decimal_is_IsNumeral n lt).0.1 (λ d low. let range = digit_from_value d low in ne_eqb d 44 (λ same. omega (arith, range.0, range.1)))

split_joined : (n : ℕ) (ns : List ℕ) → Fits (n ∷ ns) → AllZip IsNumber (slice_split (λ c. eqb c 44) (joined (n ∷ ns))) (n ∷ ns)
split_joined n [] fits =
    rw (slice_split_none (λ c. eqb c 44) (decimal n) (All-from_recursion (λ c. eqb c 44 ≡ false) (decimal n) (no_comma n fits.0))) (is_number n fits.0, tt)
split_joined n (m ∷ ms) fits =
    let cut = cut_some_split 44 (decimal n ++ 44 ∷ joined (m ∷ ms)) (decimal n) (joined (m ∷ ms)) (cut_at 44 (decimal n) (joined (m ∷ ms)) (no_comma n fits.0)) in
    rw cut.0 (is_number n fits.0, split_joined m ms fits.1)

pieces_some : (text : List ℕ) → 0 < length text → pieces text ≡ slice_split (λ c. eqb c 44) text
pieces_some [] some = absurd (omega arith)
pieces_some (b ∷ bs) some = refl

joined_some : (n : ℕ) (ns : List ℕ) → n < 2 ^ 64 → 0 < length (joined (n ∷ ns))
joined_some n [] lt = decimal_nonempty n lt
joined_some n (m ∷ ms) lt = omega (arith, length-append (decimal n) (44 ∷ joined (m ∷ ms)))

pub joined_numbers : (ns : List ℕ) → Fits ns → AreNumbers (joined ns) ns
joined_numbers [] fits = tt
joined_numbers (n ∷ ns) fits = rw (pieces_some (joined (n ∷ ns)) (joined_some n ns fits.0)) (split_joined n ns fits)

only_one : (i k : ℕ) → Contains (i ∷ []) k → i ≡ k
only_one i k c = elim (Contains-cons_cases i k [] c) [ inl same ↦ same | inr none ↦ absurd (omega (arith, none.1)) ]

-- ---- the categories of a word

abbrev pub Below : ℕ → List ℕ → Type 0
Below i ns = AllByRecursion (λ n. n < i) ns

rising_push : (low n : ℕ) (ns : List ℕ) → AreCategories low ns → Below n ns → low ≤ n → n ≤ 31 → AreCategories low (ns ++ n ∷ [])
rising_push low n [] rise below le high = (le, high, tt)
rising_push low n (m ∷ ms) rise below le high = (rise.0, rise.1, rising_push (m + 1) n ms rise.2 below.1 (omega (arith, below.0)) high)

below_push : (i n : ℕ) (ns : List ℕ) → Below i ns → n < suc i → i ≤ n → Below (suc i) (ns ++ n ∷ [])
below_push i n [] below lt le = (lt, tt)
below_push i n (m ∷ ms) below lt le = (omega (arith, below.0), below_push i n ms below.1 lt le)

below_more : (i : ℕ) (ns : List ℕ) → Below i ns → Below (suc i) ns
below_more i [] below = tt
below_more i (m ∷ ms) below = (omega (arith, below.0), below_more i ms below.1)

pub listed_rises : (i word : ℕ) → i ≤ 32 → AreCategories 0 (listed i word) × Below i (listed i word)
unfolding listed
listed_rises zero word le = (tt, tt)
listed_rises (suc i) word le =
    let so_far = listed_rises i word (omega arith) in
    elim (eqb (bit_at word i) 1) as (λ t. AreCategories 0 (listed i word ++ cond t (i ∷ []) []) × Below (suc i) (listed i word ++ cond t (i ∷ []) [])) [
      | true ↦ (rising_push 0 i (listed i word) so_far.0 so_far.1 (omega arith) (omega arith), below_push i i (listed i word) so_far.1 (omega arith) (omega arith))
      | false ↦ rw append-nil (so_far.0, below_more i (listed i word) so_far.1)
    ]

below_fits : (ns : List ℕ) → Below 32 ns → Fits ns
below_fits [] below = tt
below_fits (m ∷ ms) below = (omega (arith, below.0), below_fits ms below.1)

-- just the categories below i that the word has
unfoldable pub IsListed : ℕ → ℕ → List ℕ → Type 0
IsListed i word ns = (k : ℕ) → Contains ns k ↔ ((k < i) × HasCategory word k)

listed_cases : (i word : ℕ) (ns : List ℕ) (t : Bool) → eqb (bit_at word i) 1 ≡ t → IsListed i word ns → IsListed (suc i) word (ns ++ cond t (i ∷ []) [])
unfolding IsListed
listed_cases i word ns true e so_far k = (
  λ c. elim (Contains-append_cases ns (i ∷ []) k c) [
    | inl old ↦ let p = (so_far k).0 old in (omega (arith, p.0), p.1)
    | inr new ↦ let same = only_one i k new in (omega arith, rw (← same) (eqb-true _ _ e))
  ],
  λ p. elim (eqb_tells i k) [
    | inl same ↦ rw (← same.1) (Contains-push ns i)
    | inr other ↦ Contains-append_left ns (i ∷ []) k ((so_far k).1 (omega (arith, p.0, other.1), p.1))
  ],
)
listed_cases i word ns false e so_far k = rw append-nil (
  λ c. let p = (so_far k).0 c in (omega (arith, p.0), p.1),
  λ p. elim (eqb_tells i k) [
    | inl same ↦ absurd (eqb-false _ _ e (rw same.1 p.1))
    | inr other ↦ (so_far k).1 (omega (arith, p.0, other.1), p.1)
  ],
)

pub listed_is : (i word : ℕ) → IsListed i word (listed i word)
unfolding IsListed listed
listed_is zero word k = (λ c. absurd (omega (arith, c.1)), λ p. absurd (omega (arith, p.0)))
listed_is (suc i) word k = listed_cases i word (listed i word) (eqb (bit_at word i) 1) refl (listed_is i word) k

pub listed_set : (word : ℕ) → word < 2 ^ 32 → IsSetOf (listed 32 word) word
unfolding IsListed
listed_set word lt k = (
  λ h. elim (cases_lt k 32) [ inl below ↦ (listed_is 32 word k).1 (below, h) | inr above ↦ absurd (omega (arith, h, bit_at_above word 32 k lt above)) ],
  λ c. ((listed_is 32 word k).0 c).1,
)

pub half_is : (level word : ℕ) → level ≤ 15 → IsHalf (half_text level word) level (listed 32 word)
half_is level word le = record { level_text = decimal level; cats_text = joined (listed 32 word); whole = refl; level_is = is_number level (omega arith); cats_are = joined_numbers (listed 32 word) (below_fits (listed 32 word) (listed_rises 32 word (omega arith)).1) }

-- the text of a label spells it
pub text_is : (l : Label) → IsLabel l → Spells (label_text l) l
unfolding label_text
text_is l is = (
  record { secrecy_level = l.secrecy_level; secrecy_cats = listed 32 l.secrecy_cats; integrity_level = l.integrity_level; integrity_cats = listed 32 l.integrity_cats },
  record { secrecy_text = half_text l.secrecy_level l.secrecy_cats; integrity_text = half_text l.integrity_level l.integrity_cats; whole = refl; secrecy = half_is l.secrecy_level l.secrecy_cats is.secrecy_level; integrity = half_is l.integrity_level l.integrity_cats is.integrity_level },
  record { levels = (is.secrecy_level, is.integrity_level); secrecy_level = refl; secrecy_cats = ((listed_rises 32 l.secrecy_cats (omega arith)).0, listed_set l.secrecy_cats is.secrecy_cats); integrity_level = refl; integrity_cats = ((listed_rises 32 l.integrity_cats (omega arith)).0, listed_set l.integrity_cats is.integrity_cats) },
)
