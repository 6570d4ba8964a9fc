-- Category words as sets.
use Rattle.std.proofs.Common.{◌≡◌, ℕ, ◌<◌, ◌≤◌, ◌+◌, ◌^◌, inl, inr, min, max, refl, sym, ap, ◌∙◌, arith, zero, suc, Bool, true, false, not, ◌||◌, eqb}
use Rattle.std.specs.Prelude.{bit_and, bit_or, ◌↔◌, IsTrue, ◌==◌}
use Rattle.std.specs.Int.{bit_at}
use Rattle.std.specs.List.{list_all}
use Rattle.std.proofs.lemmas.Nat.Bits.{bit_at_and, bit_at_or, same_from_bits, bit_at-lt, bit_at_above}
use Rattle.std.proofs.lemmas.Bool.{eqb-true, cases_lt, and_parts, and_from}
use Rattle.std.proofs.Common.{eq-eqb}
use Rattle.lists.specs.Lists.{numbers_from}
use Rattle.labels.specs.Label.{includes, has_category}
use Rattle.labels.specs.Order.{Includes}

-- ---- a test of each number below 32

all_numbers : (p : ℕ → Bool) (start count : ℕ) → list_all p (numbers_from start count) ≡ true → (k : ℕ) → start ≤ k → k < start + count → p k ≡ true
all_numbers p start zero e k low high = absurd (omega arith)
all_numbers p start (suc count) e k low high =
    let both = and_parts (p start) (list_all p (numbers_from (start + 1) count)) e in
    elim (cases_lt start k) [
      | inl lt ↦ all_numbers p (start + 1) count both.1 k (omega arith) (omega arith)
      | inr le ↦ let same : start ≡ k = omega arith in rw (← same) both.0
    ]

numbers_all : (p : ℕ → Bool) (start count : ℕ) → ((k : ℕ) → start ≤ k → k < start + count → p k ≡ true) → list_all p (numbers_from start count) ≡ true
numbers_all p start zero each = refl
numbers_all p start (suc count) each =
    and_from _ _ (each start (omega arith) (omega arith)) (numbers_all p (start + 1) count (λ k low high. each k (omega arith) (omega arith)))

implies_true : (a b : Bool) → (not b || a) ≡ true → b ≡ true → a ≡ true
implies_true a true e is = e
implies_true a false e is = absurd cc

true_implies : (a b : Bool) → (b ≡ true → a ≡ true) → (not b || a) ≡ true
true_implies a true f = f refl
true_implies a false f = refl

pub includes_relation : (a b : ℕ) → includes a b ≡ true → Includes a b
includes_relation a b e = λ k lt h.
    let one = all_numbers (λ i. not (has_category b i) || has_category a i) 0 32 e k (omega arith) (omega arith) in
    eqb-true _ _ (implies_true (has_category a k) (has_category b k) one (eq-eqb _ _ h))

pub relation_includes : (a b : ℕ) → Includes a b → includes a b ≡ true
relation_includes a b h =
    numbers_all (λ i. not (has_category b i) || has_category a i) 0 32 (λ k low high. true_implies (has_category a k) (has_category b k) (λ is. eq-eqb _ _ (h k (omega (arith, high)) (eqb-true _ _ is))))

-- ---- bits

below_one : (a b : ℕ) → a < 2 → b < 2 → (b ≡ 1 → a ≡ 1) → min a b ≡ b
below_one zero zero la lb h = refl
below_one zero (suc b) la lb h = absurd (omega (arith, h (omega arith)))
below_one (suc a) b la lb h = omega arith

-- a word below 2 ^ 32 has no category above 31
bounded : (a b : ℕ) → b < 2 ^ 32 → Includes a b → (k : ℕ) → bit_at b k ≡ 1 → bit_at a k ≡ 1
bounded a b fits h k is = elim (cases_lt k 32) [
  | inl lt ↦ h k lt is
  | inr le ↦ absurd (omega (arith, is, bit_at_above b 32 k fits le))
]

pub Includes-and : (a b : ℕ) → b < 2 ^ 32 → Includes a b → bit_and a b ≡ b
Includes-and a b fits h = same_from_bits (bit_and a b) b (λ i. bit_at_and a b i ∙ below_one (bit_at a i) (bit_at b i) (bit_at-lt a i) (bit_at-lt b i) (bounded a b fits h i))

pub and-Includes : (a b : ℕ) → bit_and a b ≡ b → Includes a b
and-Includes a b e = λ k lt h. omega (arith, bit_at_and a b k, ap (λ w. bit_at w k) e, bit_at-lt a k, h)

pub Includes-decides : (a b : ℕ) → b < 2 ^ 32 → IsTrue (bit_and a b == b) ↔ Includes a b
Includes-decides a b fits = (λ t. and-Includes a b (eqb-true _ _ t), λ h. eq-eqb _ _ (Includes-and a b fits h))

same_tests : (s t : Bool) → (s ≡ true → t ≡ true) → (t ≡ true → s ≡ true) → s ≡ t
same_tests true t f g = sym (f refl)
same_tests false true f g = g refl
same_tests false false f g = refl

pub includes_twin : (a b : ℕ) → b < 2 ^ 32 → eqb (bit_and a b) b ≡ includes a b
includes_twin a b fits = same_tests (eqb (bit_and a b) b) (includes a b) (λ e. relation_includes a b (and-Includes a b (eqb-true _ _ e))) (λ e. eq-eqb _ _ (Includes-and a b fits (includes_relation a b e)))

pub ruleset sets = (Includes-decides, includes_twin)

-- ---- least upper and greatest lower bounds

pub or_first : (a b : ℕ) → Includes (bit_or a b) a
or_first a b = λ k lt h. omega (arith, h, bit_at_or a b k, bit_at-lt b k)

pub or_second : (a b : ℕ) → Includes (bit_or a b) b
or_second a b = λ k lt h. omega (arith, h, bit_at_or a b k, bit_at-lt a k)

or_case : (l a b : ℕ) → a < 2 → b < 2 → (a ≡ 1 → l ≡ 1) → (b ≡ 1 → l ≡ 1) → max a b ≡ 1 → l ≡ 1
or_case l zero b la lb f g h = g (omega arith)
or_case l (suc a) b la lb f g h = f (omega arith)

pub or_least : (l a b : ℕ) → Includes l a → Includes l b → Includes l (bit_or a b)
or_least l a b f g = λ k lt h. or_case (bit_at l k) (bit_at a k) (bit_at b k) (bit_at-lt a k) (bit_at-lt b k) (f k lt) (g k lt) (omega (arith, h, bit_at_or a b k))

pub and_first : (a b : ℕ) → Includes a (bit_and a b)
and_first a b = λ k lt h. omega (arith, h, bit_at_and a b k, bit_at-lt a k, bit_at-lt b k)

pub and_second : (a b : ℕ) → Includes b (bit_and a b)
and_second a b = λ k lt h. omega (arith, h, bit_at_and a b k, bit_at-lt a k, bit_at-lt b k)

pub and_greatest : (l a b : ℕ) → Includes a l → Includes b l → Includes (bit_and a b) l
and_greatest l a b f g = λ k lt h. omega (arith, bit_at_and a b k, f k lt h, g k lt h)

pub ruleset words = (or_first, or_second, or_least, and_first, and_second, and_greatest)

same_bit : (a b : ℕ) → a < 2 → b < 2 → (a ≡ 1 → b ≡ 1) → (b ≡ 1 → a ≡ 1) → a ≡ b
same_bit zero zero la lb f g = refl
same_bit zero (suc b) la lb f g = absurd (omega (arith, g (omega arith)))
same_bit (suc a) b la lb f g = omega (arith, f (omega arith))

-- words with the same bits are the same
pub same_bits : (v w : ℕ) → ((k : ℕ) → bit_at v k ≡ 1 → bit_at w k ≡ 1) → ((k : ℕ) → bit_at w k ≡ 1 → bit_at v k ≡ 1) → v ≡ w
same_bits v w f g = same_from_bits v w (λ i. same_bit (bit_at v i) (bit_at w i) (bit_at-lt v i) (bit_at-lt w i) (f i) (g i))

-- words below 2 ^ 32 with the same categories are the same
pub same_set : (v w : ℕ) → v < 2 ^ 32 → w < 2 ^ 32 → Includes v w → Includes w v → v ≡ w
same_set v w fits_v fits_w f g = same_bits v w (bounded w v fits_v g) (bounded v w fits_w f)
