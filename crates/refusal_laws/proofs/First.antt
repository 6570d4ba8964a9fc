-- The first test that holds, by its place in the list.
use Rattle.std.proofs.Common.{ℕ, zero, suc, ◌<◌, Bool, true, false, List, [], ◌∷◌, ◌++◌, ◌≡◌, refl, sym, ap, ◌∙◌, Option, Some, None, arith}
use Rattle.std.specs.Prelude.{if◌then◌else◌, slice_get}
use Rattle.policy.specs.Verdict.{first_broken, ◌⇒◌}
use Rattle.policy.specs.declared.rule.Rule.{Rule}
use Rattle.refusal_laws.specs.Refusals.{IsFirst, NoneHolds}

-- the first of two lists, one behind the other
abbrev pub or_else : Option Rule → Option Rule → Option Rule
or_else None o = o
or_else (Some rule) o = Some rule

pub first_append : (xs ys : List (Bool × Rule)) → first_broken (xs ++ ys) ≡ or_else (first_broken xs) (first_broken ys)
first_append [] ys = refl
first_append (x ∷ xs) ys = by_test (first_append xs ys) x.0
  where
    by_test : first_broken (xs ++ ys) ≡ or_else (first_broken xs) (first_broken ys) → (b : Bool) → (if b then Some x.1 else first_broken (xs ++ ys)) ≡ or_else (if b then Some x.1 else first_broken xs) (first_broken ys)
    by_test rest true = refl
    by_test rest false = rest

-- a test that doesn't hold stands before the first one
later : (x : Bool × Rule) (xs : List (Bool × Rule)) (rule : Rule) → x.0 ≡ false → IsFirst xs rule → IsFirst (x ∷ xs) rule
later x xs rule e h = (suc h.0, h.1, before)
  where
    before : (j : ℕ) (t : Bool × Rule) → j < suc h.0 → slice_get (x ∷ xs) j ≡ Some t → t.0 ≡ false
    before zero t lt g = let same : x ≡ t = cc in ap (λ (y : Bool × Rule). y.0) (sym same) ∙ e
    before (suc j) t lt g = h.2 j t (omega (arith, lt)) g

pub is_first : (xs : List (Bool × Rule)) (rule : Rule) → first_broken xs ≡ Some rule → IsFirst xs rule
is_first [] rule e = absurd (cc)
is_first (x ∷ xs) rule e = by_test (is_first xs rule) x.0 refl e
  where
    by_test : (first_broken xs ≡ Some rule → IsFirst xs rule) → (b : Bool) → x.0 ≡ b → (if b then Some x.1 else first_broken xs) ≡ Some rule → IsFirst (x ∷ xs) rule
    by_test rest true f g = (0, holds, λ j t lt k. absurd (omega (arith, lt)))
      where
        pair : (y : Bool × Rule) → y.0 ≡ true → y.1 ≡ rule → y ≡ (true ⇒ rule)
        pair (b, r) h k = rw (h, k) refl

        holds : Some x ≡ Some (true ⇒ rule)
        holds = let same : x.1 ≡ rule = cc in ap (λ (y : Bool × Rule). Some y) (pair x f same)
    by_test rest false f g = later x xs rule f (rest g)

pub first_is : (xs : List (Bool × Rule)) (rule : Rule) → IsFirst xs rule → first_broken xs ≡ Some rule
first_is [] rule h = absurd (cc)
first_is (x ∷ xs) rule h = by_place (first_is xs rule) h.0 h.1 h.2
  where
    by_place : (IsFirst xs rule → first_broken xs ≡ Some rule) → (i : ℕ) → slice_get (x ∷ xs) i ≡ Some (true ⇒ rule) → ((j : ℕ) (t : Bool × Rule) → j < i → slice_get (x ∷ xs) j ≡ Some t → t.0 ≡ false) → first_broken (x ∷ xs) ≡ Some rule
    by_place rest zero e before = let same : x ≡ (true ⇒ rule) = cc in rw same refl
    by_place rest (suc i) e before =
        let no : x.0 ≡ false = before 0 x (omega arith) refl in
        rw no (rest (i, e, λ j t lt g. before (suc j) t (omega (arith, lt)) g))

pub none_is : (xs : List (Bool × Rule)) → NoneHolds xs → first_broken xs ≡ None
none_is [] h = refl
none_is (x ∷ xs) h = let no : x.0 ≡ false = h 0 x refl in rw no (none_is xs (λ j t g. h (suc j) t g))
