-- The classes of a set of bits, up to a class.
use Rattle.std.proofs.Common.{ℕ, zero, suc, ◌+◌, ◌<◌, ◌≤◌, ◌≡◌, sym, ap, ◌∙◌, Bool, true, false, List, [], ◌∷◌, ◌++◌, length, refl, arith, append_assoc, length-append, subst, append-nil}
use Rattle.std.specs.Prelude.{if◌then◌else◌, slice_index_or, ◌==◌}
use Rattle.std.specs.List.{filter}
use Rattle.std.proofs.lemmas.List.Elements.{filter-append}
use Rattle.std.proofs.lemmas.Grind.{common_steps}
use Rattle.std.proofs.lemmas.Bool.{eq-eqb, ne_eqb}
use Rattle.lists.specs.Lists.{below, numbers_from}

-- one number more
pub numbers_from_more : (start n : ℕ) → numbers_from start (suc n) ≡ numbers_from start n ++ (start + n) ∷ []
numbers_from_more start zero = let e : start + 0 ≡ start = omega arith in rw e refl
numbers_from_more start (suc n) = let e : start + suc n ≡ start + 1 + n = omega arith in rw e (ap (λ xs. start ∷ xs) (numbers_from_more (start + 1) n))

pub below_more : (n : ℕ) → below (n + 1) ≡ below n ++ n ∷ []
below_more n = let e : n + 1 ≡ suc n = omega arith in let z : 0 + n ≡ n = omega arith in
    rw e (subst (λ (m : ℕ). below (suc n) ≡ below n ++ m ∷ []) z (numbers_from_more 0 n))

-- the class is among them
pub kept_more : (p : ℕ → Bool) (n : ℕ) → p n ≡ true → filter p (below (n + 1)) ≡ filter p (below n) ++ n ∷ []
kept_more p n holds = ap (filter p) (below_more n) ∙ filter-append p (below n) (n ∷ []) ∙ rw holds refl

-- the class isn't among them
pub left_out : (p : ℕ → Bool) (n : ℕ) → p n ≡ false → filter p (below (n + 1)) ≡ filter p (below n)
left_out p n holds = ap (filter p) (below_more n) ∙ filter-append p (below n) (n ∷ []) ∙ rw holds (append-nil (filter p (below n)))

-- each item is below 16, also behind one more
pub all_below : (xs : List ℕ) (x : ℕ) → ((k : ℕ) → k < length xs → slice_index_or xs k 0 < 16) → x < 16 → (k : ℕ) → k < length (xs ++ x ∷ []) → slice_index_or (xs ++ x ∷ []) k 0 < 16
all_below xs x old new k inside = grind (arith, common_steps, old k)
