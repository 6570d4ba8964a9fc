-- Sums over the numbers below a bound.
use Rattle.std.proofs.Common.{◌≡◌, ℕ, zero, suc, ◌+◌, ◌-◌, ◌≤◌, Bool, true, false, cond, List, [], ◌∷◌, map, refl, sym, ap, ◌∙◌, arith}
use Rattle.std.proofs.lemmas.List.Sums.{sum_by-append, sum_by-cons, sum_by_push}
use Rattle.std.specs.Prelude.{count_by}
use Rattle.std.specs.List.{flat_map, sum_by}
use Rattle.lists.specs.Lists.{below}
use Rattle.words_layout.specs.Segments.{seg}
use Rattle.words_layout.specs.declared.segment.SegId.{SegId}
use Rattle.class_model.specs.State.{identities}
use Rattle.report.proofs.Numbers.{below_more}

-- the sum with one number more
pub sum_more : (f : ℕ → ℕ) (n total value : ℕ) → total ≡ sum_by f (below n) → value ≡ f n → total + value ≡ sum_by f (below (n + 1))
sum_more f n total value e v = let more : sum_by f (below (n + 1)) ≡ sum_by f (below n) + f n = ap (sum_by f) (below_more n) ∙ sum_by_push f (below n) n in omega (arith, more, e, v)

-- the numbers from k on add nothing
sum_behind : (f : ℕ → ℕ) (k j : ℕ) → ((p : ℕ) → k ≤ p → f p ≡ 0) → sum_by f (below (k + j)) ≡ sum_by f (below k)
sum_behind f k zero none = let e : k + 0 ≡ k = omega arith in ap (λ (n : ℕ). sum_by f (below n)) e
sum_behind f k (suc j) none =
    let e : k + suc j ≡ k + j + 1 = omega arith in
    ap (λ (n : ℕ). sum_by f (below n)) e ∙ sym (sum_more f (k + j) (sum_by f (below k)) 0 (sym (sum_behind f k j none)) (sym (none (k + j) (omega arith)))) ∙ omega arith

pub sum_rest : (f : ℕ → ℕ) (k n : ℕ) → k ≤ n → ((p : ℕ) → k ≤ p → f p ≡ 0) → sum_by f (below k) ≡ sum_by f (below n)
sum_rest f k n h none = let e : k + (n - k) ≡ n = omega arith in sym (sum_behind f k (n - k) none) ∙ ap (λ (m : ℕ). sum_by f (below m)) e

-- terms that are the same
pub sum_same : {X : Type 0} (f g : X → ℕ) → ((x : X) → f x ≡ g x) → (xs : List X) → sum_by f xs ≡ sum_by g xs
sum_same f g same [] = refl
sum_same f g same (x ∷ xs) = sum_by-cons f x xs ∙ ap (λ (n : ℕ). n + sum_by f xs) (same x) ∙ ap (λ (n : ℕ). g x + n) (sum_same f g same xs) ∙ sym (sum_by-cons g x xs)

pub count_same : {X : Type 0} (p q : X → Bool) → ((x : X) → p x ≡ q x) → (xs : List X) → count_by p xs ≡ count_by q xs
count_same {X} p q same xs = sum_same (λ (x : X). cond (p x) 1 0) (λ (x : X). cond (q x) 1 0) (λ x. ap (λ (b : Bool). cond b 1 0) (same x)) xs

-- one number more that passes, and one that doesn't
pub count_yes : (p : ℕ → Bool) (n count : ℕ) → count ≡ count_by p (below n) → p n ≡ true → count + 1 ≡ count_by p (below (n + 1))
count_yes p n count e pass = sum_more (λ (x : ℕ). cond (p x) 1 0) n count 1 e (sym (ap (λ (b : Bool). cond b 1 0) pass))

pub count_no : (p : ℕ → Bool) (n count : ℕ) → count ≡ count_by p (below n) → p n ≡ false → count ≡ count_by p (below (n + 1))
count_no p n count e fail =
    let z : count ≡ count + 0 = omega arith in
    z ∙ sum_more (λ (x : ℕ). cond (p x) 1 0) n count 0 e (sym (ap (λ (b : Bool). cond b 1 0) fail))

-- sums of sums
sum_mapped : {X Y : Type 0} (f : Y → ℕ) (g : X → Y) (xs : List X) → sum_by f (map g xs) ≡ sum_by (λ x. f (g x)) xs
sum_mapped f g [] = refl
sum_mapped {X} f g (x ∷ xs) = sum_by-cons f (g x) (map g xs) ∙ ap (λ (n : ℕ). f (g x) + n) (sum_mapped f g xs) ∙ sym (sum_by-cons (λ (y : X). f (g y)) x xs)

sum_flat : {X Y : Type 0} (f : Y → ℕ) (g : X → List Y) (xs : List X) → sum_by f (flat_map g xs) ≡ sum_by (λ x. sum_by f (g x)) xs
sum_flat f g [] = refl
sum_flat {X} f g (x ∷ xs) =
    sum_by-append f (g x) (flat_map g xs) ∙ ap (λ (n : ℕ). sum_by f (g x) + n) (sum_flat f g xs) ∙ sym (sum_by-cons (λ (y : X). sum_by f (g y)) x xs)

-- over all identities, by mentor class and serial
pub sum_identities : (f : SegId → ℕ) (n : ℕ) → sum_by f (identities n) ≡ sum_by (λ m. sum_by (λ s. f (seg m s)) (below 64)) (below n)
sum_identities f n =
    sum_flat f (λ (m : ℕ). map (λ s. seg m s) (below 64)) (below n)
    ∙ sum_same (λ (m : ℕ). sum_by f (map (λ s. seg m s) (below 64))) (λ (m : ℕ). sum_by (λ s. f (seg m s)) (below 64)) (λ m. sum_mapped f (λ (s : ℕ). seg m s) (below 64)) (below n)

-- the sum up to an equal bound
pub sum_at : (f : ℕ → ℕ) (i n total : ℕ) → i ≡ n → total ≡ sum_by f (below i) → total ≡ sum_by f (below n)
sum_at f i n total same e = e ∙ ap (λ (m : ℕ). sum_by f (below m)) same
