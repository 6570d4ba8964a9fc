-- The frames in use are the frames that have a tenant: counting the pairs of a segment and the frame that its home names,
-- by segments and by frames.
use Rattle.std.proofs.Common.{ℕ, zero, suc, ◌+◌, ◌≤◌, ◌<◌, Bool, true, false, ◌&&◌, List, [], ◌∷◌, ◌++◌, ◌≡◌, refl, sym, ap, ◌∙◌, map, arith, ◌⊎◌, inl, inr}
use Rattle.std.specs.Prelude.{◌==◌, if◌then◌else◌, count_by}
use Rattle.std.specs.List.{flat_map}
use Rattle.std.proofs.lemmas.Bool.{eq-eqb, ne_eqb, both_ways}
use Rattle.std.proofs.lemmas.List.Sums.{sum_by-cons}
use Rattle.lists.specs.Lists.{numbers_from, below}
use Rattle.words_layout.specs.Segments.{seg, seg_number, same_seg}
use Rattle.words_layout.specs.declared.segment.SegId.{SegId}
use Rattle.words_layout.proofs.Names.{same_seg-true}
use Rattle.class_model.specs.State.{identities}

-- 1 where the test holds
abbrev pub one_if : Bool → ℕ
one_if b = if b then 1 else 0

-- the sum of f over a list
abbrev pub total : {X : Type 0} → (X → ℕ) → List X → ℕ
total f [] = 0
total f (x ∷ xs) = f x + total f xs

pub count-total : {X : Type 0} (test : X → Bool) (xs : List X) → count_by test xs ≡ total (λ x. one_if (test x)) xs
count-total test [] = refl
count-total test (x ∷ xs) = sum_by-cons (λ y. one_if (test y)) x xs ∙ ap (λ n. one_if (test x) + n) (count-total test xs)

pub total-same : {X : Type 0} (f g : X → ℕ) (xs : List X) → ((x : X) → f x ≡ g x) → total f xs ≡ total g xs
total-same f g [] h = refl
total-same f g (x ∷ xs) h = let e = h x in let t = total-same f g xs h in omega (arith, e, t)

total-add : {X : Type 0} (f g : X → ℕ) (xs : List X) → total (λ x. f x + g x) xs ≡ total f xs + total g xs
total-add f g [] = refl
total-add f g (x ∷ xs) = let t = total-add f g xs in omega (arith, t)

pub total-zero : {X : Type 0} (xs : List X) → total (λ (x : X). 0) xs ≡ 0
total-zero [] = refl
total-zero (x ∷ xs) = let t = total-zero xs in omega (arith, t)

total-append : {X : Type 0} (f : X → ℕ) (xs ys : List X) → total f (xs ++ ys) ≡ total f xs + total f ys
total-append f [] ys = omega arith
total-append f (x ∷ xs) ys = let t = total-append f xs ys in omega (arith, t)

total-map : {X Y : Type 0} (f : Y → ℕ) (h : X → Y) (xs : List X) → total f (map h xs) ≡ total (λ x. f (h x)) xs
total-map f h [] = refl
total-map f h (x ∷ xs) = let t = total-map f h xs in omega (arith, t)

total-flat : {X Y : Type 0} (f : Y → ℕ) (h : X → List Y) (xs : List X) → total f (flat_map h xs) ≡ total (λ x. total f (h x)) xs
total-flat f h [] = refl
total-flat f h (x ∷ xs) = total-append f (h x) (flat_map h xs) ∙ ap (λ n. total f (h x) + n) (total-flat f h xs)

-- the pairs, counted by rows and by columns
pub total-swap : {X Y : Type 0} (a : X → Y → ℕ) (xs : List X) (ys : List Y) → total (λ x. total (a x) ys) xs ≡ total (λ y. total (λ x. a x y) xs) ys
total-swap a [] ys = sym (total-zero ys)
total-swap a (x ∷ xs) ys = ap (λ n. total (a x) ys + n) (total-swap a xs ys) ∙ sym (total-add (a x) (λ y. total (λ x. a x y) xs) ys)

-- a number is once among consecutive numbers
one-before : (k a n : ℕ) → k < a → total (λ i. one_if (i == k)) (numbers_from a n) ≡ 0
one-before k a zero h = refl
one-before k a (suc n) h = let e : (a == k) ≡ false = ne_eqb a k (λ x. absurd (omega arith)) in
    let t = one-before k (a + 1) n (omega arith) in rw (e, t) refl

pub one-number : (k a n : ℕ) → a ≤ k → k < a + n → total (λ i. one_if (i == k)) (numbers_from a n) ≡ 1
one-number k a zero h l = absurd (omega arith)
one-number k a (suc n) h l = by_cases (Rattle.std.proofs.lemmas.Bool.cases_eq a k) (λ x y. one-number k (a + 1) n x y)
  where
    by_cases : (a ≡ k) ⊎ (a ≡ k → ⊥) → (a + 1 ≤ k → k < (a + 1) + n → total (λ i. one_if (i == k)) (numbers_from (a + 1) n) ≡ 1) → total (λ i. one_if (i == k)) (numbers_from a (suc n)) ≡ 1
    by_cases (inl e) rest = let t = one-before k (a + 1) n (omega arith) in rw (eq-eqb a k e, t) refl
    by_cases (inr e) rest = let t = rest (omega arith) (omega arith) in rw (ne_eqb a k e, t) refl

-- an identity is once among the identities
pub one-identity : (n : ℕ) (u : SegId) → u.mentor < n → u.serial < 64 → total (λ v. one_if (same_seg v u)) (identities n) ≡ 1
one-identity n u m s =
    total-flat (λ v. one_if (same_seg v u)) (λ k. map (λ j. seg k j) (below 64)) (below n)
    ∙ total-same _ (λ k. one_if (k == u.mentor)) (below n) row
    ∙ one-number u.mentor 0 n (omega arith) (omega arith)
  where
    row : (k : ℕ) → total (λ v. one_if (same_seg v u)) (map (λ j. seg k j) (below 64)) ≡ one_if (k == u.mentor)
    row k = total-map (λ v. one_if (same_seg v u)) (λ j. seg k j) (below 64) ∙ by_mentor (k == u.mentor)
      where
        by_mentor : (b : Bool) → total (λ j. one_if (b && (j == u.serial))) (below 64) ≡ one_if b
        by_mentor true = one-number u.serial 0 64 (omega arith) (omega arith)
        by_mentor false = total-zero (below 64)

module _ (n pool : ℕ) (named : SegId → ℕ → Bool) (is_in : SegId → Bool) (tenant : ℕ → ℕ)
    (row : (u : SegId) → total (λ f. one_if (named u f)) (below pool) ≡ one_if (is_in u))
    (valid : (u : SegId) (f : ℕ) → named u f ≡ true → (u.mentor < n) × (u.serial < 64))
    (tenant_is : (u : SegId) (f : ℕ) → named u f ≡ true → tenant f ≡ seg_number u + 1)
    (tenant_of : (f : ℕ) → (tenant f ≡ 0 → ⊥) → (u : SegId) × (named u f ≡ true)) where
  same_tenant : (u v : SegId) (f : ℕ) → named u f ≡ true → named v f ≡ true → same_seg v u ≡ true
  same_tenant u v f a b =
      let e = tenant_is u f a in let h = tenant_is v f b in let x = valid u f a in let y = valid v f b in
      let m : v.mentor ≡ u.mentor = omega (arith, e, h, x.1, y.1) in
      let s : v.serial ≡ u.serial = omega (arith, e, h, x.1, y.1) in
      Rattle.std.proofs.lemmas.Bool.and_from _ _ (eq-eqb v.mentor u.mentor m) (eq-eqb v.serial u.serial s)

  column : (f : ℕ) → total (λ u. one_if (named u f)) (identities n) ≡ one_if (Rattle.std.specs.Prelude.not (tenant f == 0))
  column f = by_tenant (Rattle.std.proofs.lemmas.Bool.cases_eq (tenant f) 0)
    where
      by_tenant : (tenant f ≡ 0) ⊎ (tenant f ≡ 0 → ⊥) → total (λ u. one_if (named u f)) (identities n) ≡ one_if (Rattle.std.specs.Prelude.not (tenant f == 0))
      by_tenant (inl e) = total-same _ (λ u. 0) (identities n) none ∙ total-zero (identities n) ∙ sym (ap (λ b. one_if (Rattle.std.specs.Prelude.not b)) (eq-eqb (tenant f) 0 e))
        where
          none : (u : SegId) → one_if (named u f) ≡ 0
          none u = elim (named u f) as (λ b. named u f ≡ b → one_if b ≡ 0) [ true ↦ λ h. (let x = tenant_is u f h in absurd (omega (arith, x, e))) | false ↦ λ h. refl ] refl
      by_tenant (inr e) = let w : (u : SegId) × (named u f ≡ true) = tenant_of f e in
          total-same _ (λ v. one_if (same_seg v w.0)) (identities n) (only w.0 w.1)
          ∙ one-identity n w.0 (valid w.0 f w.1).0 (valid w.0 f w.1).1 ∙ sym (ap (λ b. one_if (Rattle.std.specs.Prelude.not b)) (ne_eqb (tenant f) 0 e))
        where
          only : (u : SegId) → named u f ≡ true → (v : SegId) → one_if (named v f) ≡ one_if (same_seg v u)
          only u h v = ap one_if (elim (named v f) as (λ b. named v f ≡ b → b ≡ same_seg v u) [
            | true ↦ λ k. sym (same_tenant u v f h k)
            | false ↦ λ k. (elim (same_seg v u) as (λ b. same_seg v u ≡ b → false ≡ b) [
              | true ↦ λ s. absurd (both_ways (named v f) k (rw (same_seg-true v u s) h))
              | false ↦ λ s. refl
            ] refl)
          ] refl)

  -- as many segments are In as frames of the pool have a tenant
  pub in-use : count_by is_in (identities n) ≡ count_by (λ f. Rattle.std.specs.Prelude.not (tenant f == 0)) (below pool)
  in-use = count-total is_in (identities n)
      ∙ total-same _ (λ u. total (λ f. one_if (named u f)) (below pool)) (identities n) (λ u. sym (row u))
      ∙ total-swap (λ u f. one_if (named u f)) (identities n) (below pool)
      ∙ total-same _ _ (below pool) column
      ∙ sym (count-total (λ f. Rattle.std.specs.Prelude.not (tenant f == 0)) (below pool))
