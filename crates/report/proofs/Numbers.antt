-- Loops over the numbers below a bound.
use Rattle.std.proofs.Common.{◌≡◌, ℕ, zero, suc, ◌+◌, ◌-◌, ◌<◌, ◌≤◌, List, [], ◌∷◌, ◌++◌, map, refl, sym, ap, subst, ◌∙◌, arith, append_assoc, Bool, true, false}
use Rattle.std.proofs.lemmas.List.{append-nil}
use Rattle.std.proofs.lemmas.List.Concat.{flat_map-append}
use Rattle.std.proofs.lemmas.List.Folds.{list_any-append}
use Rattle.std.specs.Prelude.{◌||◌}
use Rattle.std.specs.List.{flat_map, list_any}
use Rattle.lists.specs.Lists.{below, numbers_from}
use Rattle.host_ports.specs.Ports.{Port}
use Rattle.report.specs.Printing.{Pushed, Torn}
use Rattle.report.proofs.Texts.{pushed_then, pushed_torn, torn_more}

-- the first numbers and the others
numbers_apart : (a m n : ℕ) → numbers_from a (m + n) ≡ numbers_from a m ++ numbers_from (a + m) n
numbers_apart a zero n = let e : a + 0 ≡ a = omega arith in let z : 0 + n ≡ n = omega arith in rw (e, z) refl
numbers_apart a (suc m) n =
    let e : suc m + n ≡ suc (m + n) = omega arith in
    let z : a + suc m ≡ a + 1 + m = omega arith in
    rw (e, z) (ap (λ (xs : List ℕ). a ∷ xs) (numbers_apart (a + 1) m n))

-- the numbers below m and the others
below_apart : (m n : ℕ) → below (m + n) ≡ below m ++ numbers_from m n
below_apart m n = let z : 0 + m ≡ m = omega arith in subst (λ (k : ℕ). below (m + n) ≡ below m ++ numbers_from k n) z (numbers_apart 0 m n)

pub below_more : (n : ℕ) → below (n + 1) ≡ below n ++ n ∷ []
below_more n = below_apart n 1

-- i among the numbers below n
below_at : (i n : ℕ) → i < n → below n ≡ below (i + 1) ++ numbers_from (i + 1) (n - (i + 1))
below_at i n h = let e : n ≡ i + 1 + (n - (i + 1)) = omega arith in ap below e ∙ below_apart (i + 1) (n - (i + 1))

module _ {A : Type 0} (f : ℕ → List A) where
  pub flat_more : (n : ℕ) → flat_map f (below (n + 1)) ≡ flat_map f (below n) ++ f n
  flat_more n = ap (flat_map f) (below_more n) ∙ (flat_map-append f (below n) (n ∷ []) ∙ ap (λ (t : List A). flat_map f (below n) ++ t) (append-nil (f n)))

  -- what i gives, with what comes before it and behind it
  pub flat_at : (i n : ℕ) → i < n → flat_map f (below n) ≡ flat_map f (below i) ++ f i ++ flat_map f (numbers_from (i + 1) (n - (i + 1)))
  flat_at i n h = ap (flat_map f) (below_at i n h) ∙ (flat_map-append f (below (i + 1)) (numbers_from (i + 1) (n - (i + 1))) ∙ ap (λ (t : List A). t ++ flat_map f (numbers_from (i + 1) (n - (i + 1)))) (flat_more i))

  flat_none : (k a n : ℕ) → ((p : ℕ) → k ≤ p → f p ≡ []) → k ≤ a → flat_map f (numbers_from a n) ≡ []
  flat_none k a zero none h = refl
  flat_none k a (suc n) none h = rw (none a h) (flat_none k (a + 1) n none (omega arith))

  -- where the others give nothing
  pub flat_rest : (k n : ℕ) → k ≤ n → ((p : ℕ) → k ≤ p → f p ≡ []) → flat_map f (below k) ≡ flat_map f (below n)
  flat_rest k n h none =
      let e : n ≡ k + (n - k) = omega arith in
      sym (ap (λ (m : ℕ). flat_map f (below m)) e ∙ (ap (flat_map f) (below_apart k (n - k)) ∙ (flat_map-append f (below k) (numbers_from k (n - k))
      ∙ (ap (λ (t : List A). flat_map f (below k) ++ t) (flat_none k k (n - k) none (omega arith)) ∙ append-nil (flat_map f (below k))))))

module _ (f : ℕ → List ℕ) (before now after : ℕ → Port) where
  -- one number more is printed
  pub counted_more : (i : ℕ) → Pushed before now (flat_map f (below i)) → Pushed now after (f i) → Pushed before after (flat_map f (below (i + 1)))
  counted_more i p q = subst (Pushed before after) (sym (flat_more f i)) (pushed_then before now after (flat_map f (below i)) (f i) p q)

  -- a fault at a number
  pub counted_torn : (i n : ℕ) → i < n → Pushed before now (flat_map f (below i)) → Torn now after (f i) → Torn before after (flat_map f (below n))
  counted_torn i n h p q = subst (Torn before after) (sym (flat_at f i n h))
      (torn_more before after (flat_map f (below i) ++ f i) (flat_map f (numbers_from (i + 1) (n - (i + 1)))) (pushed_torn before now after (flat_map f (below i)) (f i) p q))

-- the numbers are all printed
pub counted_all : (f : ℕ → List ℕ) (before after : ℕ → Port) (i n : ℕ) → i < n + 1 → n ≤ i → Pushed before after (flat_map f (below i)) → Pushed before after (flat_map f (below n))
counted_all f before after i n g h p = let e : i ≡ n = omega arith in subst (λ (m : ℕ). Pushed before after (flat_map f (below m))) e p

module _ (test : ℕ → Bool) where
  -- one number more that doesn't pass
  pub any_more : (n : ℕ) → list_any test (below n) ≡ false → test n ≡ false → list_any test (below (n + 1)) ≡ false
  any_more n none one = ap (list_any test) (below_more n) ∙ (list_any-append test (below n) (n ∷ []) ∙ (ap (λ (b : Bool). b || (test n || false)) none ∙ ap (λ (b : Bool). b || false) one))

  -- a number that passes
  pub any_at : (i n : ℕ) → i < n → list_any test (below i) ≡ false → test i ≡ true → list_any test (below n) ≡ true
  any_at i n h none one =
      let rest = numbers_from (i + 1) (n - (i + 1)) in
      ap (list_any test) (below_at i n h ∙ (ap (λ (xs : List ℕ). xs ++ rest) (below_more i) ∙ append_assoc (below i) (i ∷ []) rest))
      ∙ (list_any-append test (below i) (i ∷ rest) ∙ (ap (λ (b : Bool). b || (test i || list_any test rest)) none ∙ ap (λ (b : Bool). b || list_any test rest) one))

  -- none of all the numbers passes
  pub any_all : (i n : ℕ) → i ≤ n → n ≤ i → list_any test (below i) ≡ false → list_any test (below n) ≡ false
  any_all i n h k none = let e : i ≡ n = omega arith in subst (λ (m : ℕ). list_any test (below m) ≡ false) e none

-- lists of lists
pub flat_flat : {X Y A : Type 0} (f : Y → List A) (g : X → List Y) (xs : List X) → flat_map f (flat_map g xs) ≡ flat_map (λ x. flat_map f (g x)) xs
flat_flat f g [] = refl
flat_flat f g (x ∷ xs) = flat_map-append f (g x) (flat_map g xs) ∙ ap (λ t. flat_map f (g x) ++ t) (flat_flat f g xs)

pub flat_mapped : {X Y A : Type 0} (f : Y → List A) (g : X → Y) (xs : List X) → flat_map f (map g xs) ≡ flat_map (λ x. f (g x)) xs
flat_mapped f g [] = refl
flat_mapped f g (x ∷ xs) = ap (λ t. f (g x) ++ t) (flat_mapped f g xs)

pub flat_same : {X A : Type 0} (f g : X → List A) → ((x : X) → f x ≡ g x) → (xs : List X) → flat_map f xs ≡ flat_map g xs
flat_same f g same [] = refl
flat_same f g same (x ∷ xs) = rw (same x, flat_same f g same xs) refl
