-- Counting over identities in order.
use Rattle.std.proofs.Common.{ℕ, zero, suc, ◌≡◌, ◌+◌, ◌∙◌, ap, subst, sym, Bool, true, false, List, [], ◌∷◌, ◌++◌, map, refl, arith, append-nil}
use Rattle.std.specs.Prelude.{count_by, cond}
use Rattle.std.specs.List.{flat_map, filter}
use Rattle.std.proofs.lemmas.List.Elements.{filter-append}
use Rattle.std.proofs.lemmas.List.{map-append}
use Rattle.std.proofs.lemmas.List.Sums.{sum_by-append}
use Rattle.std.proofs.lemmas.Grind.{flat_map-append}
use Rattle.lists.specs.Lists.{numbers_from, below}
use Rattle.words_layout.specs.Segments.{seg}
use Rattle.words_layout.specs.declared.segment.SegId.{SegId}
use Rattle.class_model.specs.State.{identities}

numbers_from_more : (start n : ℕ) → numbers_from start (suc n) ≡ numbers_from start n ++ (start + n) ∷ []
numbers_from_more start zero = let e : start + 0 ≡ start = omega arith in rw e refl
numbers_from_more start (suc n) = let e : start + suc n ≡ start + 1 + n = omega arith in rw e (ap (λ xs. start ∷ xs) (numbers_from_more (start + 1) n))

-- one more number
pub below_more : (n : ℕ) → below (n + 1) ≡ below n ++ n ∷ []
below_more n = let e : n + 1 ≡ suc n = omega arith in let z : 0 + n ≡ n = omega arith in
    rw e (subst (λ (m : ℕ). below (suc n) ≡ below n ++ m ∷ []) z (numbers_from_more 0 n))

counted : {X : Type 0} (p : X → Bool) (xs ys : List X) → count_by p (xs ++ ys) ≡ count_by p xs + count_by p ys
counted p xs ys = sum_by-append (λ x. cond (p x) 1 0) xs ys

-- one more serial of a mentor
pub serials_counted : (p : SegId → Bool) (m s : ℕ) → count_by p (map (λ i. seg m i) (below (s + 1))) ≡
    count_by p (map (λ i. seg m i) (below s)) + count_by p (seg m s ∷ [])
serials_counted p m s =
    ap (λ xs. count_by p (map (λ i. seg m i) xs)) (below_more s) ∙ ap (λ xs. count_by p xs) (map-append (λ i. seg m i) (below s) (s ∷ [])) ∙
    counted p (map (λ i. seg m i) (below s)) (seg m s ∷ [])

one_row : (m : ℕ) → flat_map (λ j. map (λ i. seg j i) (below 64)) (m ∷ []) ≡ map (λ i. seg m i) (below 64)
one_row m = append-nil (map (λ i. seg m i) (below 64))

-- the identities of one more mentor
pub mentors_counted : (p : SegId → Bool) (m : ℕ) → count_by p (identities (m + 1)) ≡ count_by p (identities m) + count_by p (map (λ i. seg m i) (below 64))
mentors_counted p m =
    ap (λ xs. count_by p (flat_map (λ j. map (λ i. seg j i) (below 64)) xs)) (below_more m) ∙
    ap (λ xs. count_by p xs) (flat_map-append (λ j. map (λ i. seg j i) (below 64)) (below m) (m ∷ [])) ∙
    counted p (identities m) (flat_map (λ j. map (λ i. seg j i) (below 64)) (m ∷ [])) ∙
    ap (λ xs. count_by p (identities m) + count_by p xs) (one_row m)

filter_more : (p : ℕ → Bool) (m : ℕ) → filter p (below (m + 1)) ≡ filter p (below m) ++ cond (p m) (m ∷ []) []
filter_more p m = ap (filter p) (below_more m) ∙ filter-append p (below m) (m ∷ [])

-- one more number that is kept
pub kept_more : (p : ℕ → Bool) (m : ℕ) (xs new : List ℕ) → p m ≡ true → xs ≡ filter p (below m) → new ≡ xs ++ m ∷ [] → new ≡ filter p (below (m + 1))
kept_more p m xs new holds e n =
    n ∙ ap (λ ys. ys ++ m ∷ []) e ∙ ap (λ t. filter p (below m) ++ cond t (m ∷ []) []) (sym holds) ∙ sym (filter_more p m)

-- or left out
pub left_more : (p : ℕ → Bool) (m : ℕ) (xs : List ℕ) → p m ≡ false → xs ≡ filter p (below m) → xs ≡ filter p (below (m + 1))
left_more p m xs fails e =
    e ∙ sym (append-nil (filter p (below m))) ∙ ap (λ t. filter p (below m) ++ cond t (m ∷ []) []) (sym fails) ∙ sym (filter_more p m)
