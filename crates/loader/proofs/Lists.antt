-- Lists that are made item by item.
use Rattle.std.proofs.Common.{ℕ, zero, suc, ◌+◌, ◌<◌, List, [], ◌∷◌, ◌++◌, ◌≡◌, refl, sym, ap, subst, ◌∙◌, arith, length, map, get_or, drop, append_assoc}
use Rattle.std.proofs.lemmas.List.{length-map, map_push, get_or-map, drop_more}
use Rattle.std.specs.Prelude.{slice_index_or}
use Rattle.lists.specs.Lists.{below, numbers_from}

numbers_more : (s n : ℕ) → numbers_from s (suc n) ≡ numbers_from s n ++ (s + n) ∷ []
numbers_more s zero = let e : s ≡ s + zero = omega arith in ap (λ (m : ℕ). m ∷ []) e
numbers_more s (suc n) = let e : s + 1 + n ≡ s + suc n = omega arith in ap (λ (t : List ℕ). s ∷ t) (numbers_more (s + 1) n ∙ ap (λ (m : ℕ). numbers_from (s + 1) n ++ m ∷ []) e)

pub below_more : (n : ℕ) → below (n + 1) ≡ below n ++ n ∷ []
below_more n = let e : n + 1 ≡ suc n = omega arith in let f : 0 + n ≡ n = omega arith in ap below e ∙ (numbers_more 0 n ∙ ap (λ (m : ℕ). below n ++ m ∷ []) f)

length_numbers : (s n : ℕ) → length (numbers_from s n) ≡ n
length_numbers s zero = refl
length_numbers s (suc n) = ap suc (length_numbers (s + 1) n)

numbers_at : (s n i : ℕ) → i < n → get_or (numbers_from s n) i 0 ≡ s + i
numbers_at s zero i h = absurd (omega arith)
numbers_at s (suc n) zero h = omega arith
numbers_at s (suc n) (suc i) h = numbers_at (s + 1) n i (omega arith) ∙ omega arith

-- a list of one item for each number below some
module _ {X : Type 0} (f : ℕ → X) where
  pub made_more : (n : ℕ) (xs ys : List X) (x : X) → xs ≡ map f (below n) → ys ≡ xs ++ x ∷ [] → x ≡ f n → ys ≡ map f (below (n + 1))
  made_more n xs ys x e p q =
      p ∙ (ap (λ (t : List X). t ++ x ∷ []) e ∙ (ap (λ (t : X). map f (below n) ++ t ∷ []) q
      ∙ (sym (map_push f (below n) n) ∙ ap (map f) (sym (below_more n)))))

  pub made_length : (n : ℕ) → length (map f (below n)) ≡ n
  made_length n = length-map (below n) f ∙ length_numbers 0 n

  pub made_at : (n i : ℕ) (d : X) → i < n → slice_index_or (map f (below n)) i d ≡ f i
  made_at n i d lt =
      let e : 0 + i ≡ i = omega arith in
      get_or-map f (below n) i 0 d (subst (λ m. i < m) (sym (length_numbers 0 n)) lt) ∙ ap f (numbers_at 0 n i lt ∙ e)

-- a list of one item for each of another list
pub copied_more : {X Y : Type 0} (f : X → Y) (xs : List X) (i : ℕ) (x : X) (ys zs : List Y) (y : Y) → ys ++ map f (drop i xs) ≡ map f xs → i < length xs → x ≡ get_or xs i x → zs ≡ ys ++ y ∷ [] → y ≡ f x →
    zs ++ map f (drop (i + 1) xs) ≡ map f xs
copied_more {X} {Y} f xs i x ys zs y so_far lt e push made =
    let rest : List Y = map f (drop (i + 1) xs) in
    let here : drop i xs ≡ x ∷ drop (i + 1) xs = drop_more xs i x lt ∙ ap (λ (z : X). z ∷ drop (i + 1) xs) (sym e) in
    ap (λ (t : List Y). t ++ rest) push ∙ append_assoc ys (y ∷ []) rest ∙ ap (λ (z : Y). ys ++ z ∷ rest) made ∙ ap (λ (t : List X). ys ++ map f t) (sym here) ∙ so_far
