-- Lists that are made number by number.
use Rattle.std.proofs.Common.{◌≡◌, ℕ, zero, suc, ◌+◌, List, [], ◌∷◌, ◌++◌, map, sym, ap, ◌∙◌, arith, append_assoc}
use Rattle.std.proofs.lemmas.List.{map_push, append-nil}
use Rattle.std.proofs.lemmas.List.Concat.{flat_map-append}
use Rattle.std.specs.List.{flat_map}
use Rattle.lists.specs.Lists.{below, numbers_from}

numbers_more : (s n : ℕ) → numbers_from s (suc n) ≡ numbers_from s n ++ (s + n) ∷ []
numbers_more s zero = let e : s ≡ s + zero = omega arith in ap (λ (m : ℕ). m ∷ []) e
numbers_more s (suc n) =
    let e : s + 1 + n ≡ s + suc n = omega arith in
    ap (λ (t : List ℕ). s ∷ t) (numbers_more (s + 1) n ∙ ap (λ (m : ℕ). numbers_from (s + 1) n ++ m ∷ []) e)

below_more : (n : ℕ) → below (n + 1) ≡ below n ++ n ∷ []
below_more n =
    let e : n + 1 ≡ suc n = omega arith in
    let f : 0 + n ≡ n = omega arith in
    ap below e ∙ (numbers_more 0 n ∙ ap (λ (m : ℕ). below n ++ m ∷ []) f)

-- one item for each number, behind those that there were
pub mapped_more : {X : Type 0} (f : ℕ → X) (n : ℕ) (front xs ys : List X) (x : X) → xs ≡ front ++ map f (below n) → ys ≡ xs ++ x ∷ [] → x ≡ f n → ys ≡ front ++ map f (below (n + 1))
mapped_more {X} f n front xs ys x so_far push made =
    push ∙ ap (λ (t : List X). t ++ x ∷ []) so_far ∙ append_assoc front (map f (below n)) (x ∷ []) ∙ ap (λ (t : X). front ++ (map f (below n) ++ t ∷ [])) made
    ∙ ap (λ (t : List X). front ++ t) (sym (map_push f (below n) n) ∙ ap (map f) (sym (below_more n)))

-- some items for each number, behind those that there were
pub flat_more : {X : Type 0} (f : ℕ → List X) (n : ℕ) (front xs ys : List X) → xs ≡ front ++ flat_map f (below n) → ys ≡ xs ++ f n → ys ≡ front ++ flat_map f (below (n + 1))
flat_more {X} f n front xs ys so_far push =
    push ∙ ap (λ (t : List X). t ++ f n) so_far ∙ append_assoc front (flat_map f (below n)) (f n)
    ∙ ap (λ (t : List X). front ++ t) (ap (λ (t : List X). flat_map f (below n) ++ t) (sym (append-nil (f n))) ∙ sym (flat_map-append f (below n) (n ∷ [])) ∙ ap (flat_map f) (sym (below_more n)))
