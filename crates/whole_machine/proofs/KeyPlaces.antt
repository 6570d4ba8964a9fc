-- What is found by its key.
use Rattle.std.proofs.Common.{ℕ, zero, suc, ◌≡◌, ◌+◌, Bool, true, false, List, [], ◌∷◌, ◌++◌, map, get_or, set, refl, sym, ◌∙◌, ap, Some, None}
use Rattle.std.specs.Prelude.{if◌then◌else◌, ◌||◌, position, cond}
use Rattle.std.specs.List.{list_any, position_from}
use Rattle.std.proofs.lemmas.Iterator.Adapters.{position_from-zero}
use Rattle.std.proofs.lemmas.List.{map-append}
use Rattle.indexmap.specs.IndexSet.{insert_key}

module _ {X K : Type 0} (key : X → K) where
  found_from : (q : K → Bool) (xs : List X) (n : ℕ) → position_from q n (map key xs) ≡ position_from (λ x. q (key x)) n xs
  found_from q [] n = refl
  found_from q (x ∷ xs) n = ap (λ r. cond (q (key x)) (Some n) r) (found_from q xs (n + 1))

  -- where its key is found it stands
  pub found_by_key : (q : K → Bool) (xs : List X) → position q (map key xs) ≡ position (λ x. q (key x)) xs
  found_by_key q xs = position_from-zero q (map key xs) ∙ found_from q xs 0 ∙ sym (position_from-zero (λ x. q (key x)) xs)

  none_from : (q : K → Bool) (xs : List X) (n : ℕ) → position_from (λ x. q (key x)) n xs ≡ None → list_any q (map key xs) ≡ false
  none_from q [] n e = refl
  none_from q (x ∷ xs) n e =
      elim (q (key x)) as (λ t. cond t (Some n) (position_from (λ y. q (key y)) (n + 1) xs) ≡ None → (t || list_any q (map key xs)) ≡ false) [
        | true ↦ λ e. cc
        | false ↦ λ e. none_from q xs (n + 1) e
      ] e

  -- the keys with that of one more item, where there was none
  pub keys_pushed : (eq : K → K → Bool) (xs : List X) (y : X) → position (λ x. eq (key y) (key x)) xs ≡ None → insert_key eq (map key xs) (key y) ≡ map key (xs ++ y ∷ [])
  keys_pushed eq xs y e =
      let none : list_any (eq (key y)) (map key xs) ≡ false = none_from (eq (key y)) xs 0 (sym (position_from-zero (λ x. eq (key y) (key x)) xs) ∙ e) in
      rw none (sym (map-append key xs (y ∷ [])))

  -- the keys after a change of an item that keeps its key
  pub keys_kept : (xs : List X) (at : ℕ) (y d : X) → key y ≡ key (get_or xs at d) → map key (set xs at y) ≡ map key xs
  keys_kept [] at y d e = refl
  keys_kept (x ∷ xs) zero y d e = ap (λ k. k ∷ map key xs) e
  keys_kept (x ∷ xs) (suc at) y d e = ap (λ ks. key x ∷ ks) (keys_kept xs at y d e)

  -- the keys after a push that may have failed
  pub keys_after : (ok : Bool) (xs ys more : List X) (ks ls grown : List K) → ks ≡ map key xs → grown ≡ map key more →
      ls ≡ (if ok then grown else ks) → ys ≡ (if ok then more else xs) → ls ≡ map key ys
  keys_after true xs ys more ks ls grown old new l y = rw (l, y) new
  keys_after false xs ys more ks ls grown old new l y = rw (l, y) old
