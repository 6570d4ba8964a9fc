-- Lists of records.
use Rattle.std.proofs.Common.{◌≡◌, ℕ, zero, suc, ◌+◌, ◌<◌, List, [], ◌∷◌, ◌++◌, length, get_or, take, drop, set, Some, None, refl, sym, ap, ◌∙◌, arith, add-one}
use Rattle.std.specs.Prelude.{map}
use Rattle.std.proofs.lemmas.List.Elements.{filter_map-append}
use Rattle.std.proofs.lemmas.List.{append-nil}
use Rattle.class_model.specs.Config.{SegRecord, low_record}
use Rattle.release_guard.specs.declared.order.Order.{Order}
use Rattle.release_guard.specs.Guard.{is_exported, exported}

-- a record more, which is exported
pub shown_more : (k : Order) (xs : List SegRecord) (x s : SegRecord) (ys zs : List SegRecord) → ys ≡ exported k xs → zs ≡ ys ++ s ∷ [] → low_record (is_exported k) x ≡ Some s → zs ≡ exported k (xs ++ x ∷ [])
shown_more k xs x s ys zs held more is = more ∙ ap (λ (a : List SegRecord). a ++ s ∷ []) held ∙ sym (rw (filter_map-append (low_record (is_exported k)) xs (x ∷ []), is) refl)

-- a record more, which isn't
pub hidden_more : (k : Order) (xs : List SegRecord) (x : SegRecord) (ys : List SegRecord) → ys ≡ exported k xs → low_record (is_exported k) x ≡ None → ys ≡ exported k (xs ++ x ∷ [])
hidden_more k xs x ys held is = held ∙ sym (rw (filter_map-append (low_record (is_exported k)) xs (x ∷ []), is) (append-nil (exported k xs)))

-- ---- words that are put into a record

renewed_at : {X : Type 0} (f : X → X) (old : List X) (i : ℕ) (d y : X) → i < length old → y ≡ f (get_or (map f (take i old) ++ drop i old) i d) → set (map f (take i old) ++ drop i old) i y ≡ map f (take (suc i) old) ++ drop (suc i) old
renewed_at f [] i d y lt is = absurd (omega (arith, lt))
renewed_at f (x ∷ xs) zero d y lt is = ap (λ z. z ∷ xs) is
renewed_at f (x ∷ xs) (suc i) d y lt is = ap (λ zs. f x ∷ zs) (renewed_at f xs i d y (omega (arith, lt)) is)

-- The next element is made by f.
pub renewed_more : {X : Type 0} (f : X → X) (old xs ys : List X) (i : ℕ) (d y : X) → xs ≡ map f (take i old) ++ drop i old → i < length old → y ≡ f (get_or xs i d) → ys ≡ set xs i y → ys ≡ map f (take (i + 1) old) ++ drop (i + 1) old
renewed_more f old xs ys i d y held lt is more =
    rw add-one (more ∙ ap (λ zs. set zs i y) held ∙ renewed_at f old i d y lt (is ∙ ap (λ zs. f (get_or zs i d)) held))
