-- The bytes of a label are those of no other.
use Rattle.std.proofs.Common.{◌≡◌, ℕ, ◌+◌, ◌^◌, ◌<◌, List, [], ◌∷◌, get_or, Option, Some, None, sym, ap, ◌∙◌, arith, inl, inr, ◌⊎◌}
use Rattle.std.specs.Prelude.{IfSome, IfNone}
use Rattle.std.specs.Int.{w32, to_be_bytes, from_be_bytes}
use Rattle.std.proofs.lemmas.Nat.{from_be_bytes-to_be_bytes_4}
use Rattle.labels.specs.Label.{Label}
use Rattle.labels.specs.Order.{IsLabel}
use Rattle.labels.specs.Bytes.{bytes_of}
use Rattle.labels.proofs.Answer.{same_label}

same_word : (v w : ℕ) → v < 2 ^ 32 → w < 2 ^ 32 → to_be_bytes w32 v ≡ to_be_bytes w32 w → v ≡ w
same_word v w a b e = sym (from_be_bytes-to_be_bytes_4 v a) ∙ ap (from_be_bytes w32) e ∙ from_be_bytes-to_be_bytes_4 w b

abbrev four : List ℕ → ℕ → List ℕ
four bs i = get_or bs i 0 ∷ get_or bs (i + 1) 0 ∷ get_or bs (i + 2) 0 ∷ get_or bs (i + 3) 0 ∷ []

same_bytes : (l m : Label) → IsLabel l → IsLabel m → bytes_of l ≡ bytes_of m → l ≡ m
same_bytes l m a b e = same_label l m (ap (λ bs. get_or bs 0 0) e) (same_word _ _ a.secrecy_cats b.secrecy_cats (ap (λ bs. four bs 1) e)) (ap (λ bs. get_or bs 5 0) e) (same_word _ _ a.integrity_cats b.integrity_cats (ap (λ bs. four bs 6) e))

pub only_bytes : (bytes : List ℕ) (r : Option Label) (l : Label) → IfSome r (λ m. IsLabel m × (bytes ≡ bytes_of m)) → IfNone r ((15 < get_or bytes 0 0) ⊎ (15 < get_or bytes 5 0)) → IsLabel l → bytes ≡ bytes_of l → r ≡ Some l
only_bytes bytes (Some m) l some none fits e = ap Some (same_bytes m l some.0 fits (sym some.1 ∙ e))
only_bytes bytes None l some none fits e = elim none [
  | inl high ↦ absurd (omega (arith, high, ap (λ bs. get_or bs 0 0) e, fits.secrecy_level))
  | inr high ↦ absurd (omega (arith, high, ap (λ bs. get_or bs 5 0) e, fits.integrity_level))
]
