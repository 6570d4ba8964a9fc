-- Lines or words in memory, passed one by one.
use Rattle.std.proofs.Common.{◌≡◌, ℕ, ◌+◌, ◌<◌, ◌≤◌, List, [], ◌∷◌, length, get_or, drop, refl, arith, add-one}
use Rattle.std.specs.Borrow.{Bor}
use Rattle.std.proofs.lemmas.List.{nil_from_length, length-drop}
use Rattle.std.proofs.Math.Seq.{drop-cons}
use Rattle.text_lines.specs.Lines.{views}

-- the next one
pub views_at : (xs : List (Bor (List ℕ))) (i : ℕ) (x : Bor (List ℕ)) → i < length xs → x ≡ get_or xs i x → views (drop i xs) ≡ x.now ∷ views (drop (i + 1) xs)
views_at xs i x within is = rw (add-one, drop-cons xs i x within, ← is) refl

-- No one is left.
pub views_past : (xs : List (Bor (List ℕ))) (i : ℕ) → length xs ≤ i → views (drop i xs) ≡ []
views_past xs i past = rw (nil_from_length (drop i xs) (omega (arith, length-drop i xs))) refl

pub ruleset passing = (views_at, views_past)
