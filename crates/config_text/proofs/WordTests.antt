-- A test of one of the words in memory is that test of one of their texts.
use Rattle.std.proofs.Common.{◌≡◌, ℕ, Bool, List, [], ◌∷◌, refl}
use Rattle.std.specs.Borrow.{Bor}
use Rattle.std.specs.List.{list_any}
use Rattle.text_lines.specs.Lines.{views}

pub any_word : (test : List ℕ → Bool) (ws : List (Bor (List ℕ))) → list_any test (views ws) ≡ list_any (λ w. test w.now) ws
any_word test [] = refl
any_word test (w ∷ ws) = rw (any_word test ws) refl
