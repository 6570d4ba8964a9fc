-- Words written over a list one by one.
use Rattle.std.proofs.Common.{◌≡◌, ℕ, ◌+◌, ◌≤◌, List, [], ◌∷◌, length, refl, arith}
use Rattle.std.proofs.lemmas.List.{set_past}
use Rattle.lists.specs.Lists.{overwrite}

-- past the end nothing is written
pub past : (xs : List ℕ) (at : ℕ) (vs : List ℕ) → length xs ≤ at → overwrite xs at vs ≡ xs
past xs at [] h = refl
past xs at (v ∷ vs) h = rw set_past (past xs (at + 1) vs (omega arith))
