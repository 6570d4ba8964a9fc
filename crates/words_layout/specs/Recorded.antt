-- What a recording port holds.
use Rattle.std.specs.Prelude.{◌≡◌, ℕ, List, [], ◌∷◌, ◌++◌, ◌⊎◌, Bool, true}
use Rattle.words_layout.specs.declared.op.Op.{Op}
use Rattle.words_layout.specs.declared.op.Op.TheVariants.{Nothing, Load, Store, Add}
use Rattle.words_layout.specs.Ops.{Performed}

-- words with a tape of what was performed on them, and whether the tape is torn
pub record Tape : Type 0 where
  pub words : List ℕ
  pub entries : List (Op × ℕ)
  pub torn : Bool

-- a list of entries gains an operation with its answer; no operation gains no entry
abbrev pub gained : List (Op × ℕ) → Op → ℕ → List (Op × ℕ)
gained es Nothing n = es
gained es (Load a) n = es ++ (Load a, n) ∷ []
gained es (Store a x) n = es ++ (Store a x, n) ∷ []
gained es (Add a x) n = es ++ (Add a x, n) ∷ []

-- the operation is performed on the words, and the tape gains it with its answer unless it is torn
pub record Records (before : Tape) (op : Op) (answer : ℕ) (after : Tape) : Type 0 where
  pub performed : Performed before.words op answer after.words
  pub entered : (after.torn ≡ true) ⊎ (after.entries ≡ gained before.entries op answer)
