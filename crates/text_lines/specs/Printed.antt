-- Lines of words as they are printed: one blank between words, and a line feed after each line.
use Rattle.std.specs.Prelude.{◌≢◌, ℕ, ◌≤◌, ◌<◌, List, [], ◌∷◌, ◌++◌, length}
use Rattle.std.specs.List.{AllByRecursion}

-- the words with one blank between
abbrev pub spaced : List (List ℕ) → List ℕ
spaced [] = []
spaced (w ∷ []) = w
spaced (w ∷ v ∷ more) = w ++ 32 ∷ spaced (v ∷ more)

-- each line of words with its line feed
abbrev pub printed : List (List (List ℕ)) → List ℕ
printed [] = []
printed (ws ∷ more) = (spaced ws ++ 10 ∷ []) ++ printed more

-- a byte that may stand in a word: no blank, no mark of a comment, and allowed
pub record IsPlain (b : ℕ) : Type 0 where
  pub low : 33 ≤ b
  pub high : b ≤ 126
  pub mark : b ≢ 35

-- a word: some bytes, each of which may stand in one
abbrev pub IsWord : List ℕ → Type 0
IsWord w = (0 < length w) × AllByRecursion IsPlain w

-- a line of at least one word
abbrev pub IsLineOfWords : List (List ℕ) → Type 0
IsLineOfWords ws = (0 < length ws) × AllByRecursion IsWord ws
