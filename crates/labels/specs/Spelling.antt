-- The one text of a label.
use Rattle.std.specs.Prelude.{ℕ, zero, suc, List, [], ◌∷◌, ◌++◌, ◌==◌, if◌then◌else◌}
use Rattle.std.specs.Int.{bit_at}
use Rattle.std.specs.Fmt.{decimal}
use Rattle.labels.specs.Label.{Label}

-- the categories below i that the word has, in rising order
unfoldable pub listed : ℕ → ℕ → List ℕ
listed zero word = []
listed (suc i) word = listed i word ++ (if bit_at word i == 1 then i ∷ [] else [])

-- numbers with commas between
abbrev pub joined : List ℕ → List ℕ
joined [] = []
joined (n ∷ []) = decimal n
joined (n ∷ m ∷ ms) = decimal n ++ 44 ∷ joined (m ∷ ms)

-- `L{cats}`
abbrev pub half_text : ℕ → ℕ → List ℕ
half_text level word = decimal level ++ 123 ∷ (joined (listed 32 word) ++ 125 ∷ [])

-- `L{cats}/L{cats}`, the secrecy half first
unfoldable pub label_text : Label → List ℕ
label_text l = half_text l.secrecy_level l.secrecy_cats ++ 47 ∷ half_text l.integrity_level l.integrity_cats
