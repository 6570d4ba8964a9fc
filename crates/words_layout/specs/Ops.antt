-- One operation on the list of all words.
use Rattle.std.specs.Prelude.{◌≡◌, ℕ, ◌+◌, ◌*◌, ◌%◌, ◌^◌, ◌<◌, List, slice_index, slice_set}
use Rattle.words_layout.specs.Sizes.{class_words}
use Rattle.words_layout.specs.declared.op.Op.{Op}
use Rattle.words_layout.specs.declared.op.Op.TheVariants.{Nothing, Load, Store, Add}

-- the word that the operation names lies in the layout of so many classes
abbrev pub IsWithin : ℕ → Op → Type 0
IsWithin classes Nothing = Unit {0}
IsWithin classes (Load a) = a.0 < class_words * classes
IsWithin classes (Store a x) = a.0 < class_words * classes
IsWithin classes (Add a x) = a.0 < class_words * classes

-- what the operation answers on these words: the word, for Add the word before it, and else 0
abbrev pub answer_on : List ℕ → Op → ℕ
answer_on ws Nothing = 0
answer_on ws (Load a) = slice_index ws a.0
answer_on ws (Store a x) = 0
answer_on ws (Add a x) = slice_index ws a.0

-- the words after the operation; Add adds modulo 2^64
abbrev pub list_after : List ℕ → Op → List ℕ
list_after ws Nothing = ws
list_after ws (Load a) = ws
list_after ws (Store a x) = slice_set ws a.0 x
list_after ws (Add a x) = slice_set ws a.0 ((slice_index ws a.0 + x) % 2 ^ 64)

-- a store and no operation answer 0
abbrev pub IsPlain : Op → ℕ → Type 0
IsPlain Nothing n = n ≡ 0
IsPlain (Load a) n = Unit {0}
IsPlain (Store a x) n = n ≡ 0
IsPlain (Add a x) n = Unit {0}

-- the answer is that of the words before, and the words after are the words before with the operation done
pub record Performed (before : List ℕ) (op : Op) (answer : ℕ) (after : List ℕ) : Type 0 where
  pub answered : answer ≡ answer_on before op
  pub done : after ≡ list_after before op
