-- What the layout promises of addresses.
use Rattle.std.specs.Prelude.{◌≡◌, ℕ, ◌*◌, ◌<◌, true}
use Rattle.words_layout.specs.Sizes.{class_words}
use Rattle.words_layout.specs.Words.{Word, address, class_of}
use Rattle.words_layout.specs.Limits.{word_in_limits}

-- words of different classes or names have different addresses
abbrev pub DifferentWordsAreApart : Type 0
DifferentWordsAreApart =
    (c d : ℕ) (v w : Word) → word_in_limits v ≡ true → word_in_limits w ≡ true → address c v ≡ address d w → (c ≡ d) × (v ≡ w)

-- the class of an address is that of its word
abbrev pub AddressesTellTheClass : Type 0
AddressesTellTheClass = (class : ℕ) (word : Word) → word_in_limits word ≡ true → class_of (address class word) ≡ class

-- every word of a class has its address within the layout of that many classes
abbrev pub AddressesAreWithin : Type 0
AddressesAreWithin =
    (classes class : ℕ) (word : Word) → class < classes → word_in_limits word ≡ true → address class word < class_words * classes
