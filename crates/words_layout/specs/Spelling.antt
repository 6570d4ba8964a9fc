-- Which word is the spelling of which value.
use Rattle.std.specs.Prelude.{◌≡◌, ℕ, Bool, true, Option, Some, None}
use Rattle.words_layout.specs.Coding.{home_in_range, pack_home, unpack_home, alias_in_range, pack_alias, unpack_alias}
use Rattle.words_layout.specs.declared.coding.Home.{Home}
use Rattle.words_layout.specs.declared.coding.Alias.{Alias}

-- the word is the spelling of the home
pub record SpellsHome (home : Home) (word : ℕ) : Type 0 where
  pub range : home_in_range home ≡ true
  pub packed : pack_home home ≡ word

-- the empty entry has a spelling, and an alias in range
abbrev pub entry_in_range : Option Alias → Bool
entry_in_range None = true
entry_in_range (Some a) = alias_in_range a

-- the word is the spelling of the entry
pub record SpellsEntry (entry : Option Alias) (word : ℕ) : Type 0 where
  pub range : entry_in_range entry ≡ true
  pub packed : pack_alias entry ≡ word

-- a home with a spelling is unpacked from it
abbrev pub HomesComeBack : Type 0
HomesComeBack = (home : Home) → home_in_range home ≡ true → unpack_home (pack_home home) ≡ Some home

-- an entry with a spelling is unpacked from it
abbrev pub EntriesComeBack : Type 0
EntriesComeBack = (entry : Option Alias) → entry_in_range entry ≡ true → unpack_alias (pack_alias entry) ≡ Some entry
