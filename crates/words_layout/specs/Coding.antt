-- The spellings of homes and entries as words.
use Rattle.std.specs.Prelude.{ℕ, ◌+◌, ◌-◌, ◌*◌, ◌/◌, ◌%◌, ◌^◌, Bool, true, ◌&&◌, ◌==◌, nat_le, nat_lt, if◌then◌else◌, Option, Some, None, unwrap_or}
use Rattle.std.specs.Option.{option_and_then}
use Rattle.words_layout.specs.declared.coding.Home.{Home}
use Rattle.words_layout.specs.declared.coding.Home.TheVariants.{Never, Stored, Resident, Deleted}
use Rattle.words_layout.specs.declared.coding.Alias.{Alias}

-- the page plus one, or 0 for none
abbrev pub page_code : Option ℕ → ℕ
page_code None = 0
page_code (Some page) = page + 1

-- a home word: the state in bits 0 and 1, the frame from bit 8, the page plus one from bit 16, the size from bit 24
abbrev pub home_word : ℕ → ℕ → ℕ → ℕ → ℕ
home_word state frame page size = state + 2 ^ 8 * frame + 2 ^ 16 * page + 2 ^ 24 * size

-- the word of a home
abbrev pub pack_home : Home → ℕ
pack_home Never = 0
pack_home (Stored page size) = home_word 1 0 (page + 1) size
pack_home (Resident frame page size) = home_word 2 frame (page_code page) size
pack_home Deleted = 3

-- the page that a page code names
abbrev pub page_named : ℕ → Option ℕ
page_named code = if code == 0 then None else Some (code - 1)

-- the home that the fields of a word read as, by its state
abbrev pub home_read : ℕ → ℕ → ℕ → ℕ → Home
home_read state frame page size =
    if state == 0 then Never
    else (if state == 1 then Stored (page - 1) size
    else (if state == 2 then Resident frame (page_named page) size
    else Deleted))

-- the home that the fields of a word read as
abbrev pub home_as_read : ℕ → Home
home_as_read word = home_read (word % 4) (word / 2 ^ 8 % 2 ^ 8) (word / 2 ^ 16 % 2 ^ 8) (word / 2 ^ 24 % 2 ^ 8)

-- a page is below 32
abbrev pub page_in_range : Option ℕ → Bool
page_in_range None = true
page_in_range (Some page) = nat_lt page 32

-- a size is from 1 to 64
abbrev pub size_in_range : ℕ → Bool
size_in_range size = nat_le 1 size && nat_le size 64

-- the home has a spelling
abbrev pub home_in_range : Home → Bool
home_in_range Never = true
home_in_range (Stored page size) = nat_lt page 32 && size_in_range size
home_in_range (Resident frame page size) = nat_lt frame 16 && page_in_range page && size_in_range size
home_in_range Deleted = true

-- the home, if the word spells it
abbrev pub home_spelled : ℕ → Home → Option Home
home_spelled word home = if home_in_range home && pack_home home == word then Some home else None

-- the home that a word spells, or none
abbrev pub unpack_home : ℕ → Option Home
unpack_home word = home_spelled word (home_read (word % 4) (word / 2 ^ 8 % 2 ^ 8) (word / 2 ^ 16 % 2 ^ 8) (word / 2 ^ 24 % 2 ^ 8))

-- a word that spells no home is taken as Never
abbrev pub home_of : ℕ → Home
home_of word = unwrap_or (unpack_home word) Never

-- an entry word: 1, the class from bit 8, r1, r2 and r3 from bits 16, 20 and 24, the size from bit 32, the serial from bit 40
abbrev pub pack_entry : Alias → ℕ
pack_entry a = 1 + 2 ^ 8 * a.class + 2 ^ 16 * a.r1 + 2 ^ 20 * a.r2 + 2 ^ 24 * a.r3 + 2 ^ 32 * a.size + 2 ^ 40 * a.serial

-- the word of an entry, 0 for an empty one
abbrev pub pack_alias : Option Alias → ℕ
pack_alias None = 0
pack_alias (Some a) = pack_entry a

-- the alias that the fields of a word read as
abbrev pub alias_read : ℕ → Alias
alias_read word = record {
  class = word / 2 ^ 8 % 2 ^ 8;
  r1 = word / 2 ^ 16 % 2 ^ 3;
  r2 = word / 2 ^ 20 % 2 ^ 3;
  r3 = word / 2 ^ 24 % 2 ^ 3;
  size = word / 2 ^ 32 % 2 ^ 8;
  serial = word / 2 ^ 40 % 2 ^ 8;
}

-- the alias has a spelling
abbrev pub alias_in_range : Alias → Bool
alias_in_range a = nat_lt a.class 16 && nat_le a.r1 7 && nat_le a.r2 7 && nat_le a.r3 7 && size_in_range a.size && nat_lt a.serial 64

-- the alias, if the word spells it
abbrev pub alias_spelled : ℕ → Alias → Option Alias
alias_spelled word a = if alias_in_range a && pack_entry a == word then Some a else None

-- what an entry word spells: nothing, an empty entry or an alias
abbrev pub unpack_alias : ℕ → Option (Option Alias)
unpack_alias word =
    if word == 0 then Some None
    else option_and_then (λ a. Some (Some a)) (alias_spelled word (alias_read word))

-- a word that spells no entry is taken as the empty entry
abbrev pub entry_of : ℕ → Option Alias
entry_of word = unwrap_or (unpack_alias word) None
