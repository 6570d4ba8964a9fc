-- Names, and the bytes that a text may have.
use Rattle.std.specs.Prelude.{ℕ, List, length, Bool, ◌==◌, ◌&&◌, ◌||◌, nat_lt, nat_le}
use Rattle.std.specs.List.{list_all}

-- `a` to `z` and `0` to `9`
abbrev pub is_name_byte : ℕ → Bool
is_name_byte b = (nat_le 97 b && nat_le b 122) || (nat_le 48 b && nat_le b 57)

-- 1 to 16 of them
abbrev pub is_name : List ℕ → Bool
is_name word = nat_lt 0 (length word) && nat_le (length word) 16 && list_all is_name_byte word

-- the tab, and 0x20 to 0x7E
abbrev pub is_allowed : ℕ → Bool
is_allowed b = b == 9 || (nat_le 32 b && nat_le b 126)

-- Each byte of the line is allowed.
abbrev pub all_allowed : List ℕ → Bool
all_allowed line = list_all is_allowed line
