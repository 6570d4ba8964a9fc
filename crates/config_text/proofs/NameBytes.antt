-- The bytes of a name are characters of their own.
use Rattle.std.proofs.Common.{◌≡◌, ℕ, ◌+◌, ◌-◌, ◌<◌, ◌≤◌, Bool, true, false, leb, ltb, ◌&&◌, ◌||◌, List, [], ◌∷◌, length, get_or, take, refl, arith, inl, inr}
use Rattle.std.specs.List.{list_all}
use Rattle.std.proofs.lemmas.Bool.{and_parts, or_cases, leb-true, ltb-true}
use Rattle.std.proofs.lemmas.List.Sums.{AllPass-from_list_all}
use Rattle.text_lines.specs.Name.{is_name, is_name_byte}

-- a name has at most 16 bytes
pub name_length : (w : List ℕ) → is_name w ≡ true → length w ≤ 16
name_length w e = leb-true _ _ (and_parts (ltb 0 (length w)) (leb (length w) 16) (and_parts (ltb 0 (length w) && leb (length w) 16) (list_all is_name_byte w) e).0).1

byte_low : (b : ℕ) → is_name_byte b ≡ true → b < 128
byte_low b e = elim (or_cases (leb 97 b && leb b 122) (leb 48 b && leb b 57) e) [
  | inl letter ↦ omega (arith, leb-true b 122 (and_parts (leb 97 b) (leb b 122) letter).1)
  | inr digit ↦ omega (arith, leb-true b 57 (and_parts (leb 48 b) (leb b 57) digit).1)
]

-- each byte of a name is below 128
pub name_byte : (w : List ℕ) (i d : ℕ) → is_name w ≡ true → i < length w → get_or w i d < 128
name_byte w i d e lt = byte_low (get_or w i d) (AllPass-from_list_all is_name_byte w (and_parts (ltb 0 (length w) && leb (length w) 16) (list_all is_name_byte w) e).1 i d lt)

pub ruleset names = (name_length, name_byte)
