-- The entry of a new segment.
use Rattle.std.proofs.Common.{◌<◌, ◌≤◌, ◌≡◌, true, ◌&&◌, refl}
use Rattle.std.specs.Prelude.{nat_le, nat_lt}
use Rattle.std.proofs.lemmas.Bool.{lt-ltb, le-leb}
use Rattle.words_layout.specs.Coding.{alias_in_range}
use Rattle.words_layout.specs.declared.coding.Alias.{Alias}

-- an entry within the limits has a spelling
pub alias_spelled : (a : Alias) → a.class < 16 → a.r1 ≤ 7 → a.r2 ≤ 7 → a.r3 ≤ 7 → 1 ≤ a.size → a.size ≤ 64 → a.serial < 64 → alias_in_range a ≡ true
alias_spelled a c x y z l h s = rw (lt-ltb a.class 16 c, le-leb a.r1 7 x, le-leb a.r2 7 y, le-leb a.r3 7 z, le-leb 1 a.size l, le-leb a.size 64 h, lt-ltb a.serial 64 s) refl
