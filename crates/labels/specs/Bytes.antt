-- A label's ten bytes.
use Rattle.std.specs.Prelude.{ℕ, List, ◌∷◌, ◌++◌}
use Rattle.std.specs.Int.{w32, to_be_bytes}
use Rattle.labels.specs.Label.{Label}

-- the secrecy level, the secrecy categories with the high byte first, and likewise for integrity
abbrev pub bytes_of : Label → List ℕ
bytes_of l = (l.secrecy_level ∷ to_be_bytes w32 l.secrecy_cats) ++ l.integrity_level ∷ to_be_bytes w32 l.integrity_cats
