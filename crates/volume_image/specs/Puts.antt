-- What functions that write do. Only private functions speak of it.
use Rattle.std.specs.Prelude.{◌≡◌, ℕ, ◌+◌, ◌<◌, ◌≤◌, List, ◌++◌, length, Result, Ok, Err, vec_len, vec_capacity}
use Rattle.std.specs.Global.{Vec}
use Rattle.std.specs.declared.alloc.AllocError.{AllocError}

-- The bytes were put at the end. An error comes only where there was no room for them.
abbrev pub Puts : Vec ℕ → Vec ℕ → Result (Unit {0}) AllocError → List ℕ → Type 0
Puts old new (Ok u) bytes = (new.items ≡ old.items ++ bytes) × (vec_len new ≡ vec_len old + length bytes) × (vec_capacity old ≤ vec_capacity new)
Puts old new (Err e) bytes = vec_capacity old < vec_len old + length bytes
