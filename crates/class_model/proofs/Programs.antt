-- How long a program is at most.
use Rattle.std.proofs.Common.{◌≡◌, ◌≤◌, Bool, true, false, List, length, refl}
use Rattle.std.specs.Prelude.{◌&&◌, nat_le, slice_get, ◌-◌}
use Rattle.std.specs.List.{list_all}
use Rattle.std.specs.Option.{option_map_or}
use Rattle.std.proofs.lemmas.Bool.{leb-true}
use Rattle.script_lang.specs.declared.instr.Instr.{Instr}
use Rattle.script_lang.specs.Program.{program_ok, target_ok, is_last}

second : (a b c d : Bool) → (a && b && c && d) ≡ true → b ≡ true
second true true c d e = refl
second true false c d e = cc
second false b c d e = cc

-- a program has at most 256 instructions
pub program_length : (list : List Instr) → program_ok list ≡ true → length list ≤ 256
program_length list e =
    leb-true (length list) 256 (second (nat_le 1 (length list)) (nat_le (length list) 256)
    (list_all (λ i. target_ok (length list) i) list) (option_map_or is_last (slice_get list (length list - 1)) false) e)
