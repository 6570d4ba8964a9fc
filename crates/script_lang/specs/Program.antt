-- Which lists of instructions are programs.
use Rattle.std.specs.Prelude.{ℕ, ◌-◌, Bool, true, false, ◌&&◌, List, nat_le, nat_lt, length, slice_get}
use Rattle.std.specs.List.{list_all}
use Rattle.std.specs.Option.{option_map_or}
use Rattle.script_lang.specs.declared.instr.Instr.{Instr}
use Rattle.script_lang.specs.declared.instr.Instr.TheVariants.{Halt, Jump, JumpZ, JumpL}

-- the target of a jump is below n
abbrev pub target_ok : ℕ → Instr → Bool
target_ok n (Jump to) = nat_lt to n
target_ok n (JumpZ a to) = nat_lt to n
target_ok n (JumpL a b to) = nat_lt to n
target_ok n _ = true

-- it may stand last: behind it the script doesn't go on
abbrev pub is_last : Instr → Bool
is_last Halt = true
is_last (Jump to) = true
is_last _ = false

-- 1 to 256 instructions, targets among them, the last one halt or jump
abbrev pub program_ok : List Instr → Bool
program_ok program = nat_le 1 (length program) && nat_le (length program) 256 && list_all (λ i. target_ok (length program) i) program &&
    option_map_or is_last (slice_get program (length program - 1)) false
