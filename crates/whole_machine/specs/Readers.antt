-- What is read of a state.
use Rattle.std.specs.Prelude.{ℕ, if◌then◌else◌, Option, Some, None}
use Rattle.std.specs.Option.{option_map, option_and_then}
use Rattle.policy.specs.Known.{Known}
use Rattle.script_lang.specs.declared.instr.Instr.{Instr}
use Rattle.class_model.specs.Config.{Shared, instr_at}
use Rattle.class_model.specs.Process.{Process, ProcName, reg, known_at}
use Rattle.class_model.specs.State.{State, process_at}

-- the next instruction of a process, if there is one and it is live
abbrev pub next_of : Shared → Option Process → Option Instr
next_of s None = None
next_of s (Some p) = if p.live then Some (instr_at s p.script p.place) else None

-- the next instruction of the named process
abbrev pub next_instr : State → ProcName → Option Instr
next_instr a n = next_of a.shared (process_at a n)

-- the place of its next instruction
abbrev pub place_of : State → ProcName → Option ℕ
place_of a n = option_map (λ (p : Process). p.place) (process_at a n)

-- what its register holds
abbrev pub register_of : State → ProcName → ℕ → Option ℕ
register_of a n r = option_map (λ (p : Process). reg p r) (process_at a n)

-- what it knows under a number
abbrev pub known_of : State → ProcName → ℕ → Option Known
known_of a n segno = option_and_then (λ (p : Process). known_at p segno) (process_at a n)
