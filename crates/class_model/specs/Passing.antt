-- Which processes pass the private tests of their next instruction.
use Rattle.std.specs.Prelude.{ℕ, Bool, true, false, not, ◌&&◌, nat_lt, length, position, is_none, is_some}
use Rattle.std.specs.Option.{option_map_or}
use Rattle.script_lang.specs.declared.instr.Instr.{Instr}
use Rattle.script_lang.specs.declared.instr.Instr.TheVariants as I
use Rattle.class_model.specs.Config.{Shared, instr_at}
use Rattle.class_model.specs.Next.{asks}
use Rattle.class_model.specs.Plan.{Plan, Own, Begin, Ask, plan}
use Rattle.class_model.specs.Process.{Process, ProcName, reg, known_at}
use Rattle.class_model.specs.State.{State, process_at}

-- An instruction that never asks the state passes unless it is refused: a call that is pushed on the ring stack, a return that
-- is popped off, a terminate of a place that isn't empty, and each one without tests.
abbrev pub passes_alone : Process → Process → Instr → Bool
passes_alone p after (I.Call g) = nat_lt (length p.stack) (length after.stack)
passes_alone p after I.Ret = nat_lt (length after.stack) (length p.stack)
passes_alone p after (I.Terminate a) = is_some (known_at p (reg p a))
passes_alone p after (I.Spawn n b) = false
passes_alone p after i = true

-- an instruction passes that asks the state, or begins a process where a slot is free, or isn't refused at once
abbrev pub passes_by : Bool → Process → Instr → Plan → Bool
passes_by free p i (Own after) = not (asks i) && passes_alone p after i
passes_by free p i (Begin child) = free
passes_by free p i (Ask request) = true

-- a process of class d is live, and its next instruction passes
abbrev pub passes_next : Shared → ℕ → Bool → Process → Bool
passes_next s d free p = p.live && passes_by free p (instr_at s p.script p.place) (plan s d p)

-- a slot beside the named process never held a process
abbrev pub has_free_slot : State → ProcName → Bool
has_free_slot a n = is_some (position (λ q. is_none q) ((a.part n.class).slots n.processor))

-- the named process is live, and its next instruction passes
abbrev pub passes : State → ProcName → Bool
passes a n = option_map_or (λ (p : Process). passes_next a.shared n.class (has_free_slot a n) p) (process_at a n) false
