-- Reading from left to right. Only private functions speak of it.
use Rattle.std.specs.Prelude.{◌≡◌, ℕ, Result, Ok, Err}
use Rattle.script_asm.specs.declared.fault.Code.{Code}
use Rattle.script_asm.specs.declared.fault.Refusal.{Refusal}
use Rattle.script_asm.specs.declared.fault.Refusal.TheVariants as refusal
use Rattle.script_asm.specs.declared.fault.AsmError.{AsmError}
use Rattle.script_asm.specs.declared.fault.AsmError.TheVariants as error
use Rattle.script_asm.specs.declared.draft.Draft.{Draft}
use Rattle.script_asm.specs.Script.{Place}

-- what the lines so far say
abbrev pub place_of : Draft → Place
place_of d = record { line = d.line; program = d.program.items }

-- what a step answers, and the place that it leaves
abbrev pub Answers : Place → Place → Result (Unit {0}) Refusal → Result Place Code → Type 0
Answers old new (Ok u) answer = answer ≡ Ok new
Answers old new (Err (refusal.Code c)) answer = answer ≡ Err c
Answers old new (Err refusal.Memory) answer = Unit {0}

-- what reading answers, by the answer to its lines
abbrev pub Reads : Result Draft AsmError → Result Place (ℕ × Code) → Type 0
Reads (Ok d) answer = answer ≡ Ok (place_of d)
Reads (Err (error.Fault line c)) answer = answer ≡ Err (line, c)
Reads (Err error.NoMemory) answer = Unit {0}
