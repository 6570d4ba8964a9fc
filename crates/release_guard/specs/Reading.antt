-- Reading from left to right. Only private functions speak of it.
use Rattle.std.specs.Prelude.{◌≡◌, ℕ, Result, Ok, Err}
use Rattle.release_guard.specs.declared.fault.Code.{Code}
use Rattle.release_guard.specs.declared.fault.Refusal.{Refusal}
use Rattle.release_guard.specs.declared.fault.Refusal.TheVariants as refusal
use Rattle.release_guard.specs.declared.fault.OrderError.{OrderError}
use Rattle.release_guard.specs.declared.fault.OrderError.TheVariants as error
use Rattle.release_guard.specs.declared.draft.Draft.{Draft}
use Rattle.release_guard.specs.Codes.{code_number}
use Rattle.release_guard.specs.Place.{Place, place_of}

-- what a step answers, and the place that it leaves
abbrev pub Answers : Place → Result (Unit {0}) Refusal → Result Place Code → Type 0
Answers new (Ok u) answer = answer ≡ Ok new
Answers new (Err (refusal.Code c)) answer = answer ≡ Err c
Answers new (Err refusal.Memory) answer = Unit {0}

-- the error where a line of this number isn't taken
abbrev pub error_of : ℕ → Refusal → OrderError
error_of n (refusal.Code c) = error.Fault n (code_number c)
error_of n refusal.Memory = error.NoMemory

-- what reading answers, by the answer to its lines
abbrev pub Reads : Result Draft OrderError → Result Place (ℕ × Code) → Type 0
Reads (Ok d) answer = answer ≡ Ok (place_of d)
Reads (Err (error.Fault line n)) answer = (c : Code) × (answer ≡ Err (line, c)) × (n ≡ code_number c)
Reads (Err error.NoMemory) answer = Unit {0}
