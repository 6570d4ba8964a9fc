-- What is answered to a script's lines.
use Rattle.std.specs.Prelude.{◌≡◌, ℕ, ◌-◌, List, true, take, Result, Ok, Err}
use Rattle.text_lines.specs.Faults.{IsFirstFault, IsFaultless}
use Rattle.script_lang.specs.declared.instr.Instr.{Instr}
use Rattle.script_asm.specs.declared.fault.Code.{Code}
use Rattle.script_asm.specs.declared.fault.AsmError.{AsmError}
use Rattle.script_asm.specs.declared.fault.AsmError.TheVariants as error
use Rattle.script_asm.specs.Script.{Place, start, code_number, script_rules, words_in}
use Rattle.script_asm.specs.Spelling.{are_allowed, Spells}

-- No line has a code, and the lines say this program.
abbrev pub Says : List (List ℕ) → List Instr → Type 0
Says ls program = (p : Place) × IsFaultless (script_rules (words_in ls)) start ls p × (p.program ≡ program)

-- the first faulty line, counted from 1, and the number of its least code
abbrev pub IsFault : List (List ℕ) → ℕ → ℕ → Type 0
IsFault ls line number = (c : Code) × (number ≡ code_number c) × IsFirstFault (script_rules (words_in ls)) start ls line c

-- what is answered: the program that the lines spell, their first fault, or no memory
abbrev pub AnswersScript : List (List ℕ) → Result (List Instr) AsmError → Type 0
AnswersScript ls (Ok program) = Spells ls program
AnswersScript ls (Err (error.Fault line c)) = IsFault ls line (code_number c)
AnswersScript ls (Err error.NoMemory) = Unit {0}

-- It is read as this program, unless memory runs out.
abbrev pub IsReadAs : List Instr → Result (List Instr) AsmError → Type 0
IsReadAs program (Ok p) = p ≡ program
IsReadAs program (Err (error.Fault line c)) = ⊥
IsReadAs program (Err error.NoMemory) = Unit {0}

-- It is refused with this fault, unless memory runs out.
abbrev pub IsRefusedWith : ℕ → ℕ → Result (List Instr) AsmError → Type 0
IsRefusedWith line number (Ok p) = ⊥
IsRefusedWith line number (Err (error.Fault l c)) = (l ≡ line) × (code_number c ≡ number)
IsRefusedWith line number (Err error.NoMemory) = Unit {0}

-- The lines without a code have only allowed bytes: all lines of a program, and those before the first faulty one.
abbrev pub AllowsBytes : List (List ℕ) → Result (List Instr) AsmError → Type 0
AllowsBytes ls (Ok program) = are_allowed ls ≡ true
AllowsBytes ls (Err (error.Fault line c)) = are_allowed (take (line - 1) ls) ≡ true
AllowsBytes ls (Err error.NoMemory) = Unit {0}
