-- Lines spell at most one program, and they spell one or have a fault.
use Rattle.std.proofs.Common.{◌≡◌, ℕ, ◌↔◌, ◌⊎◌, List, Result, Ok, Err, refl, sym, ◌∙◌, inl, inr}
use Rattle.script_lang.specs.declared.instr.Instr.{Instr}
use Rattle.script_asm.specs.declared.fault.Code.{Code}
use Rattle.script_asm.specs.Script.{code_number, Place}
use Rattle.script_asm.specs.Spelling.{Spells}
use Rattle.script_asm.specs.Answer.{Says, IsFault}
use Rattle.script_asm.proofs.Spelled.{says_spells, spells_says}
use Rattle.script_asm.proofs.Outcome.{answer_of, says_read, read_spells, read_fault, only_program, refused_program}

pub both_ways : (ls : List (List ℕ)) (program : List Instr) → Says ls program ↔ Spells ls program
both_ways ls program = (says_spells ls program, spells_says ls program)

pub at_most_one : (ls : List (List ℕ)) (program other : List Instr) → Spells ls program → Spells ls other → program ≡ other
at_most_one ls program other s t =
    let r = says_read ls program (spells_says ls program s) in
    sym r.2 ∙ only_program ls r.0 r.1 other t

abbrev Outcome : List (List ℕ) → Type 0
Outcome ls = ((program : List Instr) × Spells ls program) ⊎ ((line : ℕ) × (code : ℕ) × IsFault ls line code)

outcome : (ls : List (List ℕ)) (a : Result Place (ℕ × Code)) → answer_of ls ≡ a → Outcome ls
outcome ls (Ok q) e = inl (q.program, read_spells ls q e)
outcome ls (Err f) e = inr (f.0, code_number f.1, read_fault ls f.0 (code_number f.1) f.1 e refl)

pub one_or_fault : (ls : List (List ℕ)) → Outcome ls
one_or_fault ls = outcome ls (answer_of ls) refl

pub never_both : (ls : List (List ℕ)) (program : List Instr) (line code : ℕ) → Spells ls program → IsFault ls line code → ⊥
never_both ls program line code s f =
    let r = says_read ls program (spells_says ls program s) in
    refused_program ls r.0 r.1 line code f

pub ruleset laws = (at_most_one)
