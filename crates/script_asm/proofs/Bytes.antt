-- Lines without a code have only allowed bytes.
use Rattle.std.proofs.Common.{◌≡◌, ℕ, zero, suc, Bool, true, false, not, List, [], ◌∷◌, take, Result, Ok, Err, refl}
use Rattle.text_lines.specs.Name.{all_allowed}
use Rattle.text_lines.specs.Faults.{Leads}
use Rattle.text_lines.proofs.FirstFault.{no_code_none}
use Rattle.script_lang.specs.declared.instr.Instr.{Instr}
use Rattle.script_asm.specs.declared.fault.AsmError.{AsmError}
use Rattle.script_asm.specs.declared.fault.AsmError.TheVariants as error
use Rattle.script_asm.specs.Operand.{Word}
use Rattle.script_asm.specs.Script.{Place, line_tests, script_rules, words_in}
use Rattle.script_asm.specs.Spelling.{are_allowed}
use Rattle.script_asm.specs.Answer.{AnswersScript, AllowsBytes}

not_false : (b : Bool) → not b ≡ false → b ≡ true
not_false true e = refl
not_false false e = absurd cc

pub led_allowed : (all : List (List Word)) (p q : Place) (ls : List (List ℕ)) (n : ℕ) → Leads (script_rules all) p ls n q → are_allowed (take n ls) ≡ true
led_allowed all p q ls zero leads = refl
led_allowed all p q [] (suc n) leads = absurd leads
led_allowed all p q (line ∷ more) (suc n) leads =
    let here : all_allowed line ≡ true = not_false (all_allowed line) (no_code_none (line_tests all p line) leads.0).0 in
    rw here (led_allowed all ((script_rules all).next p line more) q more n leads.1)

pub answer_allowed : (ls : List (List ℕ)) (r : Result (List Instr) AsmError) → AnswersScript ls r → AllowsBytes ls r
answer_allowed ls (Ok program) spells = spells.bytes
answer_allowed ls (Err (error.Fault line number)) fault = led_allowed (words_in ls) _ fault.2.place ls _ fault.2.before
answer_allowed ls (Err error.NoMemory) answer = tt
