-- A script's lines, one after the other.
use Rattle.std.proofs.Common.{◌≡◌, ℕ, ◌+◌, false, true, List, [], ◌∷◌, Result, Ok, Err, refl}
use Rattle.text_lines.specs.Lines.{words_of}
use Rattle.text_lines.specs.Faults.{judged, lines_answer}
use Rattle.text_lines.proofs.FirstFault as generic
use Rattle.text_lines.proofs.Passing.{views_at, views_past}
use Rattle.script_lang.specs.Fault.{ends_well}
use Rattle.script_asm.specs.declared.fault.Code.{Code}
use Rattle.script_asm.specs.declared.fault.Code.TheVariants as code
use Rattle.script_asm.specs.Operand.{Word}
use Rattle.script_asm.specs.Script.{Place, line_tests, next_place, script_rules}

pub goes_on : (all : List (List Word)) (p q : Place) (n : ℕ) (left more : List (List ℕ)) (line : List ℕ) (total : Result Place (ℕ × Code)) → left ≡ line ∷ more → judged (line_tests all p line) (next_place all p (words_of line)) ≡ Ok q → lines_answer (script_rules all) p n left ≡ total → lines_answer (script_rules all) q (n + 1) more ≡ total
goes_on all p q n left more line total e taken so_far = generic.goes_on (script_rules all) p q n left more line total e taken so_far

pub stops : (all : List (List Word)) (p : Place) (n : ℕ) (left more : List (List ℕ)) (line : List ℕ) (c : Code) (total : Result Place (ℕ × Code)) → left ≡ line ∷ more → judged (line_tests all p line) (next_place all p (words_of line)) ≡ Err c → lines_answer (script_rules all) p n left ≡ total → total ≡ Err (n, c)
stops all p n left more line c total e refused so_far = generic.stops (script_rules all) p n left more line c total e refused so_far

pub ends : (all : List (List Word)) (p : Place) (n : ℕ) (left : List (List ℕ)) (total : Result Place (ℕ × Code)) → left ≡ [] → ends_well p.program ≡ true → lines_answer (script_rules all) p n left ≡ total → total ≡ Ok p
ends all p n left total e good so_far = generic.ends (script_rules all) p n left total e (rw good refl) so_far

pub missing : (all : List (List Word)) (p : Place) (n : ℕ) (left : List (List ℕ)) (total : Result Place (ℕ × Code)) → left ≡ [] → ends_well p.program ≡ false → lines_answer (script_rules all) p n left ≡ total → total ≡ Err (n, code.End)
missing all p n left total e bad so_far = generic.ends_short (script_rules all) p n left code.End total e (rw bad refl) so_far

pub ruleset steps = (goes_on, stops, ends, missing, views_at, views_past)
