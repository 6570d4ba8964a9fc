-- The words from left to right have just the fault that the kinds have in their order.
use Rattle.std.proofs.Common.{◌≡◌, ℕ, Bool, true, false, cond, not, List, [], ◌∷◌, Option, Some, None, Result, Ok, Err, refl, sym, ap, ◌∙◌}
use Rattle.std.specs.Prelude.{◌↔◌, is_none}
use Rattle.std.specs.List.{list_any}
use Rattle.text_lines.specs.Faults.{first_code}
use Rattle.command_words.specs.declared.command.Command.{Command}
use Rattle.command_words.specs.declared.command.Command.TheVariants as command
use Rattle.command_words.specs.declared.asked.Plan.{Plan}
use Rattle.command_words.specs.declared.asked.Plan.TheVariants.{Sim, Run, Show, View, Large, Audit, Guard, Save, Restore}
use Rattle.command_words.specs.declared.asked.PlanError.{PlanError}
use Rattle.command_words.specs.declared.asked.PlanError.TheVariants.{Fault}
use Rattle.command_words.specs.Words.{command_of, number_up_to, is_option, is_empty, greatest_of, last_class, last_number, lacks_number, has_bad_number, has_word_too_many, kinds}
use Rattle.command_words.specs.Reading.{ended, number_ended, number_alone, with_number, planned_where_known, plan_of}

-- the kind of an answer's fault
abbrev pub fault_of : Result Plan PlanError → Option ℕ
fault_of (Ok p) = None
fault_of (Err (Fault kind)) = Some kind

alone : (plan : Plan) (rest : List (List ℕ)) → cond (has_word_too_many None rest) (Some 6) None ≡ fault_of (ended plan rest)
alone plan [] = refl
alone plan (w ∷ more) = refl

behind_number : (plan : ℕ → Plan) (more : List (List ℕ)) (n : Option ℕ) → cond (is_none n) (Some 5) (cond (not (is_empty more)) (Some 6) None) ≡ fault_of (with_number plan (number_ended more n))
behind_number plan more None = refl
behind_number plan [] (Some n) = refl
behind_number plan (w ∷ more) (Some n) = refl

numbered : (plan : ℕ → Plan) (greatest : ℕ) (rest : List (List ℕ))
    → cond (lacks_number (Some greatest) rest) (Some 4) (cond (has_bad_number (Some greatest) rest) (Some 5) (cond (has_word_too_many (Some greatest) rest) (Some 6) None)) ≡ fault_of (with_number plan (number_alone greatest rest))
numbered plan greatest [] = refl
numbered plan greatest (w ∷ more) = behind_number plan more (number_up_to greatest w)

known : (dash : Bool) (c : Option Command) (rest : List (List ℕ))
    → first_code ((dash, 1) ∷ (false, 2) ∷ (is_none c, 3) ∷ (lacks_number (greatest_of c) rest, 4) ∷ (has_bad_number (greatest_of c) rest, 5) ∷ (has_word_too_many (greatest_of c) rest, 6) ∷ [])
    ≡ fault_of (cond dash (Err (Fault 1)) (planned_where_known c rest))
known true c rest = refl
known false None rest = refl
known false (Some command.Sim) rest = alone Sim rest
known false (Some command.Run) rest = alone Run rest
known false (Some command.Show) rest = alone Show rest
known false (Some command.View) rest = numbered (λ n. View n) last_class rest
known false (Some command.Large) rest = numbered (λ n. Large n) last_number rest
known false (Some command.Audit) rest = numbered (λ n. Audit n) last_class rest
known false (Some command.Guard) rest = alone Guard rest
known false (Some command.Save) rest = alone Save rest
known false (Some command.Restore) rest = alone Restore rest

pub kind_is : (words : List (List ℕ)) → first_code (kinds words) ≡ fault_of (plan_of words)
kind_is [] = refl
kind_is (w ∷ rest) = known (list_any is_option (w ∷ rest)) (command_of w) rest

to_fault : (r : Result Plan PlanError) (kind : ℕ) → fault_of r ≡ Some kind → r ≡ Err (Fault kind)
to_fault (Ok p) kind e = cc
to_fault (Err (Fault k)) kind e = cc

-- the answer is a fault of this kind just where this is the first kind
pub refused : (words : List (List ℕ)) (kind : ℕ) → (plan_of words ≡ Err (Fault kind)) ↔ (first_code (kinds words) ≡ Some kind)
refused words kind = (λ e. kind_is words ∙ ap fault_of e, λ e. to_fault (plan_of words) kind (sym (kind_is words) ∙ e))
