-- The words from left to right, which is how the code reads them. For private calls.
use Rattle.std.specs.Prelude.{ℕ, List, [], ◌∷◌, if◌then◌else◌, Option, None, Some, Result, Ok, Err}
use Rattle.std.specs.List.{list_any}
use Rattle.command_words.specs.declared.command.Command.{Command}
use Rattle.command_words.specs.declared.command.Command.TheVariants as command
use Rattle.command_words.specs.declared.asked.Plan.{Plan}
use Rattle.command_words.specs.declared.asked.Plan.TheVariants.{Sim, Run, Show, View, Large, Audit, Guard, Save, Restore}
use Rattle.command_words.specs.declared.asked.PlanError.{PlanError}
use Rattle.command_words.specs.declared.asked.PlanError.TheVariants.{Fault}
use Rattle.command_words.specs.Words.{command_of, number_up_to, is_option, last_class, last_number}

-- the plan where no word is left
abbrev pub ended : {T : Type 0} → T → List (List ℕ) → Result T PlanError
ended plan [] = Ok plan
ended plan (word ∷ more) = Err (Fault 6)

-- the number where it is there and no word is left
abbrev pub number_ended : List (List ℕ) → Option ℕ → Result ℕ PlanError
number_ended more None = Err (Fault 5)
number_ended more (Some n) = ended n more

-- the number up to the greatest one that the words are
abbrev pub number_alone : ℕ → List (List ℕ) → Result ℕ PlanError
number_alone greatest [] = Err (Fault 4)
number_alone greatest (word ∷ more) = number_ended more (number_up_to greatest word)

-- the plan of a number that is there
abbrev pub with_number : (ℕ → Plan) → Result ℕ PlanError → Result Plan PlanError
with_number plan (Ok n) = Ok (plan n)
with_number plan (Err why) = Err why

-- the plan of a command and what stands behind it
abbrev pub planned : Command → List (List ℕ) → Result Plan PlanError
planned command.Sim rest = ended Sim rest
planned command.Run rest = ended Run rest
planned command.Show rest = ended Show rest
planned command.View rest = with_number (λ n. View n) (number_alone last_class rest)
planned command.Large rest = with_number (λ n. Large n) (number_alone last_number rest)
planned command.Audit rest = with_number (λ n. Audit n) (number_alone last_class rest)
planned command.Guard rest = ended Guard rest
planned command.Save rest = ended Save rest
planned command.Restore rest = ended Restore rest

-- likewise, where the command is there
abbrev pub planned_where_known : Option Command → List (List ℕ) → Result Plan PlanError
planned_where_known None rest = Err (Fault 3)
planned_where_known (Some c) rest = planned c rest

-- the plan of words without an option
abbrev pub plan_of_plain : List (List ℕ) → Result Plan PlanError
plan_of_plain [] = Err (Fault 2)
plan_of_plain (word ∷ rest) = planned_where_known (command_of word) rest

-- the plan of the words
abbrev pub plan_of : List (List ℕ) → Result Plan PlanError
plan_of words = if list_any is_option words then Err (Fault 1) else plan_of_plain words
