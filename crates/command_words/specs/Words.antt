-- The words behind the program's name: the accepted lists, and the kinds of usage fault of every other list. For `plan`.
use Rattle.std.specs.Prelude.{◌≡◌, ℕ, ◌^◌, ◌-◌, ◌≤◌, List, [], ◌∷◌, drop, codes, Bool, true, false, not, ◌==◌, slice_index, nat_le, if◌then◌else◌, Option, None, Some, is_none, Result, Ok, Err}
use Rattle.std.specs.List.{list_any}
use Rattle.std.specs.Str.{bytes_eq}
use Rattle.text_lines.specs.declared.decimal.NumberFault.{NumberFault}
use Rattle.text_lines.specs.Number.{IsNumber, number_of}
use Rattle.text_lines.specs.Faults.{Tests}
use Rattle.command_words.specs.declared.command.Command.{Command}
use Rattle.command_words.specs.declared.command.Command.TheVariants as command
use Rattle.command_words.specs.declared.asked.Plan.{Plan}
use Rattle.command_words.specs.declared.asked.Plan.TheVariants.{Sim, Run, Show, View, Large, Audit, Guard, Save, Restore}

-- ---- the accepted lists

-- the greatest number of a class
abbrev pub last_class : ℕ
last_class = 15

-- the greatest number of 64 bits
abbrev pub last_number : ℕ
last_number = 2 ^ 64 - 1

-- The words are this one and a number up to the greatest one, in decimal digits without a needless zero in front.
pub record AreNumbered (words : List (List ℕ)) (command : List ℕ) (greatest n : ℕ) : Type 0 where
  pub number : List ℕ
  pub list : words ≡ command ∷ number ∷ []
  pub spells : IsNumber number n
  pub within : n ≤ greatest

-- The list of words is accepted, and asks for this.
abbrev pub Accepts : List (List ℕ) → Plan → Type 0
Accepts words Sim = words ≡ codes "sim" ∷ []
Accepts words Run = words ≡ codes "run" ∷ []
Accepts words Show = words ≡ codes "show" ∷ []
Accepts words (View class) = AreNumbered words (codes "view") last_class class
Accepts words (Large number) = AreNumbered words (codes "large") last_number number
Accepts words (Audit class) = AreNumbered words (codes "audit") last_class class
Accepts words Guard = words ≡ codes "guard" ∷ []
Accepts words Save = words ≡ codes "save" ∷ []
Accepts words Restore = words ≡ codes "restore" ∷ []

-- ---- commands and their numbers

-- the command of a word
abbrev pub command_of : List ℕ → Option Command
command_of word =
    if bytes_eq word (codes "sim") then Some command.Sim
    else (if bytes_eq word (codes "run") then Some command.Run
    else (if bytes_eq word (codes "show") then Some command.Show
    else (if bytes_eq word (codes "view") then Some command.View
    else (if bytes_eq word (codes "large") then Some command.Large
    else (if bytes_eq word (codes "audit") then Some command.Audit
    else (if bytes_eq word (codes "guard") then Some command.Guard
    else (if bytes_eq word (codes "save") then Some command.Save
    else (if bytes_eq word (codes "restore") then Some command.Restore
    else None))))))))

-- the command of the first word
abbrev pub first_command : List (List ℕ) → Option Command
first_command [] = None
first_command (word ∷ rest) = command_of word

-- what stands behind the first word
abbrev pub behind : List (List ℕ) → List (List ℕ)
behind words = drop 1 words

-- the greatest number that a command takes behind its word, where it takes one
abbrev pub greatest_of : Option Command → Option ℕ
greatest_of (Some command.View) = Some last_class
greatest_of (Some command.Large) = Some last_number
greatest_of (Some command.Audit) = Some last_class
greatest_of other = None

-- the number, where it is there and at most the greatest one
abbrev pub up_to : ℕ → Result ℕ NumberFault → Option ℕ
up_to greatest (Ok n) = if nat_le n greatest then Some n else None
up_to greatest (Err why) = None

-- the number up to the greatest one that the word spells
abbrev pub number_up_to : ℕ → List ℕ → Option ℕ
number_up_to greatest word = up_to greatest (number_of word)

-- ---- the kinds of fault

-- the word begins with `-`
abbrev pub is_option : List ℕ → Bool
is_option word = slice_index word 0 == 45

-- there is no word
abbrev pub is_empty : List (List ℕ) → Bool
is_empty [] = true
is_empty (word ∷ more) = false

-- The command takes a number, and there is none behind it.
abbrev pub lacks_number : Option ℕ → List (List ℕ) → Bool
lacks_number None rest = false
lacks_number (Some greatest) rest = is_empty rest

-- The command takes a number, and the word behind it spells none up to the greatest one.
abbrev pub has_bad_number : Option ℕ → List (List ℕ) → Bool
has_bad_number (Some greatest) (word ∷ more) = is_none (number_up_to greatest word)
has_bad_number greatest rest = false

-- There is a word behind the command and its number.
abbrev pub has_word_too_many : Option ℕ → List (List ℕ) → Bool
has_word_too_many None rest = not (is_empty rest)
has_word_too_many (Some greatest) rest = not (is_empty (drop 1 rest))

-- The kinds, each with its test, in the order in which they are tried: the first that holds is the fault. No test holds just
-- where the list is accepted.
abbrev pub kinds : List (List ℕ) → Tests ℕ
kinds words =
    let greatest = greatest_of (first_command words) in (
    (list_any is_option words, 1)
    ∷ (is_empty words, 2)
    ∷ (is_none (first_command words), 3)
    ∷ (lacks_number greatest (behind words), 4)
    ∷ (has_bad_number greatest (behind words), 5)
    ∷ (has_word_too_many greatest (behind words), 6)
    ∷ []
    )
