-- Which texts spell a configuration, and what is answered to a text.
use Rattle.std.specs.Prelude.{◌≡◌, ℕ, ◌≤◌, List, [], ◌∷◌, ◌++◌, map, codes, length, true, false, Result, Ok, Err}
use Rattle.std.specs.List.{AllZip, AllByRecursion, list_all, flat_map}
use Rattle.text_lines.specs.Number.{IsNumber}
use Rattle.text_lines.specs.Lines.{lines, words_of}
use Rattle.text_lines.specs.Name.{all_allowed}
use Rattle.text_lines.specs.Faults.{IsFirstFault, IsFaultless}
use Rattle.labels.specs.Text.{Spells as SpellsLabel}
use Rattle.script_lang.specs.declared.instr.Instr.{Instr}
use Rattle.script_asm.specs.Spelling.{Spells as SpellsScript}
use Rattle.config_text.specs.declared.config.Script.{Script}
use Rattle.config_text.specs.declared.config.Item.{Item}
use Rattle.config_text.specs.declared.config.Item.TheVariants as item
use Rattle.config_text.specs.declared.config.Config.{Config}
use Rattle.config_text.specs.declared.fault.Code.{Code}
use Rattle.config_text.specs.declared.fault.ConfigError.{ConfigError}
use Rattle.config_text.specs.declared.fault.ConfigError.TheVariants as error
use Rattle.config_text.specs.Written.{Word, fixed, number, label, register, immediate, target, events, number_line, front_lines, gate_line, process_line, end_line}
use Rattle.config_text.specs.Valid.{IsValid}
use Rattle.config_text.specs.Codes.{code_number}
use Rattle.config_text.specs.Place.{Place, start, config_in}
use Rattle.config_text.specs.Rules.{Text, Line, is_end, config_rules}

-- ---- lines

-- The word of a line spells what it says. The words of instructions are spelled as scripts have it.
abbrev pub SpellsWord : Text → Word → Type 0
SpellsWord text (fixed w) = text ≡ w
SpellsWord text (number n) = IsNumber text n
SpellsWord text (label l) = SpellsLabel text l
SpellsWord text (register n) = ⊥
SpellsWord text (immediate n) = ⊥
SpellsWord text (target n) = ⊥
SpellsWord text (events p c n) = (a : Text) × (b : Text) × (d : Text) × (text ≡ a ++ 46 ∷ (b ++ 42 ∷ d)) × IsNumber a p × IsNumber b c × IsNumber d n

-- a line without a word, which means nothing
abbrev pub IsBlank : Line → Type 0
IsBlank line = words_of line ≡ []

-- The first of the lines that has a word spells these words, and it stands before the lines `after`.
pub record StartsWith (ls : List Line) (words : List Word) (after : List Line) : Type 0 where
  pub blank : List Line
  pub line : Line
  pub whole : ls ≡ blank ++ line ∷ after
  pub nothing : AllByRecursion IsBlank blank
  pub spelled : AllZip SpellsWord (words_of line) words

-- The lines up to the first one that is `end` spell the program, and that one stands before the lines `after`.
pub record StartsWithScript (ls : List Line) (program : List Instr) (after : List Line) : Type 0 where
  pub inside : List Line
  pub end : Line
  pub whole : ls ≡ inside ++ end ∷ after
  pub goes_on : AllByRecursion (λ line. is_end (words_of line) ≡ false) inside
  pub ends : is_end (words_of end) ≡ true
  pub spelled : SpellsScript inside program

-- ---- the whole

-- a part of a configuration's text: a line of words, or the lines of a script with its `end`
pub data Part : Type 0 where
  one_line : List Word → Part
  body : List Instr → Part

-- These lines spell the parts, one after the other.
abbrev pub AreParts : List Line → List Part → Type 0
AreParts ls [] = AllByRecursion IsBlank ls
AreParts ls (one_line words ∷ more) = (after : List Line) × StartsWith ls words after × AreParts after more
AreParts ls (body program ∷ more) = (after : List Line) × StartsWithScript ls program after × AreParts after more

-- an event item
abbrev pub IsEvent : Item → Type 0
IsEvent (item.Events p c n) = Unit {0}
IsEvent _ = ⊥

-- what one line says of the schedule: one item, or one event item and more of them
abbrev pub IsGroup : List Item → Type 0
IsGroup [] = ⊥
IsGroup (item.Events p c n ∷ more) = AllByRecursion IsEvent more
IsGroup (i ∷ []) = Unit {0}
IsGroup (i ∷ j ∷ more) = ⊥

-- the word of an event item
abbrev pub event_word : Item → Word
event_word (item.Events p c n) = events p c n
event_word _ = fixed []

-- the words of that line
abbrev pub group_line : List Item → List Word
group_line [] = []
group_line (item.Events p c n ∷ more) = fixed (codes "events") ∷ events p c n ∷ map event_word more
group_line (item.Mix x n ∷ more) = fixed (codes "mix") ∷ number x ∷ number n ∷ []
group_line (item.Sweep n ∷ more) = number_line (codes "sweep") n

-- `script C`, and the lines of the script
abbrev pub script_parts : Script → List Part
script_parts s = one_line (number_line (codes "script") s.class) ∷ body s.program ∷ []

-- each of these lines
abbrev pub as_lines : List (List Word) → List Part
as_lines ls = map one_line ls

-- the parts behind the header, where the schedule stands in these groups
abbrev pub body_parts : Config → List (List Item) → List Part
body_parts k groups =
    flat_map script_parts k.scripts ++ (as_lines (map gate_line k.gates) ++ (as_lines (map process_line k.processes) ++ as_lines (map group_line groups)))

-- the parts of a configuration, in their order
abbrev pub config_parts : Config → List (List Item) → List Part
config_parts k groups = as_lines (front_lines k) ++ (body_parts k groups ++ one_line end_line ∷ [])

-- The text spells the configuration.
pub record Spells (text : List ℕ) (k : Config) : Type 0 where
  pub bytes : list_all all_allowed (lines text) ≡ true
  -- Event items may share a line.
  pub groups : List (List Item)
  pub are_groups : AllByRecursion IsGroup groups
  pub schedule : flat_map (λ g. g) groups ≡ k.schedule
  pub parts : AreParts (lines text) (config_parts k groups)
  pub valid : IsValid k

-- ---- answers

-- the first faulty line of the text, counted from 1, and the number of its least code
abbrev pub IsFault : List ℕ → ℕ → ℕ → Type 0
IsFault text at n = (c : Code) × (n ≡ code_number c) × IsFirstFault config_rules start (lines text) at c

-- No line of the text has a code, and the lines say this configuration.
abbrev pub Says : List ℕ → Config → Type 0
Says text k = (q : Place) × IsFaultless config_rules start (lines text) q × (config_in q ≡ k)

-- The text spells some configuration.
abbrev pub SpellsOne : List ℕ → Type 0
SpellsOne text = (k : Config) × Spells text k

-- Some line of the text is the first faulty one, with its least code.
abbrev pub HasFault : List ℕ → Type 0
HasFault text = (line : ℕ) × (code : ℕ) × IsFault text line code

-- what is answered: the configuration that the text spells, its first fault, or no memory
abbrev pub AnswersText : List ℕ → Result Config ConfigError → Type 0
AnswersText text (Ok k) = Spells text k
AnswersText text (Err (error.Fault at n)) = IsFault text at n
AnswersText text (Err error.NoMemory) = Unit {0}

-- It is read as this configuration, unless memory runs out.
abbrev pub IsReadAs : Config → Result Config ConfigError → Type 0
IsReadAs k (Ok c) = c ≡ k
IsReadAs k (Err (error.Fault at n)) = ⊥
IsReadAs k (Err error.NoMemory) = Unit {0}

-- It is refused with this fault, unless memory runs out.
abbrev pub IsRefusedWith : ℕ → ℕ → Result Config ConfigError → Type 0
IsRefusedWith at n (Ok k) = ⊥
IsRefusedWith at n (Err (error.Fault a m)) = (a ≡ at) × (m ≡ n)
IsRefusedWith at n (Err error.NoMemory) = Unit {0}
