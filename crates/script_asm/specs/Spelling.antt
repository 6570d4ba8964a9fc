-- Which program a script's lines spell, by cases and apart from any order of reading.
use Rattle.std.specs.Prelude.{◌≡◌, ℕ, ◌<◌, ◌≤◌, ◌^◌, List, [], ◌∷◌, ◌++◌, length, filter, Bool, true, false, IsTrue, ◌⊎◌}
use Rattle.std.specs.List.{AllZip, list_all, list_any}
use Rattle.std.specs.Str.Parse.{IsNumeral, digits_value}
use Rattle.text_lines.specs.Number.{IsNumber}
use Rattle.text_lines.specs.Name.{all_allowed}
use Rattle.script_lang.specs.declared.instr.Instr.{Instr}
use Rattle.script_lang.specs.Program.{program_ok}
use Rattle.script_asm.specs.declared.op.Kind.{Kind}
use Rattle.script_asm.specs.declared.op.Kind.TheVariants.{Register, Immediate, Target, Index}
use Rattle.script_asm.specs.Operand.{Word, op_text}
use Rattle.script_asm.specs.Item.{Item, mnemonic, value, instr_items}
use Rattle.script_asm.specs.Script.{begins_at, names_place, head_of, is_instruction, is_word, instructions, words_in}

-- the most bytes of a text
abbrev pub max_text : ℕ
max_text = 1048576

-- ---- words

-- `r` and a number from 0 to 15
pub record IsRegister (w : Word) (n : ℕ) : Type 0 where
  pub digits : Word
  pub spelled : w ≡ 114 ∷ digits
  pub number : IsNumber digits n
  pub range : n ≤ 15

-- decimal digits of a number below 2 ^ 64
pub record IsDecimal (w : Word) (n : ℕ) : Type 0 where
  pub number : IsNumber w n
  pub range : n < 2 ^ 64

-- `0x` and 1 to 16 hexadecimal digits, of either case
pub record IsHexadecimal (w : Word) (n : ℕ) : Type 0 where
  pub digits : Word
  pub spelled : w ≡ 48 ∷ 120 ∷ digits
  pub numeral : IsNumeral 16 digits
  pub few : length digits ≤ 16
  pub number : digits_value 16 digits ≡ n

-- a line that the word names, with so many instruction lines before it
pub record IsNamedPlace (all : List (List Word)) (w : Word) (n : ℕ) : Type 0 where
  pub before : List (List Word)
  pub after : List (List Word)
  pub name : names_place w ≡ true
  pub line : all ≡ before ++ (w ∷ []) ∷ after
  pub place : instructions before ≡ n

-- a number from 0 to 31
pub record IsIndex (w : Word) (n : ℕ) : Type 0 where
  pub number : IsNumber w n
  pub range : n ≤ 31

-- Among lines with these words, the word spells this number as an operand of the kind.
abbrev pub IsOperand : List (List Word) → Word → Kind → ℕ → Type 0
IsOperand all w Register n = IsRegister w n
IsOperand all w Immediate n = IsDecimal w n ⊎ IsHexadecimal w n
IsOperand all w Target n = IsDecimal w n ⊎ IsNamedPlace all w n
IsOperand all w Index n = IsIndex w n

-- The word says this.
abbrev pub IsItem : List (List Word) → Word → Item → Type 0
IsItem all w (mnemonic o) = w ≡ op_text o
IsItem all w (value k n) = IsOperand all w k n

-- ---- lines

-- These words are those of an instruction.
abbrev pub IsInstr : List (List Word) → List Word → Instr → Type 0
IsInstr all ws i = AllZip (IsItem all) ws (instr_items i)

-- Whether the line begins with `@`.
abbrev pub is_name_line : List Word → Bool
is_name_line [] = false
is_name_line (w ∷ ws) = begins_at w

-- Whether one of the lines has this name.
abbrev pub is_named : List (List Word) → Word → Bool
is_named ls w = list_any (λ ws. is_word w (head_of ws)) ls

-- The line is `@` and a name, alone, and no line before has that name.
pub record NamesNew (before : List (List Word)) (ws : List Word) : Type 0 where
  pub word : Word
  pub alone : ws ≡ word ∷ []
  pub name : names_place word ≡ true
  pub new : is_named before word ≡ false

-- Each line that begins with `@` names a place by a new name.
abbrev pub AreNewNames : List (List Word) → Type 0
AreNewNames all = (before after : List (List Word)) (ws : List Word) → all ≡ before ++ ws ∷ after → IsTrue (is_name_line ws) → NamesNew before ws

-- ---- scripts

-- Each byte of the lines is allowed.
abbrev pub are_allowed : List (List ℕ) → Bool
are_allowed ls = list_all all_allowed ls

-- The lines spell the program.
pub record Spells (ls : List (List ℕ)) (program : List Instr) : Type 0 where
  pub bytes : are_allowed ls ≡ true
  -- One by one, the instruction lines are those of the instructions.
  pub instrs : AllZip (IsInstr (words_in ls)) (filter is_instruction (words_in ls)) program
  pub names : AreNewNames (words_in ls)
  pub valid : IsTrue (program_ok program)
