-- The codes of a script's lines, and what a script says. A code may depend on the whole script, so the words of all
-- its lines are an argument.
use Rattle.std.specs.Prelude.{ℕ, ◌+◌, ◌-◌, ◌*◌, ◌^◌, List, [], ◌∷◌, ◌++◌, length, map, Bool, true, false, not, ◌==◌, ◌&&◌, ◌||◌, nat_le, nat_lt, if◌then◌else◌, Option, Some, None, option_map, option_and_then, Result, Ok, Err}
use Rattle.std.specs.Result.{result_unwrap_or}
use Rattle.std.specs.Option.{option_map_or}
use Rattle.std.specs.Str.{bytes_eq}
use Rattle.text_lines.specs.Lines.{words_of}
use Rattle.text_lines.specs.Number.{misspelt, value_of}
use Rattle.text_lines.specs.Name.{is_name, all_allowed}
use Rattle.text_lines.specs.Faults.{Tests, LineRules}
use Rattle.script_lang.specs.declared.instr.Instr.{Instr}
use Rattle.script_lang.specs.Fault.{ends_well}
use Rattle.script_asm.specs.declared.named.Named.{Named}
use Rattle.script_asm.specs.declared.op.Op.{Op}
use Rattle.script_asm.specs.declared.op.Op.TheVariants as op
use Rattle.script_asm.specs.declared.op.Kind.{Kind}
use Rattle.script_asm.specs.declared.op.Kind.TheVariants.{Register, Immediate, Target, Index}
use Rattle.script_asm.specs.declared.fault.Code.{Code}
use Rattle.script_asm.specs.declared.fault.Code.TheVariants as code
use Rattle.script_asm.specs.Operand.{Word, op_text, kinds, instr_of}

infixl 10 ◌>>=◌
-- the next step, where this one gave something
abbrev ◌>>=◌ : {A B : Type 0} → Option A → (A → Option B) → Option B
o >>= f = option_and_then f o

-- ---- words

-- the number of a code
abbrev pub code_number : Code → ℕ
code_number code.Mnemonic = 1
code_number code.Form = 2
code_number code.Number = 3
code_number code.Register = 4
code_number code.Twice = 5
code_number code.Nameless = 6
code_number code.Long = 7
code_number code.End = 8
code_number code.Past = 9

-- The word begins with `@`.
abbrev pub begins_at : Word → Bool
begins_at [] = false
begins_at (b ∷ bs) = b == 64

-- `@` and a name
abbrev pub names_place : Word → Bool
names_place [] = false
names_place (b ∷ bs) = b == 64 && is_name bs

-- all mnemonics
abbrev pub all_ops : List Op
all_ops = op.Halt ∷ op.Set ∷ op.Copy ∷ op.Add ∷ op.Sub ∷ op.Jump ∷ op.JumpZ ∷ op.JumpL ∷ op.Get ∷ op.Put ∷ op.Call ∷ op.Ret ∷ op.Spawn ∷ op.MakeKnown ∷ op.Terminate ∷ op.Create ∷ op.Delete ∷ op.SwapIn ∷ op.SwapOut ∷ op.Fetch ∷ op.Update ∷ op.Read ∷ op.Await ∷ op.Advance ∷ op.Ticket ∷ op.Out ∷ []

-- the first of these mnemonics whose text is the word
abbrev pub op_among : List Op → Word → Option Op
op_among [] w = None
op_among (o ∷ os) w = if bytes_eq w (op_text o) then Some o else op_among os w

-- the mnemonic that the word is
unfoldable pub op_of : Word → Option Op
op_of w = op_among all_ops w

-- ---- operands

-- a number that isn't misspelt
abbrev pub spelled : Word → Option ℕ
spelled w = if misspelt w then None else Some (value_of w)

-- that number, where it is at most the bound
abbrev pub up_to : ℕ → Option ℕ → Option ℕ
up_to bound None = None
up_to bound (Some n) = if nat_le n bound then Some n else None

-- the number of a register, `r0` to `r15`
abbrev pub register_of : Word → Option ℕ
register_of [] = None
register_of (b ∷ bs) = if b == 114 then up_to 15 (spelled bs) else None

-- a hexadecimal digit of either case
abbrev pub hex_digit : ℕ → Option ℕ
hex_digit b = if nat_le 48 b && nat_le b 57 then Some (b - 48) else if nat_le 97 b && nat_le b 102 then Some (b - 87) else if nat_le 65 b && nat_le b 70 then Some (b - 55) else None

-- the number with one more hexadecimal digit behind it, where it stays below 2 ^ 64
abbrev pub with_hex_digit : Option ℕ → ℕ → Option ℕ
with_hex_digit number b = do
  n ← number
  d ← hex_digit b
  if nat_lt (n * 16 + d) (2 ^ 64) then Some (n * 16 + d) else None

-- the number so far with these hexadecimal digits behind it
abbrev pub hex_after : Option ℕ → List ℕ → Option ℕ
hex_after number [] = number
hex_after number (b ∷ bs) = hex_after (with_hex_digit number b) bs

-- 1 to 16 hexadecimal digits
abbrev pub hex_of : Word → Option ℕ
hex_of digits = if nat_lt 0 (length digits) && nat_le (length digits) 16 then hex_after (Some 0) digits else None

-- a number, or `0x` and 1 to 16 hexadecimal digits
abbrev pub immediate_of : Word → Option ℕ
immediate_of (b ∷ c ∷ bs) = if b == 48 && c == 120 then hex_of bs else spelled (b ∷ c ∷ bs)
immediate_of w = spelled w

-- ---- named places

-- the first word
abbrev pub head_of : List Word → Option Word
head_of [] = None
head_of (w ∷ ws) = Some w

-- Whether a line with this first word is an instruction line.
abbrev pub starts_instruction : Option Word → Bool
starts_instruction None = false
starts_instruction (Some w) = not (begins_at w)

-- Whether these words are those of an instruction line.
abbrev pub is_instruction : List Word → Bool
is_instruction ws = starts_instruction (head_of ws)

-- the number of instruction lines
abbrev pub instructions : List (List Word) → ℕ
instructions [] = 0
instructions (ws ∷ more) = (if is_instruction ws then 1 else 0) + instructions more

-- Whether the first word is this one.
abbrev pub is_word : Word → Option Word → Bool
is_word name None = false
is_word name (Some w) = bytes_eq w name

-- the first of the lines whose first word is this one, and the number of instruction lines before it; these lines are
-- counted from `line` on, and their instruction lines from `place` on
abbrev pub first_named : List (List Word) → Word → ℕ → ℕ → Option Named
first_named [] name line place = None
first_named (ws ∷ more) name line place =
    if is_word name (head_of ws) then Some (record { line = line; place = place }) else first_named more name (line + 1) (place + (if is_instruction ws then 1 else 0))

-- the first line of the script that has the name, `@` and all, and its place
unfoldable pub named : List (List Word) → Word → Option Named
named all name = if names_place name then first_named all name 0 0 else None

-- ---- operands of a line

-- the number, or this code
abbrev pub number_or : Option ℕ → Code → Result ℕ Code
number_or None c = Err c
number_or (Some n) c = Ok n

-- a target, which is to be below the number of instruction lines
abbrev pub within : ℕ → Result ℕ Code → Result ℕ Code
within count (Ok n) = if nat_le count n then Err code.Past else Ok n
within count (Err c) = Err c

-- a target: a number, or the place of a name
abbrev pub target_of : List (List Word) → Word → Result ℕ Code
target_of all w = if begins_at w then number_or (option_map (λ n. n.place) (named all w)) code.Nameless else number_or (spelled w) code.Number

-- the operand's number, or its code
unfoldable pub operand : List (List Word) → Kind → Word → Result ℕ Code
operand all Register w = number_or (register_of w) code.Register
operand all Immediate w = number_or (immediate_of w) code.Number
operand all Target w = within (instructions all) (target_of all w)
operand all Index w = number_or (up_to 31 (spelled w)) code.Number

-- Whether it has this code.
abbrev pub is_code : Code → Result ℕ Code → Bool
is_code c (Ok n) = false
is_code c (Err d) = code_number d == code_number c

-- Whether one of the operands has this code.
abbrev pub has_code : List (List Word) → Code → List Kind → List Word → Bool
has_code all c [] ws = false
has_code all c (k ∷ ks) [] = false
has_code all c (k ∷ ks) (w ∷ ws) = is_code c (operand all k w) || has_code all c ks ws

-- the number of the first operand, 0 where there is none
abbrev pub first_value : List (List Word) → List Kind → List Word → ℕ
first_value all [] ws = 0
first_value all (k ∷ ks) [] = 0
first_value all (k ∷ ks) (w ∷ ws) = result_unwrap_or (operand all k w) 0

-- all but the first
abbrev pub tail_of : {X : Type 0} → List X → List X
tail_of [] = []
tail_of (x ∷ xs) = xs

-- ---- each kind of line: its tests with their codes, in rising order, and what it adds

-- how many lines there were so far, and their instructions
pub record Place : Type 0 where
  pub line : ℕ
  pub program : List Instr

-- before the first line
abbrev pub start : Place
start = record { line = 0; program = [] }

-- Whether an earlier line has the name.
abbrev pub stood_before : List (List Word) → ℕ → Word → Bool
stood_before all line w = option_map_or (λ n. nat_lt n.line line) (named all w) false

-- `@name`, alone
unfoldable pub name_tests : List (List Word) → ℕ → Word → List Word → Tests Code
name_tests all line w ws = (not (names_place w), code.Form) ∷ (nat_lt 0 (length ws), code.Form) ∷ (stood_before all line w, code.Twice) ∷ []

-- the operands of an instruction, with `at` instructions before it
unfoldable pub operand_tests : List (List Word) → ℕ → List Kind → List Word → Tests Code
operand_tests all at ks ws =
    (has_code all code.Number ks ws, code.Number)
    ∷ (has_code all code.Register ks ws, code.Register)
    ∷ (has_code all code.Nameless ks ws, code.Nameless)
    ∷ (nat_le 256 at, code.Long)
    ∷ (has_code all code.Past ks ws, code.Past)
    ∷ []

-- an instruction
abbrev pub instr_tests : List (List Word) → ℕ → Option Op → List Word → Tests Code
instr_tests all at None ws = (true, code.Mnemonic) ∷ []
instr_tests all at (Some o) ws = (not (length ws == length (kinds o)), code.Form) ∷ operand_tests all at (kinds o) ws

-- A line without a word means nothing.
abbrev pub word_tests : List (List Word) → Place → List Word → Tests Code
word_tests all p [] = []
word_tests all p (w ∷ ws) = if begins_at w then name_tests all p.line w ws else instr_tests all (length p.program) (op_of w) ws

-- the instruction of a line
unfoldable pub made : List (List Word) → Op → List Word → Instr
made all o ws =
    let k = kinds o in
    instr_of o (first_value all k ws) (first_value all (tail_of k) (tail_of ws)) (first_value all (tail_of (tail_of k)) (tail_of (tail_of ws)))
    (first_value all (tail_of (tail_of (tail_of k))) (tail_of (tail_of (tail_of ws)))) (first_value all (tail_of (tail_of (tail_of (tail_of k)))) (tail_of (tail_of (tail_of (tail_of ws)))))

-- what a line adds to the program
abbrev pub added : List (List Word) → Option Op → List Word → List Instr
added all None ws = []
added all (Some o) ws = made all o ws ∷ []

-- what a line of these words adds
abbrev pub added_by : List (List Word) → List Word → List Instr
added_by all [] = []
added_by all (w ∷ ws) = if begins_at w then [] else added all (op_of w) ws

-- the place after a line that adds these instructions
abbrev pub next_place_with : Place → List Instr → Place
next_place_with p more = record { line = p.line + 1; program = p.program ++ more }

-- the place after a line
abbrev pub next_place : List (List Word) → Place → List Word → Place
next_place all p ws = next_place_with p (added_by all ws)

-- the tests of a line
abbrev pub line_tests : List (List Word) → Place → List ℕ → Tests Code
line_tests all p line = (not (all_allowed line), code.Mnemonic) ∷ word_tests all p (words_of line)

-- the test of the end of the text
abbrev pub end_tests : Place → Tests Code
end_tests p = (not (ends_well p.program), code.End) ∷ []

-- How a script judges its lines.
abbrev pub script_rules : List (List Word) → LineRules Code Place
script_rules all = record {
  number = code_number;
  tests = λ p line more. line_tests all p line;
  next = λ p line more. next_place all p (words_of line);
  last = end_tests;
}

-- the words of the lines
abbrev pub words_in : List (List ℕ) → List (List Word)
words_in ls = map words_of ls
