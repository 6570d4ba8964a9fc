-- The text of a configuration: its lines, each as the words that it has.
use Rattle.std.specs.Prelude.{ℕ, List, [], ◌∷◌, ◌++◌, map, codes, length, slice_index_or}
use Rattle.std.specs.List.{flat_map}
use Rattle.std.specs.Fmt.{decimal}
use Rattle.text_lines.specs.Printed.{spaced, printed}
use Rattle.labels.specs.Label.{Label, ClassEntry}
use Rattle.labels.specs.Spelling.{label_text}
use Rattle.rings.specs.Brackets.{Brackets}
use Rattle.script_lang.specs.declared.instr.Instr.{Instr}
use Rattle.script_lang.specs.declared.instr.Instr.TheVariants as I
use Rattle.config_text.specs.declared.config.Pool.{Pool}
use Rattle.config_text.specs.declared.config.Script.{Script}
use Rattle.config_text.specs.declared.config.GateLine.{GateLine}
use Rattle.config_text.specs.declared.config.ProcessLine.{ProcessLine}
use Rattle.config_text.specs.declared.config.Item.{Item}
use Rattle.config_text.specs.declared.config.Item.TheVariants as item
use Rattle.config_text.specs.declared.config.Config.{Config}

-- a word of a line, by what it says
pub data Word : Type 0 where
  -- this very text
  fixed : List ℕ → Word
  -- a number
  number : ℕ → Word
  -- a label
  label : Label → Word
  -- a register
  register : ℕ → Word
  -- the number of `set`
  immediate : ℕ → Word
  -- a place of the script
  target : ℕ → Word
  -- so many events of a processor and a class
  events : ℕ → ℕ → ℕ → Word

-- the word as it is written: numbers in decimal digits
abbrev pub word_text : Word → List ℕ
word_text (fixed text) = text
word_text (number n) = decimal n
word_text (label l) = label_text l
word_text (register n) = 114 ∷ decimal n
word_text (immediate n) = decimal n
word_text (target n) = decimal n
word_text (events p c n) = decimal p ++ 46 ∷ (decimal c ++ 42 ∷ decimal n)

-- the words with one blank between
abbrev pub line_text : List Word → List ℕ
line_text words = spaced (map word_text words)

-- ---- instructions

-- a mnemonic and registers
abbrev pub with_registers : List ℕ → List ℕ → List Word
with_registers mnemonic registers = fixed mnemonic ∷ map register registers

-- the words of an instruction
abbrev pub instr_line : Instr → List Word
instr_line I.Halt = fixed (codes "halt") ∷ []
instr_line (I.Set a n) = fixed (codes "set") ∷ register a ∷ immediate n ∷ []
instr_line (I.Copy a b) = with_registers (codes "copy") (a ∷ b ∷ [])
instr_line (I.Add a b) = with_registers (codes "add") (a ∷ b ∷ [])
instr_line (I.Sub a b) = with_registers (codes "sub") (a ∷ b ∷ [])
instr_line (I.Jump to) = fixed (codes "jump") ∷ target to ∷ []
instr_line (I.JumpZ a to) = fixed (codes "jumpz") ∷ register a ∷ target to ∷ []
instr_line (I.JumpL a b to) = fixed (codes "jumpl") ∷ register a ∷ register b ∷ target to ∷ []
instr_line (I.Get a b) = with_registers (codes "get") (a ∷ b ∷ [])
instr_line (I.Put a b) = with_registers (codes "put") (a ∷ b ∷ [])
instr_line (I.Call g) = fixed (codes "call") ∷ number g ∷ []
instr_line I.Ret = fixed (codes "ret") ∷ []
instr_line (I.Spawn s b) = fixed (codes "spawn") ∷ number s ∷ register b ∷ []
instr_line (I.MakeKnown a b c) = with_registers (codes "makeknown") (a ∷ b ∷ c ∷ [])
instr_line (I.Terminate a) = with_registers (codes "terminate") (a ∷ [])
instr_line (I.Create a b c d e) = with_registers (codes "create") (a ∷ b ∷ c ∷ d ∷ e ∷ [])
instr_line (I.Delete a b) = with_registers (codes "delete") (a ∷ b ∷ [])
instr_line (I.SwapIn a) = with_registers (codes "swapin") (a ∷ [])
instr_line (I.SwapOut a) = with_registers (codes "swapout") (a ∷ [])
instr_line (I.Fetch a b c d) = with_registers (codes "fetch") (a ∷ b ∷ c ∷ d ∷ [])
instr_line (I.Update a b c d) = with_registers (codes "update") (a ∷ b ∷ c ∷ d ∷ [])
instr_line (I.Read a) = with_registers (codes "read") (a ∷ [])
instr_line (I.Await a b) = with_registers (codes "await") (a ∷ b ∷ [])
instr_line (I.Advance a) = with_registers (codes "advance") (a ∷ [])
instr_line (I.Ticket a) = with_registers (codes "ticket") (a ∷ [])
instr_line (I.Out a) = with_registers (codes "out") (a ∷ [])

-- ---- the lines of each kind

-- a keyword and a number
abbrev pub number_line : List ℕ → ℕ → List Word
number_line keyword n = fixed keyword ∷ number n ∷ []

-- the first line, with the number of the format
abbrev pub header_line : List Word
header_line = fixed (codes "gemkernel") ∷ fixed (codes "1") ∷ []

-- the line that ends a script, and the text
abbrev pub end_line : List Word
end_line = fixed (codes "end") ∷ []

-- a class: its name, its label, its pools and its volume
abbrev pub class_line : ClassEntry → Pool → List Word
class_line c p =
    fixed (codes "class") ∷ fixed c.name ∷ label c.label ∷ fixed (codes "frames") ∷ number p.frames ∷ fixed (codes "pages") ∷ number p.pages ∷
    fixed (codes "volume") ∷ number p.volume ∷ []

-- one line for each class, with its pool
abbrev pub class_lines : List ClassEntry → List Pool → List (List Word)
class_lines (c ∷ cs) (p ∷ ps) = class_line c p ∷ class_lines cs ps
class_lines _ _ = []

-- the classes of the cycle
abbrev pub cycle_line : List ℕ → List Word
cycle_line cycle = fixed (codes "cycle") ∷ map number cycle

-- `script C`, its instructions, `end`
abbrev pub script_lines : Script → List (List Word)
script_lines s = number_line (codes "script") s.class ∷ (map instr_line s.program ++ end_line ∷ [])

-- a gate: its class, its script and its brackets
abbrev pub gate_line : GateLine → List Word
gate_line g =
    fixed (codes "gate") ∷ number g.class ∷ number g.script ∷ number g.brackets.r1 ∷ number g.brackets.r2 ∷ number g.brackets.r3 ∷ []

-- a process: its processor, class, script and ring
abbrev pub process_line : ProcessLine → List Word
process_line p = fixed (codes "process") ∷ number p.processor ∷ number p.class ∷ number p.script ∷ number p.ring ∷ []

-- one event item a line
abbrev pub item_line : Item → List Word
item_line (item.Events p c n) = fixed (codes "events") ∷ events p c n ∷ []
item_line (item.Mix x n) = fixed (codes "mix") ∷ number x ∷ number n ∷ []
item_line (item.Sweep n) = number_line (codes "sweep") n

-- ---- the whole

-- the first lines, up to the classes
abbrev pub header_lines : Config → List (List Word)
header_lines k = header_line ∷ number_line (codes "classes") (length k.table) ∷ class_lines k.table k.pools

-- the lines of the header behind the classes
abbrev pub number_lines : Config → List (List Word)
number_lines k =
    number_line (codes "processors") k.processors ∷ cycle_line k.cycle ∷ number_line (codes "rounds") k.rounds ∷
    number_line (codes "quantum") k.quantum ∷ number_line (codes "console") k.console ∷ []

-- the lines before the scripts
abbrev pub front_lines : Config → List (List Word)
front_lines k = header_lines k ++ number_lines k

-- the lines of a configuration, in their order
abbrev pub config_lines : Config → List (List Word)
config_lines k =
    front_lines k ++ (flat_map script_lines k.scripts ++ (map gate_line k.gates ++
    (map process_line k.processes ++ (map item_line k.schedule ++ end_line ∷ []))))

-- the words of lines as they are written
abbrev pub texts_of : List (List Word) → List (List (List ℕ))
texts_of lines = map (λ words. map word_text words) lines

-- the text of a configuration
abbrev pub written : Config → List ℕ
written k = printed (texts_of (config_lines k))

-- a line with its line feed
abbrev pub ended : List Word → List ℕ
ended words = line_text words ++ 10 ∷ []

-- the front of the line of a class
abbrev pub class_text : List ℕ → Label → List ℕ
class_text name l = codes "class " ++ (name ++ 32 ∷ label_text l)

-- the rest of the line of a class
abbrev pub pool_text : Pool → List ℕ
pool_text p = codes " frames " ++ (decimal p.frames ++ (codes " pages " ++ (decimal p.pages ++ (codes " volume " ++ (decimal p.volume ++ 10 ∷ [])))))

-- numbers, each with a blank in front
abbrev pub blank_numbers : List ℕ → List ℕ
blank_numbers numbers = flat_map (λ n. 32 ∷ decimal n) numbers
