-- The words of an instruction: what each says, and how it is printed.
use Rattle.std.specs.Prelude.{ℕ, ◌<◌, ◌≤◌, ◌^◌, List, [], ◌∷◌, map}
use Rattle.std.specs.Fmt.{decimal}
use Rattle.script_lang.specs.declared.instr.Instr.{Instr}
use Rattle.script_lang.specs.declared.instr.Instr.TheVariants as instr
use Rattle.script_asm.specs.declared.op.Op.{Op}
use Rattle.script_asm.specs.declared.op.Op.TheVariants as op
use Rattle.script_asm.specs.declared.op.Kind.{Kind}
use Rattle.script_asm.specs.declared.op.Kind.TheVariants.{Register, Immediate, Target, Index}
use Rattle.script_asm.specs.Operand.{Word, op_text, kinds}

-- the mnemonic of an instruction
abbrev pub op_for : Instr → Op
op_for instr.Halt = op.Halt
op_for (instr.Set a b) = op.Set
op_for (instr.Copy a b) = op.Copy
op_for (instr.Add a b) = op.Add
op_for (instr.Sub a b) = op.Sub
op_for (instr.Jump a) = op.Jump
op_for (instr.JumpZ a b) = op.JumpZ
op_for (instr.JumpL a b c) = op.JumpL
op_for (instr.Get a b) = op.Get
op_for (instr.Put a b) = op.Put
op_for (instr.Call a) = op.Call
op_for instr.Ret = op.Ret
op_for (instr.Spawn a b) = op.Spawn
op_for (instr.MakeKnown a b c) = op.MakeKnown
op_for (instr.Terminate a) = op.Terminate
op_for (instr.Create a b c d e) = op.Create
op_for (instr.Delete a b) = op.Delete
op_for (instr.SwapIn a) = op.SwapIn
op_for (instr.SwapOut a) = op.SwapOut
op_for (instr.Fetch a b c d) = op.Fetch
op_for (instr.Update a b c d) = op.Update
op_for (instr.Read a) = op.Read
op_for (instr.Await a b) = op.Await
op_for (instr.Advance a) = op.Advance
op_for (instr.Ticket a) = op.Ticket
op_for (instr.Out a) = op.Out

-- the numbers of its operands, with zeros behind them
abbrev pub values_of : Instr → List ℕ
values_of instr.Halt = 0 ∷ 0 ∷ 0 ∷ 0 ∷ 0 ∷ []
values_of (instr.Set a b) = a ∷ b ∷ 0 ∷ 0 ∷ 0 ∷ []
values_of (instr.Copy a b) = a ∷ b ∷ 0 ∷ 0 ∷ 0 ∷ []
values_of (instr.Add a b) = a ∷ b ∷ 0 ∷ 0 ∷ 0 ∷ []
values_of (instr.Sub a b) = a ∷ b ∷ 0 ∷ 0 ∷ 0 ∷ []
values_of (instr.Jump a) = a ∷ 0 ∷ 0 ∷ 0 ∷ 0 ∷ []
values_of (instr.JumpZ a b) = a ∷ b ∷ 0 ∷ 0 ∷ 0 ∷ []
values_of (instr.JumpL a b c) = a ∷ b ∷ c ∷ 0 ∷ 0 ∷ []
values_of (instr.Get a b) = a ∷ b ∷ 0 ∷ 0 ∷ 0 ∷ []
values_of (instr.Put a b) = a ∷ b ∷ 0 ∷ 0 ∷ 0 ∷ []
values_of (instr.Call a) = a ∷ 0 ∷ 0 ∷ 0 ∷ 0 ∷ []
values_of instr.Ret = 0 ∷ 0 ∷ 0 ∷ 0 ∷ 0 ∷ []
values_of (instr.Spawn a b) = a ∷ b ∷ 0 ∷ 0 ∷ 0 ∷ []
values_of (instr.MakeKnown a b c) = a ∷ b ∷ c ∷ 0 ∷ 0 ∷ []
values_of (instr.Terminate a) = a ∷ 0 ∷ 0 ∷ 0 ∷ 0 ∷ []
values_of (instr.Create a b c d e) = a ∷ b ∷ c ∷ d ∷ e ∷ []
values_of (instr.Delete a b) = a ∷ b ∷ 0 ∷ 0 ∷ 0 ∷ []
values_of (instr.SwapIn a) = a ∷ 0 ∷ 0 ∷ 0 ∷ 0 ∷ []
values_of (instr.SwapOut a) = a ∷ 0 ∷ 0 ∷ 0 ∷ 0 ∷ []
values_of (instr.Fetch a b c d) = a ∷ b ∷ c ∷ d ∷ 0 ∷ []
values_of (instr.Update a b c d) = a ∷ b ∷ c ∷ d ∷ 0 ∷ []
values_of (instr.Read a) = a ∷ 0 ∷ 0 ∷ 0 ∷ 0 ∷ []
values_of (instr.Await a b) = a ∷ b ∷ 0 ∷ 0 ∷ 0 ∷ []
values_of (instr.Advance a) = a ∷ 0 ∷ 0 ∷ 0 ∷ 0 ∷ []
values_of (instr.Ticket a) = a ∷ 0 ∷ 0 ∷ 0 ∷ 0 ∷ []
values_of (instr.Out a) = a ∷ 0 ∷ 0 ∷ 0 ∷ 0 ∷ []

-- what a word of an instruction says
pub data Item : Type 0 where
  -- this mnemonic
  mnemonic : Op → Item
  -- this number, as an operand of this kind
  value : Kind → ℕ → Item

-- what the words of these operands say
abbrev pub operand_items : List Kind → List ℕ → List Item
operand_items [] ns = []
operand_items (k ∷ ks) [] = []
operand_items (k ∷ ks) (n ∷ ns) = value k n ∷ operand_items ks ns

-- what the words of an instruction say, in their order
abbrev pub instr_items : Instr → List Item
instr_items i = mnemonic (op_for i) ∷ operand_items (kinds (op_for i)) (values_of i)

-- the word as it is printed: numbers in decimal digits
abbrev pub item_text : Item → Word
item_text (mnemonic o) = op_text o
item_text (value Register n) = 114 ∷ decimal n
item_text (value Immediate n) = decimal n
item_text (value Target n) = decimal n
item_text (value Index n) = decimal n

-- the words of an instruction as they are printed
abbrev pub instr_words : Instr → List Word
instr_words i = map item_text (instr_items i)

-- An operand of this kind can have this number.
abbrev pub InRange : Kind → ℕ → Type 0
InRange Register n = n ≤ 15
InRange Immediate n = n < 2 ^ 64
InRange Target n = n < 65536
InRange Index n = n ≤ 31

-- Each of the operands can have its number.
abbrev pub AreInRange : List Kind → List ℕ → Type 0
AreInRange [] ns = Unit {0}
AreInRange (k ∷ ks) [] = Unit {0}
AreInRange (k ∷ ks) (n ∷ ns) = InRange k n × AreInRange ks ns

-- The numbers of the instruction are those that its operands can have, as they are in every `Instr` of the code.
abbrev pub Fits : Instr → Type 0
Fits i = AreInRange (kinds (op_for i)) (values_of i)
