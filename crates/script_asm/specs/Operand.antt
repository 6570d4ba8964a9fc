-- Mnemonics, and what their operands must be.
use Rattle.std.specs.Prelude.{ℕ, List, [], ◌∷◌, min, codes}
use Rattle.script_lang.specs.declared.instr.Instr.{Instr}
use Rattle.script_lang.specs.declared.instr.Instr.TheVariants as instr
use Rattle.script_asm.specs.declared.op.Op.{Op}
use Rattle.script_asm.specs.declared.op.Op.TheVariants as op
use Rattle.script_asm.specs.declared.op.Kind.{Kind}
use Rattle.script_asm.specs.declared.op.Kind.TheVariants.{Register, Immediate, Target, Index}

-- a word as its bytes
abbrev pub Word : Type 0
Word = List ℕ

-- ---- mnemonics

-- the mnemonic's text
abbrev pub op_text : Op → Word
op_text op.Halt = codes "halt"
op_text op.Set = codes "set"
op_text op.Copy = codes "copy"
op_text op.Add = codes "add"
op_text op.Sub = codes "sub"
op_text op.Jump = codes "jump"
op_text op.JumpZ = codes "jumpz"
op_text op.JumpL = codes "jumpl"
op_text op.Get = codes "get"
op_text op.Put = codes "put"
op_text op.Call = codes "call"
op_text op.Ret = codes "ret"
op_text op.Spawn = codes "spawn"
op_text op.MakeKnown = codes "makeknown"
op_text op.Terminate = codes "terminate"
op_text op.Create = codes "create"
op_text op.Delete = codes "delete"
op_text op.SwapIn = codes "swapin"
op_text op.SwapOut = codes "swapout"
op_text op.Fetch = codes "fetch"
op_text op.Update = codes "update"
op_text op.Read = codes "read"
op_text op.Await = codes "await"
op_text op.Advance = codes "advance"
op_text op.Ticket = codes "ticket"
op_text op.Out = codes "out"

-- what its operands are, in order
abbrev pub kinds : Op → List Kind
kinds op.Halt = []
kinds op.Set = Register ∷ Immediate ∷ []
kinds op.Copy = Register ∷ Register ∷ []
kinds op.Add = Register ∷ Register ∷ []
kinds op.Sub = Register ∷ Register ∷ []
kinds op.Jump = Target ∷ []
kinds op.JumpZ = Register ∷ Target ∷ []
kinds op.JumpL = Register ∷ Register ∷ Target ∷ []
kinds op.Get = Register ∷ Register ∷ []
kinds op.Put = Register ∷ Register ∷ []
kinds op.Call = Index ∷ []
kinds op.Ret = []
kinds op.Spawn = Index ∷ Register ∷ []
kinds op.MakeKnown = Register ∷ Register ∷ Register ∷ []
kinds op.Terminate = Register ∷ []
kinds op.Create = Register ∷ Register ∷ Register ∷ Register ∷ Register ∷ []
kinds op.Delete = Register ∷ Register ∷ []
kinds op.SwapIn = Register ∷ []
kinds op.SwapOut = Register ∷ []
kinds op.Fetch = Register ∷ Register ∷ Register ∷ Register ∷ []
kinds op.Update = Register ∷ Register ∷ Register ∷ Register ∷ []
kinds op.Read = Register ∷ []
kinds op.Await = Register ∷ Register ∷ []
kinds op.Advance = Register ∷ []
kinds op.Ticket = Register ∷ []
kinds op.Out = Register ∷ []

-- A register's number, and that of a script or gate. A line whose operand is past its bound has a code; the cut makes
-- the function total.
abbrev pub reg : ℕ → ℕ
reg n = min n 15

-- the place of a script or a gate
abbrev pub place : ℕ → ℕ
place n = min n 31

-- a place of the script, by number or by name
abbrev pub target : ℕ → ℕ
target n = min n 65535

-- the instruction with these operands
abbrev pub instr_of : Op → ℕ → ℕ → ℕ → ℕ → ℕ → Instr
instr_of op.Halt a b c d e = instr.Halt
instr_of op.Set a b c d e = instr.Set (reg a) b
instr_of op.Copy a b c d e = instr.Copy (reg a) (reg b)
instr_of op.Add a b c d e = instr.Add (reg a) (reg b)
instr_of op.Sub a b c d e = instr.Sub (reg a) (reg b)
instr_of op.Jump a b c d e = instr.Jump (target a)
instr_of op.JumpZ a b c d e = instr.JumpZ (reg a) (target b)
instr_of op.JumpL a b c d e = instr.JumpL (reg a) (reg b) (target c)
instr_of op.Get a b c d e = instr.Get (reg a) (reg b)
instr_of op.Put a b c d e = instr.Put (reg a) (reg b)
instr_of op.Call a b c d e = instr.Call (place a)
instr_of op.Ret a b c d e = instr.Ret
instr_of op.Spawn a b c d e = instr.Spawn (place a) (reg b)
instr_of op.MakeKnown a b c d e = instr.MakeKnown (reg a) (reg b) (reg c)
instr_of op.Terminate a b c d e = instr.Terminate (reg a)
instr_of op.Create a b c d e = instr.Create (reg a) (reg b) (reg c) (reg d) (reg e)
instr_of op.Delete a b c d e = instr.Delete (reg a) (reg b)
instr_of op.SwapIn a b c d e = instr.SwapIn (reg a)
instr_of op.SwapOut a b c d e = instr.SwapOut (reg a)
instr_of op.Fetch a b c d e = instr.Fetch (reg a) (reg b) (reg c) (reg d)
instr_of op.Update a b c d e = instr.Update (reg a) (reg b) (reg c) (reg d)
instr_of op.Read a b c d e = instr.Read (reg a)
instr_of op.Await a b c d e = instr.Await (reg a) (reg b)
instr_of op.Advance a b c d e = instr.Advance (reg a)
instr_of op.Ticket a b c d e = instr.Ticket (reg a)
instr_of op.Out a b c d e = instr.Out (reg a)
