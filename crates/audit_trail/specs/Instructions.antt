-- The instructions that give a reply, by number, and what each of them asks to access.
use Rattle.std.specs.Prelude.{ℕ, Option, Some, None}
use Rattle.policy.specs.Known.{Known}
use Rattle.script_lang.specs.declared.instr.Instr.{Instr}
use Rattle.script_lang.specs.declared.instr.Instr.TheVariants as I
use Rattle.class_model.specs.Plan.{Request, MakeKnown, Create, Delete, SwapIn, SwapOut, Fetch, Update, Read, Advance, Ticket, Out}

-- the place of an instruction in the list of those that give a reply; the others give none
abbrev pub reply_number : Instr → Option ℕ
reply_number (I.Call g) = Some 0
reply_number I.Ret = Some 1
reply_number (I.Spawn n b) = Some 2
reply_number (I.MakeKnown a b c) = Some 3
reply_number (I.Terminate a) = Some 4
reply_number (I.Create a b c x e) = Some 5
reply_number (I.Delete a b) = Some 6
reply_number (I.SwapIn a) = Some 7
reply_number (I.SwapOut a) = Some 8
reply_number (I.Fetch a b c x) = Some 9
reply_number (I.Update a b c x) = Some 10
reply_number (I.Read a) = Some 11
reply_number (I.Await a b) = Some 12
reply_number (I.Advance a) = Some 13
reply_number (I.Ticket a) = Some 14
reply_number (I.Out a) = Some 15
reply_number _ = None

-- the known segment of a request; out has none
abbrev pub known_in : Request → Option Known
known_in (MakeKnown k e mode) = Some k
known_in (Create k e class b size) = Some k
known_in (Delete k e) = Some k
known_in (SwapIn k) = Some k
known_in (SwapOut k) = Some k
known_in (Fetch k offset count pad) = Some k
known_in (Update k offset words) = Some k
known_in (Read k wanted t) = Some k
known_in (Advance k) = Some k
known_in (Ticket k) = Some k
known_in (Out value) = None
