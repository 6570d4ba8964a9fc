-- What is known of a step before it is made, and the entries that are read off the state after it. For private functions.
use Rattle.std.specs.Prelude.{ℕ, ◌%◌, Bool, true, false, not, ◌&&◌, List, [], ◌∷◌, ◌++◌, ◌==◌, if◌then◌else◌, nat_le, Option, Some, None, is_none, is_some, unwrap_or}
use Rattle.std.specs.Option.{option_map, option_map_or, option_and_then}
use Rattle.std.specs.List.{flat_map}
use Rattle.words_layout.specs.Segments.{seg}
use Rattle.words_layout.specs.declared.coding.Alias.{Alias}
use Rattle.policy.specs.Known.{Known}
use Rattle.script_lang.specs.declared.instr.Instr.{Instr}
use Rattle.script_lang.specs.declared.instr.Instr.TheVariants as I
use Rattle.class_model.specs.Passing.{passes}
use Rattle.class_model.specs.Process.{ProcName}
use Rattle.class_model.specs.Run.{happened}
use Rattle.class_model.specs.State.{State, cell_at, entry_at}
use Rattle.class_model.specs.Step.{deed}
use Rattle.whole_machine.specs.Readers.{next_instr, place_of, register_of, known_of}
use Rattle.audit_trail.specs.Instructions.{reply_number}
use Rattle.audit_trail.specs.Trail.{effect_entries}
use Rattle.audit_trail.specs.declared.due.Due.{Due}
use Rattle.audit_trail.specs.declared.due.Child.{Child}
use Rattle.audit_trail.specs.declared.entry.Entry.{Entry}
use Rattle.audit_trail.specs.declared.entry.Entry.TheVariants as E
use Rattle.audit_trail.specs.declared.instructions.Operand.{Operand}

-- what an instruction names and accesses: by which register, and to observe (1), to modify (2) or both (3)
abbrev pub operand : Instr → Option Operand
operand (I.MakeKnown a b c) = Some (record { register = a; kind = record { 0 = 1 } })
operand (I.Create a b c x e) = Some (record { register = a; kind = record { 0 = 3 } })
operand (I.Delete a b) = Some (record { register = a; kind = record { 0 = 3 } })
operand (I.SwapIn a) = Some (record { register = a; kind = record { 0 = 3 } })
operand (I.SwapOut a) = Some (record { register = a; kind = record { 0 = 3 } })
operand (I.Fetch a b c x) = Some (record { register = a; kind = record { 0 = 1 } })
operand (I.Update a b c x) = Some (record { register = a; kind = record { 0 = 3 } })
operand (I.Read a) = Some (record { register = a; kind = record { 0 = 1 } })
operand (I.Await a b) = Some (record { register = a; kind = record { 0 = 1 } })
operand (I.Advance a) = Some (record { register = a; kind = record { 0 = 2 } })
operand (I.Ticket a) = Some (record { register = a; kind = record { 0 = 3 } })
operand _ = None

-- the instruction goes back from a call
abbrev pub goes_back : Instr → Bool
goes_back I.Ret = true
goes_back _ = false

-- what the process knows under the number in a register
abbrev pub segment_of : State → ProcName → ℕ → Option Known
segment_of a n r = option_and_then (λ segno. known_of a n segno) (register_of a n r)

-- the access of the known segment
abbrev pub access_of : State → ProcName → Instr → ℕ → Option Entry
access_of a n i number = option_and_then (λ (x : Operand). option_map (λ (k : Known). E.Access n number x.kind k.seg k.class) (segment_of a n x.register)) (operand i)

-- the child that an entry names, where it is of the process's own class
abbrev pub own_child : ProcName → ℕ → Known → ℕ → Option Alias → Option Child
own_child n number k e None = None
own_child n number k e (Some x) =
    if x.class == n.class
    then Some (record { mentor = k.seg; entry = e; access = E.Access n number (record { 0 = 2 }) (seg n.class x.serial) n.class })
    else None

-- likewise where the number of the entry is one of eight
abbrev pub child_in : State → ProcName → ℕ → Known → ℕ → Option Child
child_in a n number k e = if nat_le e 7 then own_child n number k e (entry_at (cell_at a n.class k.seg) e) else None

-- the child that a delete of this entry may modify
abbrev pub child_of : State → ProcName → ℕ → ℕ → ℕ → Option Child
child_of a n number mentor entry =
    option_and_then (λ (k : Known). option_and_then (λ e. child_in a n number k e) (register_of a n entry)) (segment_of a n mentor)

-- the child that an instruction may modify
abbrev pub child_by : State → ProcName → Instr → ℕ → Option Child
child_by a n (I.Delete x y) number = child_of a n number x y
child_by a n _ number = None

-- what is known of the step of an instruction of that number
abbrev pub due_by : State → ProcName → Instr → Option ℕ → Option Due
due_by a n i None = None
due_by a n i (Some number) = Some (record {
  number = number;
  place = unwrap_or (place_of a n) 0;
  goes_back = passes a n && goes_back i;
  access = if passes a n then access_of a n i number else None;
  child = if passes a n then child_by a n i number else None;
})

-- what is known of the next step of a process, where its instruction gives a reply
abbrev pub due_of : State → ProcName → Option Due
due_of a n = option_and_then (λ (i : Instr). due_by a n i (reply_number i)) (next_instr a n)

-- what r0 holds
abbrev pub held : State → ProcName → ℕ
held b n = unwrap_or (register_of b n 0) 0

-- the entry of a child that was deleted: its entry is empty then
abbrev pub deleted_child : State → ProcName → Child → List Entry
deleted_child b n x = if is_none (entry_at (cell_at b n.class x.mentor) x.entry) then x.access ∷ [] else []

-- none, or the one that there is
abbrev pub option_entries : {X : Type 0} → (X → List Entry) → Option X → List Entry
option_entries f o = option_map_or f o []

-- the accesses of a step, by the state after it
abbrev pub accesses_after : State → ProcName → Due → List Entry
accesses_after b n due = option_entries (λ (e : Entry). e ∷ []) due.access ++ option_entries (deleted_child b n) due.child

-- the code of its reply
abbrev pub code_after : State → ProcName → Due → ℕ
code_after b n due = if due.goes_back then 0 else held b n % 256

-- a mere look accesses a segment and leaves the process at its place
abbrev pub has_replied : State → ProcName → Due → Bool
has_replied b n due = not (is_some due.access && (unwrap_or (place_of b n) 0 == due.place))

-- the entries of a step, by the state after it
abbrev pub entries_after : State → ProcName → Due → List Entry
entries_after b n due =
    if has_replied b n due then accesses_after b n due ++ E.Reply n due.number (code_after b n due) ∷ [] else []

-- the entries of the next step of a process
abbrev pub step_entries : State → ProcName → List Entry
step_entries a n = flat_map effect_entries (happened a n (deed a n) [])
