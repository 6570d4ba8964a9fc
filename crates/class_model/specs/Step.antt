-- One step: the named process performs its next instruction whole, or one look of a read or await.
use Rattle.std.specs.Prelude.{ℕ, ◌+◌, Bool, not, ◌&&◌, List, [], ◌∷◌, ◌++◌, ◌==◌, if◌then◌else◌, nat_le, nat_lt, replicate, Option, Some, None, is_none, is_some, unwrap_or, slice_set, slice_index, length}
use Rattle.std.specs.List.{position}
use Rattle.lists.specs.Lists.{overwrite, part_of}
use Rattle.rings.specs.Brackets.{Brackets}
use Rattle.words_layout.specs.Segments.{seg}
use Rattle.words_layout.specs.declared.segment.SegId.{SegId}
use Rattle.words_layout.specs.declared.coding.Alias.{Alias}
use Rattle.policy.specs.Known.{Known, new_alias}
use Rattle.policy.specs.Outcome.{Outcome, Refused, Value, Words, Printed, Tally, components, shown, tallied}
use Rattle.policy.specs.Verdict.{first_broken, ◌⇒◌}
use Rattle.policy.specs.declared.rule.Rule.{Rule}
use Rattle.policy.specs.declared.rule.Rule.TheVariants.{NoEntry, Gone, EntryTaken, SerialsUsed, NotEmpty, AlreadyIn, NoFrame, NotIn, NoPage, ConsoleFull, NoSlot}
use Rattle.class_model.specs.Config.{Shared, pool_of}
use Rattle.class_model.specs.Process.{Process, ProcName, refused, answered, settled}
use Rattle.class_model.specs.Plan.{Plan, Own, Begin, Ask, Request, MakeKnown, Create, Delete, SwapIn, SwapOut, Fetch, Update, Read, Advance, Ticket, Out, plan}
use Rattle.class_model.specs.State.{State, Part, Cell, Stored, In, Deleted, cell_of, component_at, with_component, entry_at, has_entry, is_in, is_deleted, live_words, frames_in_use, pages_in_use, process_at, with_cell, with_process, with_part}

-- what a request does: the part of the caller's class after it, and what it shows
pub record Effect : Type 0 where
  pub part : Part
  pub outcome : Outcome

-- a refusal changes nothing
abbrev pub chosen : Part → Option Rule → Effect → Effect
chosen part None effect = effect
chosen part (Some rule) effect = record { part = part; outcome = Refused rule }

-- a refusal by the first test that holds, which changes nothing; else the effect
abbrev pub unless : Part → List (Bool × Rule) → Effect → Effect
unless part tests effect = chosen part (first_broken tests) effect

-- the cell with an entry changed
abbrev pub with_entry : Cell → ℕ → Option Alias → Cell
with_entry cell e entry = record cell { entries = slice_set cell.entries e entry }

-- create: the entry takes the new segment, and the next serial rises
abbrev pub create_effect : Part → SegId → ℕ → ℕ → Brackets → ℕ → Effect
create_effect part u e class b size = let cell = part.cell u in
    unless part (
    (is_deleted cell ⇒ Gone) ∷ (is_some (entry_at cell e) ⇒ EntryTaken) ∷ (nat_le 64 part.next_serial ⇒ SerialsUsed) ∷ [])
    (record {
      part = record (with_cell part u (with_entry cell e (Some (new_alias class b size part.next_serial)))) {
        next_serial = part.next_serial + 1;
      };
      outcome = Value part.next_serial;
    })

-- the part with a cell Deleted, its live and stored words lost
abbrev pub deleted : Part → SegId → Part
deleted part u = with_cell part u (record (part.cell u) { home = Deleted; stored = None })

-- the part with an entry emptied
abbrev pub emptied : Part → SegId → ℕ → Part
emptied part u e = with_cell part u (with_entry (part.cell u) e None)

-- delete: a child of class d is deleted, one of a higher class is left as it is, and the entry is emptied
abbrev pub delete_effect : ℕ → Part → SegId → ℕ → Option Alias → Effect
delete_effect d part u e None = record { part = part; outcome = Refused NoEntry }
delete_effect d part u e (Some a) = let child : SegId = seg d a.serial in
    unless part ((a.class == d && has_entry (part.cell child) ⇒ NotEmpty) ∷ [])
    (record { part = emptied (if a.class == d then deleted part child else part) u e; outcome = Value 0 })

-- swap in: the live words are the stored words, or zeros
abbrev pub swap_in_effect : Shared → ℕ → Part → Known → Effect
swap_in_effect s d part k = let cell = part.cell k.seg in
    unless part (
    (is_deleted cell ⇒ Gone) ∷ (is_in cell ⇒ AlreadyIn) ∷
    (nat_le (pool_of s d).frames (frames_in_use s part) ⇒ NoFrame) ∷ [])
    (record {
      part = with_cell part k.seg (record cell { home = In (unwrap_or cell.stored (replicate k.size 0)) });
      outcome = Value 0;
    })

-- swap out: the stored words are the live words
abbrev pub swap_out_effect : Shared → ℕ → Part → Known → Effect
swap_out_effect s d part k = let cell = part.cell k.seg in
    unless part (
    (is_deleted cell ⇒ Gone) ∷ (not (is_in cell) ⇒ NotIn) ∷
    (is_none cell.stored && nat_le (pool_of s d).pages (pages_in_use s part) ⇒ NoPage) ∷ [])
    (record {
      part = with_cell part k.seg (record cell { home = Stored; stored = Some (live_words cell) });
      outcome = Value 0;
    })

-- fetch: words of the live words
abbrev pub fetch_effect : Part → Cell → ℕ → ℕ → ℕ → Effect
fetch_effect part cell offset count pad =
    unless part ((is_deleted cell ⇒ Gone) ∷ (not (is_in cell) ⇒ NotIn) ∷ [])
    (record { part = part; outcome = Words pad (part_of (live_words cell) offset count) })

-- update: words over the live words, and the count of writes rises
abbrev pub update_effect : Part → SegId → ℕ → List ℕ → Effect
update_effect part u offset words = let cell = part.cell u in
    unless part ((is_deleted cell ⇒ Gone) ∷ (not (is_in cell) ⇒ NotIn) ∷ [])
    (record {
      part = with_cell part u (record cell {
        home = In (overwrite (live_words cell) offset words);
        writes = cell.writes + 1;
      });
      outcome = Value (cell.writes + 1);
    })

-- advance: the class's own component of the eventcount of the cell of class x rises
abbrev pub advance_effect : Part → ℕ → SegId → Effect
advance_effect part x u =
    record { part = with_component part x u (part.component x u + 1); outcome = Value (part.component x u + 1) }

-- ticket: the sequencer rises, and the old number is shown
abbrev pub ticket_effect : Part → SegId → Effect
ticket_effect part u = let cell = part.cell u in
    record { part = with_cell part u (record cell { sequencer = cell.sequencer + 1 }); outcome = Value cell.sequencer }

-- out: a place is used up even where the console is full
abbrev pub out_effect : Shared → Part → ℕ → Effect
out_effect s part value =
    if nat_lt part.used s.console
    then record { part = record part { lines = part.lines ++ value ∷ []; used = part.used + 1 }; outcome = Printed part.used value }
    else record { part = record part { used = part.used + 1 }; outcome = Refused ConsoleFull }

-- one look: the next component, in class order
abbrev pub read_effect : State → Part → Known → ℕ → Tally → Effect
read_effect a part k wanted t = let classes = components a.shared.table k.class in
    record { part = part; outcome = tallied (length classes) wanted t (component_at a (slice_index classes t.seen) k.class k.seg) }

-- What the request of a process of class d in a ring does. What it changes is of class d; what it only observes is
-- of classes at or below that of its known segment.
abbrev pub effect : State → ℕ → ℕ → Request → Effect
effect a d ring (MakeKnown k e mode) =
    record { part = a.part d; outcome = shown a.shared.table d ring k.class mode (entry_at (cell_of a k) e) }
effect a d ring (Create k e class brackets size) = create_effect (a.part d) k.seg e class brackets size
effect a d ring (Delete k e) = delete_effect d (a.part d) k.seg e (entry_at ((a.part d).cell k.seg) e)
effect a d ring (SwapIn k) = swap_in_effect a.shared d (a.part d) k
effect a d ring (SwapOut k) = swap_out_effect a.shared d (a.part d) k
effect a d ring (Fetch k offset count pad) = fetch_effect (a.part d) (cell_of a k) offset count pad
effect a d ring (Update k offset words) = update_effect (a.part d) k.seg offset words
effect a d ring (Read k wanted t) = read_effect a (a.part d) k wanted t
effect a d ring (Advance k) = advance_effect (a.part d) k.class k.seg
effect a d ring (Ticket k) = ticket_effect (a.part d) k.seg
effect a d ring (Out value) = out_effect a.shared (a.part d) value

-- What a step did: the part of the process's class after it, and the request with what it was shown, if it asked.
pub record Deed : Type 0 where
  pub part : Part
  pub asked : Option (Request × Outcome)

-- a new process in the least slot that never held one
abbrev pub begun : Part → ProcName → Process → Process → Option ℕ → Part
begun part n p child None = with_process part n.processor n.slot (refused p NoSlot)
begun part n p child (Some slot) = with_process (with_process part n.processor n.slot (answered p slot)) n.processor slot child

-- the deed of a request: its effect, and the process settled
abbrev pub asked : ProcName → Process → Request → Effect → Deed
asked n p request e = record {
  part = with_process e.part n.processor n.slot (settled p e.outcome);
  asked = Some (request, e.outcome);
}

-- the deed of a plan
abbrev pub deed_of : State → ProcName → Process → Plan → Deed
deed_of a n p (Own after) = record { part = with_process (a.part n.class) n.processor n.slot after; asked = None }
deed_of a n p (Begin child) = let part = a.part n.class in
    record { part = begun part n p child (position (λ q. is_none q) (part.slots n.processor)); asked = None }
deed_of a n p (Ask request) = asked n p request (effect a n.class p.ring request)

-- the deed of a process, if there is one and it is live
abbrev pub deed_by : State → ProcName → Option Process → Option Deed
deed_by a n None = None
deed_by a n (Some p) = if p.live then Some (deed_of a n p (plan a.shared n.class p)) else None

-- the deed of the named process, if it makes a step
abbrev pub deed : State → ProcName → Option Deed
deed a n = deed_by a n (process_at a n)

-- the state with the part of class d after a deed, or as it was
abbrev pub done : State → ℕ → Option Deed → State
done a d None = a
done a d (Some x) = with_part a d x.part

-- the state after the step of the named process; where it makes none, nothing changes
abbrev pub step : State → ProcName → State
step a n = done a n.class (deed a n)
