-- The row of each instruction: its tests in order, each with the rule by which it refuses. The private tests come first, and then those
-- of the state.
use Rattle.std.specs.Prelude.{ℕ, Bool, true, false, not, ◌&&◌, List, [], ◌∷◌, ◌++◌, ◌==◌, nat_le, nat_lt, length, Option, Some, None, is_none, is_some, slice_get, slice_index_or}
use Rattle.std.specs.List.{position}
use Rattle.std.specs.Option.{option_map_or}
use Rattle.lists.specs.Lists.{part_of}
use Rattle.labels.specs.Label.{label_of}
use Rattle.rings.specs.Brackets.{call_ring}
use Rattle.words_layout.specs.Segments.{seg}
use Rattle.words_layout.specs.declared.coding.Alias.{Alias}
use Rattle.policy.specs.Known.{Known, alias_brackets}
use Rattle.policy.specs.Private.{read_tests, make_known_tests, brackets_of, create_tests, delete_tests, swap_in_tests, swap_out_tests, fetch_tests, update_tests, advance_tests, ticket_tests}
use Rattle.policy.specs.Verdict.{◌⇒◌, verdict_tests}
use Rattle.policy.specs.declared.rule.Rule.{Rule}
use Rattle.policy.specs.declared.rule.Rule.TheVariants.{UnknownSegno, NoEntry, EntryTaken, SerialsUsed, NotEmpty, Gone, NotIn, AlreadyIn, NoFrame, NoPage, ConsoleFull, NoSlot, NoScript, RingCall, StackFull, StackEmpty}
use Rattle.script_lang.specs.declared.instr.Instr.{Instr}
use Rattle.script_lang.specs.declared.instr.Instr.TheVariants as I
use Rattle.class_model.specs.Config.{Shared, Script, Gate, flows, instr_at, pool_of}
use Rattle.class_model.specs.Process.{Process, ProcName, reg, known_at, usable_at, free_known, tally_of}
use Rattle.class_model.specs.Plan.{Request, MakeKnown, Create, Delete, SwapIn, SwapOut, Fetch, Update, Read, Advance, Ticket, Out}
use Rattle.class_model.specs.State.{State, Cell, entry_at, has_entry, is_in, is_deleted, frames_in_use, pages_in_use, cell_of}

-- no such gate or one whose class isn't at or below the caller's; a ring that may not call; a full stack
abbrev pub call_row : Shared → ℕ → Process → Option Gate → List (Bool × Rule)
call_row s d p None = (true ⇒ NoScript) ∷ []
call_row s d p (Some gate) =
    (not (flows s gate.class d) ⇒ NoScript) ∷ (is_none (call_ring gate.brackets p.ring) ⇒ RingCall) ∷ (nat_le 8 (length p.stack) ⇒ StackFull) ∷ []

-- no such script or one whose class isn't at or below the caller's; no slot that never held a process
abbrev pub spawn_row : Shared → ℕ → List (Option Process) → Option Script → List (Bool × Rule)
spawn_row s d slots script =
    (not (option_map_or (λ (x : Script). flows s x.class d) script false) ⇒ NoScript) ∷ (is_none (position (λ q. is_none q) slots) ⇒ NoSlot) ∷ []

-- makeknown: the entry holds a segment, and the verdict on it
abbrev pub entry_row : Shared → ℕ → ℕ → ℕ → Option Alias → List (Bool × Rule)
entry_row s d ring mode None = (true ⇒ NoEntry) ∷ []
entry_row s d ring mode (Some x) = verdict_tests (label_of s.table d) ring (label_of s.table x.class) (alias_brackets x) mode

-- delete: the entry holds a segment, and a child of the caller's class has none of its own
abbrev pub delete_row : ℕ → (Alias → Cell) → Option Alias → List (Bool × Rule)
delete_row d child None = (true ⇒ NoEntry) ∷ []
delete_row d child (Some x) = (x.class == d && has_entry (child x) ⇒ NotEmpty) ∷ []

-- fetch and update: the segment is there, and is in
abbrev pub words_row : Cell → List (Bool × Rule)
words_row cell = (is_deleted cell ⇒ Gone) ∷ (not (is_in cell) ⇒ NotIn) ∷ []

-- the tests of the state on a request of a process of class d in a ring
abbrev pub state_row : State → ℕ → ℕ → Request → List (Bool × Rule)
state_row a d ring (MakeKnown k e mode) = entry_row a.shared d ring mode (entry_at (cell_of a k) e)
state_row a d ring (Create k e class b size) = let part = a.part d in
    (is_deleted (part.cell k.seg) ⇒ Gone) ∷ (is_some (entry_at (part.cell k.seg) e) ⇒ EntryTaken) ∷ (nat_le 64 part.next_serial ⇒ SerialsUsed) ∷ []
state_row a d ring (Delete k e) = let part = a.part d in
    delete_row d (λ (x : Alias). part.cell (seg d x.serial)) (entry_at (part.cell k.seg) e)
state_row a d ring (SwapIn k) = let part = a.part d in let cell = part.cell k.seg in
    (is_deleted cell ⇒ Gone) ∷ (is_in cell ⇒ AlreadyIn) ∷ (nat_le (pool_of a.shared d).frames (frames_in_use a.shared part) ⇒ NoFrame) ∷ []
state_row a d ring (SwapOut k) = let part = a.part d in let cell = part.cell k.seg in
    (is_deleted cell ⇒ Gone) ∷ (not (is_in cell) ⇒ NotIn) ∷
    (is_none cell.stored && nat_le (pool_of a.shared d).pages (pages_in_use a.shared part) ⇒ NoPage) ∷ []
state_row a d ring (Fetch k offset count pad) = words_row (cell_of a k)
state_row a d ring (Update k offset words) = words_row ((a.part d).cell k.seg)
state_row a d ring (Read k wanted t) = []
state_row a d ring (Advance k) = []
state_row a d ring (Ticket k) = []
state_row a d ring (Out value) = (not (nat_lt (a.part d).used a.shared.console) ⇒ ConsoleFull) ∷ []

-- What is asked of a known segment: UnknownSegno for what isn't known; else the private tests, and then those of the state.
abbrev pub known_row : State → ProcName → Process → Option Known → (Known → List (Bool × Rule)) → (Known → Request) → List (Bool × Rule)
known_row a n p None tests request = (true ⇒ UnknownSegno) ∷ []
known_row a n p (Some k) tests request = tests k ++ state_row a n.class p.ring (request k)

-- the row of an instruction of the process of this name
abbrev pub row_of : State → ProcName → Process → Instr → List (Bool × Rule)
row_of a n p (I.Call g) = call_row a.shared n.class p (slice_index_or a.shared.gates g None)
row_of a n p I.Ret = (is_none (slice_get p.stack 0) ⇒ StackEmpty) ∷ []
row_of a n p (I.Spawn script b) = spawn_row a.shared n.class ((a.part n.class).slots n.processor) (slice_index_or a.shared.scripts script None)
row_of a n p (I.Terminate r) = (is_none (known_at p (reg p r)) ⇒ UnknownSegno) ∷ []
row_of a n p (I.MakeKnown r e mode) = known_row a n p (usable_at p (reg p r))
    (make_known_tests p.ring (reg p e) (reg p mode) (is_none (free_known p))) (λ k. MakeKnown k (reg p e) (reg p mode))
row_of a n p (I.Create r e class brackets size) = known_row a n p (usable_at p (reg p r))
    (create_tests a.shared.table p.ring (reg p e) (reg p class) (reg p brackets) (reg p size))
    (λ k. Create k (reg p e) (reg p class) (brackets_of (reg p brackets)) (reg p size))
row_of a n p (I.Delete r e) = known_row a n p (usable_at p (reg p r)) (delete_tests p.ring (reg p e)) (λ k. Delete k (reg p e))
row_of a n p (I.SwapIn r) = known_row a n p (usable_at p (reg p r)) (swap_in_tests p.ring) (λ k. SwapIn k)
row_of a n p (I.SwapOut r) = known_row a n p (usable_at p (reg p r)) (swap_out_tests p.ring) (λ k. SwapOut k)
row_of a n p (I.Fetch r offset count pad) = known_row a n p (usable_at p (reg p r))
    (fetch_tests p.ring (reg p offset) (reg p count) (reg p pad)) (λ k. Fetch k (reg p offset) (reg p count) (reg p pad))
row_of a n p (I.Update r offset count pad) = known_row a n p (usable_at p (reg p r))
    (update_tests p.ring (reg p offset) (reg p count) (reg p pad)) (λ k. Update k (reg p offset) (part_of p.pad (reg p pad) (reg p count)))
row_of a n p (I.Read r) = known_row a n p (usable_at p (reg p r)) (read_tests p.ring) (λ k. Read k 0 (tally_of p))
row_of a n p (I.Await r wanted) = known_row a n p (usable_at p (reg p r)) (read_tests p.ring) (λ k. Read k (reg p wanted) (tally_of p))
row_of a n p (I.Advance r) = known_row a n p (known_at p (reg p r)) (advance_tests p.ring) (λ k. Advance k)
row_of a n p (I.Ticket r) = known_row a n p (usable_at p (reg p r)) (ticket_tests p.ring) (λ k. Ticket k)
row_of a n p (I.Out r) = state_row a n.class p.ring (Out (reg p r))
row_of a n p _ = []

-- the instruction that a process is about to do, and its row
abbrev pub next_instr : State → Process → Instr
next_instr a p = instr_at a.shared p.script p.place

abbrev pub row : State → ProcName → Process → List (Bool × Rule)
row a n p = row_of a n p (next_instr a p)
