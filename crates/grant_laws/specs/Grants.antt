-- When each gate is granted, by what was given and done before.
use Rattle.std.specs.Prelude.{ℕ, ◌+◌, ◌^◌, ◌≤◌, ◌<◌, ◌≡◌, Bool, true, false, not, ◌&&◌, ◌||◌, List, [], ◌∷◌, ◌==◌, if◌then◌else◌, nat_lt, length, count_by, reverse, take, Option, Some, None, is_none, is_some, slice_get}
use Rattle.std.specs.List.{list_any}
use Rattle.lists.specs.Lists.{below}
use Rattle.labels.specs.Label.{label_of}
use Rattle.rings.specs.Brackets.{Brackets}
use Rattle.words_layout.specs.Segments.{seg, same_seg}
use Rattle.words_layout.specs.declared.segment.SegId.{SegId}
use Rattle.words_layout.specs.declared.coding.Alias.{Alias}
use Rattle.policy.specs.Known.{Known, new_alias, alias_brackets}
use Rattle.policy.specs.Outcome.{Outcome, Refused, Value, Looked, Counted, Tally, components}
use Rattle.policy.specs.Verdict.{verdict}
use Rattle.class_model.specs.Config.{Config, shared_of, pool_of}
use Rattle.class_model.specs.Process.{Process, ProcName}
use Rattle.class_model.specs.Plan.{Request, MakeKnown, Create, Delete, SwapIn, SwapOut, Fetch, Update, Read, Advance, Ticket, Out}
use Rattle.class_model.specs.State.{identities, process_at}
use Rattle.class_model.specs.Run.{Happened, history, opening, run, kept_of, opening_entry, opening_serial}
use Rattle.class_model.specs.Valid.{IsConfig, uses_script}
use Rattle.class_model.specs.Access.{ring_of}
use Rattle.class_model.specs.Content.{looked_at, outs_in}

-- it is no refusal
abbrev pub granted : Outcome → Bool
granted (Refused rule) = false
granted _ = true

-- ---- What the effects before come to. They are given the latest first. Segments of class c are changed by processes of
-- class c alone, and so are the entries of a mentor of class c.

-- what an Ok create or delete leaves in entry e of the mentor u
abbrev pub entry_asked : SegId → ℕ → Option (Request × Outcome) → Option Alias → Option Alias
entry_asked u e (Some (Create x f class b size, Value serial)) before = if same_seg u x.seg && f == e then Some (new_alias class b size serial) else before
entry_asked u e (Some (Delete x f, Value v)) before = if same_seg u x.seg && f == e then None else before
entry_asked u e _ before = before

-- what stands in entry e of the mentor u of class c: what its record gave it, until an Ok create or delete
abbrev pub stands_in : Config → ℕ → SegId → ℕ → List Happened → Option Alias
stands_in k c u e [] = opening_entry k c u e
stands_in k c u e (h ∷ past) = let before = stands_in k c u e past in if h.who.class == c then entry_asked u e h.deed.asked before else before

-- a delete of this by a process of class c takes the segment u away: a child of a higher class stays
abbrev pub takes : ℕ → SegId → Option Alias → Bool
takes c u None = false
takes c u (Some a) = a.class == c && same_seg u (seg c a.serial)

-- Where a segment is: Inside after a swapin, Outside after a swapout or where there was none, Lost after a delete.
pub data Place : Type 0 where
  Outside : Place
  Inside : Place
  Lost : Place

-- what a request leaves of it, by what stood in the entries before
abbrev pub place_asked : ℕ → SegId → (SegId → ℕ → Option Alias) → Option (Request × Outcome) → Place → Place
place_asked c u entry (Some (SwapIn x, Value v)) before = if same_seg u x.seg then Inside else before
place_asked c u entry (Some (SwapOut x, Value v)) before = if same_seg u x.seg then Outside else before
place_asked c u entry (Some (Delete x e, Value v)) before = if takes c u (entry x.seg e) then Lost else before
place_asked c u entry _ before = before

-- where the segment u of class c is
abbrev pub place_after : Config → ℕ → SegId → List Happened → Place
place_after k c u [] = Outside
place_after k c u (h ∷ past) = let before = place_after k c u past in
    if h.who.class == c then place_asked c u (λ v e. stands_in k c v e past) h.deed.asked before else before

abbrev pub inside : Place → Bool
inside Inside = true
inside _ = false

abbrev pub lost : Place → Bool
lost Lost = true
lost _ = false

-- the last Ok swapin, swapout or delete of the segment u of class c is a swapin
abbrev pub is_in_after : Config → ℕ → SegId → List Happened → Bool
is_in_after k c u past = inside (place_after k c u past)

-- it is a delete
abbrev pub is_deleted_after : Config → ℕ → SegId → List Happened → Bool
is_deleted_after k c u past = lost (place_after k c u past)

-- what a request leaves of the page of a segment
abbrev pub page_asked : ℕ → SegId → (SegId → ℕ → Option Alias) → Option (Request × Outcome) → Bool → Bool
page_asked c u entry (Some (SwapOut x, Value v)) before = if same_seg u x.seg then true else before
page_asked c u entry (Some (Delete x e, Value v)) before = if takes c u (entry x.seg e) then false else before
page_asked c u entry _ before = before

-- the segment u of class c has a page: its words were kept or an Ok swapout of it was made, and no delete after that
abbrev pub has_page_after : Config → ℕ → SegId → List Happened → Bool
has_page_after k c u [] = is_some (kept_of k c u)
has_page_after k c u (h ∷ past) = let before = has_page_after k c u past in
    if h.who.class == c then page_asked c u (λ v e. stands_in k c v e past) h.deed.asked before else before

-- how many segments of class c are in, and how many have a page
abbrev pub ins_after : Config → ℕ → List Happened → ℕ
ins_after k c past = count_by (λ u. is_in_after k c u past) (identities (length k.table))

abbrev pub pages_after : Config → ℕ → List Happened → ℕ
pages_after k c past = count_by (λ u. has_page_after k c u past) (identities (length k.table))

-- it is an Ok create
abbrev pub creates : Option (Request × Outcome) → Bool
creates (Some (Create x e class b size, Value serial)) = true
creates _ = false

-- the Ok creates by processes of class c
abbrev pub creates_in : ℕ → List Happened → ℕ
creates_in c run = count_by (λ (h : Happened). h.who.class == c && creates h.deed.asked) run

-- a segment stands in some entry of the mentor u of class c
abbrev pub has_child_after : Config → ℕ → SegId → List Happened → Bool
has_child_after k c u past = list_any (λ e. is_some (stands_in k c u e past)) (below 8)

-- ---- When a request of a process of class d in a ring is granted.

-- a child of the class of its mentor has none of its own
abbrev pub may_delete : Config → ℕ → List Happened → Option Alias → Bool
may_delete k d past None = false
may_delete k d past (Some a) = not (a.class == d && has_child_after k d (seg d a.serial) past)

-- the verdict on what stands in the entry lets it
abbrev pub may_learn : Config → ℕ → ℕ → ℕ → Option Alias → Bool
may_learn k d ring mode None = false
may_learn k d ring mode (Some a) = is_none (verdict (label_of k.table d) ring (label_of k.table a.class) (alias_brackets a) mode)

-- An effect that asked this, so its private tests have passed, is granted exactly where this holds of the effects before it.
abbrev pub IsGrantedWhere : Request → (Config → List Happened → Happened → Bool) → Type 0
IsGrantedWhere q test = (k : Config) (names : List ProcName) → let run = history (opening k) names in
    (i : ℕ) (h : Happened) (o : Outcome) → slice_get run i ≡ Some h → h.deed.asked ≡ Some (q, o) → granted o ≡ test k (take i run) h

-- An out has a place of the console left: fewer outs of the class stand before it than the console has places.
abbrev pub OutsAreGranted : Type 0
OutsAreGranted = (value : ℕ) → IsGrantedWhere (Out value) (λ k past h. nat_lt (outs_in h.who.class past) k.console)

-- a fetch and an update are granted exactly where the segment is in
abbrev pub FetchesAreGranted : Type 0
FetchesAreGranted = (x : Known) (offset count pad : ℕ) → IsGrantedWhere (Fetch x offset count pad) (λ k past h. is_in_after k x.class x.seg (reverse past))

abbrev pub UpdatesAreGranted : Type 0
UpdatesAreGranted = (x : Known) (offset : ℕ) (words : List ℕ) → IsGrantedWhere (Update x offset words) (λ k past h. is_in_after k h.who.class x.seg (reverse past))

-- a ticket and an advance are always granted
abbrev pub TicketsAreGranted : Type 0
TicketsAreGranted = (x : Known) → IsGrantedWhere (Ticket x) (λ k past h. true)

abbrev pub AdvancesAreGranted : Type 0
AdvancesAreGranted = (x : Known) → IsGrantedWhere (Advance x) (λ k past h. true)

-- a swapin is granted exactly where the segment isn't deleted and isn't in, and a frame of its class is free
abbrev pub SwapsInAreGranted : Type 0
SwapsInAreGranted = (x : Known) → IsGrantedWhere (SwapIn x) (λ k past h. let d = h.who.class in
    not (is_deleted_after k d x.seg (reverse past)) && not (is_in_after k d x.seg (reverse past)) && nat_lt (ins_after k d (reverse past)) (pool_of (shared_of k) d).frames)

-- a swapout is granted exactly where the segment is in, and it has a page or one of its class is free
abbrev pub SwapsOutAreGranted : Type 0
SwapsOutAreGranted = (x : Known) → IsGrantedWhere (SwapOut x) (λ k past h. let d = h.who.class in
    is_in_after k d x.seg (reverse past) && (has_page_after k d x.seg (reverse past) || nat_lt (pages_after k d (reverse past)) (pool_of (shared_of k) d).pages))

-- A create is granted exactly where the mentor isn't deleted, its entry is empty, and a serial below 64 is left.
abbrev pub CreatesAreGranted : Type 0
CreatesAreGranted = (x : Known) (e class : ℕ) (b : Brackets) (size : ℕ) → IsGrantedWhere (Create x e class b size) (λ k past h. let d = h.who.class in
    not (is_deleted_after k d x.seg (reverse past)) && is_none (stands_in k d x.seg e (reverse past)) && nat_lt (opening_serial k d + creates_in d past) 64)

-- a delete is granted exactly where a segment stands in the entry that has no child, or is of a higher class
abbrev pub DeletesAreGranted : Type 0
DeletesAreGranted = (x : Known) (e : ℕ) → IsGrantedWhere (Delete x e) (λ k past h. let d = h.who.class in may_delete k d (reverse past) (stands_in k d x.seg e (reverse past)))

-- a makeknown is granted exactly where a segment stands in the entry and the verdict on it lets it
abbrev pub MakeKnownsAreGranted : Type 0
MakeKnownsAreGranted = (x : Known) (e mode : ℕ) → IsGrantedWhere (MakeKnown x e mode) (λ k past h. may_learn k h.who.class (ring_of h) mode (stands_in k x.class x.seg e (reverse past)))

-- A look before the last one only goes on. The last one counts exactly where what the looks saw is at least what is wanted; else
-- the read starts again.
abbrev pub IsCounted : Config → List Happened → ProcName → Option (Request × Outcome) → Type 0
IsCounted k past n (Some (Read x wanted t, o)) = let classes = components k.table x.class in let sum = looked_at x.seg n (reverse classes) (reverse past) in
    (t.seen + 1 < length classes → (t' : Tally) × (o ≡ Looked (Some t'))) ×
    (length classes ≤ t.seen + 1 → (wanted ≤ sum → o ≡ Counted sum) × (sum < wanted → o ≡ Looked None))
IsCounted k past n _ = Unit {0}

-- so does each look of a run
abbrev pub ReadsAreCounted : Type 0
ReadsAreCounted = (k : Config) (names : List ProcName) → IsConfig k → length names ≤ 2 ^ 64 → let run = history (opening k) names in
    (i : ℕ) (h : Happened) → slice_get run i ≡ Some h → IsCounted k (take i run) h.who h.deed.asked

-- What changes a segment or the entries of a mentor is asked by a process of its class.
abbrev pub IsOwn : ℕ → Option (Request × Outcome) → Type 0
IsOwn d (Some (Create x e class b size, o)) = x.class ≡ d
IsOwn d (Some (Delete x e, o)) = x.class ≡ d
IsOwn d (Some (SwapIn x, o)) = x.class ≡ d
IsOwn d (Some (SwapOut x, o)) = x.class ≡ d
IsOwn d (Some (Update x offset words, o)) = x.class ≡ d
IsOwn d _ = Unit {0}

-- so does each effect of a run
abbrev pub ChangesAreOwn : Type 0
ChangesAreOwn = (k : Config) (names : List ProcName) → IsConfig k → let run = history (opening k) names in
    (i : ℕ) (h : Happened) → slice_get run i ≡ Some h → IsOwn h.who.class h.deed.asked

-- ---- Which script a process runs.

-- In each state that a run reaches, the script of every process is there, and its class is at or below the process's own.
abbrev pub ScriptsAreLow : Type 0
ScriptsAreLow = (k : Config) (names : List ProcName) (n : ProcName) (p : Process) → IsConfig k → process_at (run k names) n ≡ Some p → uses_script k n.class p.script ≡ true
