-- The content of a segment by its updates alone, and what the effects of a run must show.
use Rattle.std.specs.Prelude.{ℕ, ◌+◌, reverse, ◌≡◌, ◌≤◌, Bool, true, false, ◌&&◌, List, [], ◌∷◌, ◌++◌, ◌==◌, if◌then◌else◌, take, replicate, count_by, Option, Some, None, unwrap_or}
use Rattle.std.specs.List.{filter_map, find}
use Rattle.std.specs.Option.{option_map_or, option_and_then}
use Rattle.lists.specs.Lists.{overwrite, part_of}
use Rattle.words_layout.specs.Segments.{same_seg}
use Rattle.words_layout.specs.declared.segment.SegId.{SegId}
use Rattle.class_model.specs.Config.{Config, SegRecord}
use Rattle.policy.specs.Outcome.{Outcome, Value, Words, Printed, Counted, components}
use Rattle.class_model.specs.Process.{ProcName}
use Rattle.class_model.specs.Plan.{Request, Fetch, Update, Read, Advance, Ticket, Out}
use Rattle.class_model.specs.Run.{Happened, history, opening}
use Rattle.class_model.specs.Access.{Given, all_given, given_to}

-- where an Ok update of u wrote, and what
abbrev pub update_asked : SegId → Option (Request × Outcome) → Option (ℕ × List ℕ)
update_asked u (Some (Update k offset words, Value count)) = if same_seg k.seg u then Some (offset, words) else None
update_asked u _ = None

-- the Ok updates of u in a run: where they wrote, and what
abbrev pub updates_of : SegId → List Happened → List (ℕ × List ℕ)
updates_of u run = filter_map (λ (h : Happened). update_asked u h.deed.asked) run

-- words after these updates
abbrev pub after_updates : List ℕ → List (ℕ × List ℕ) → List ℕ
after_updates words [] = words
after_updates words (x ∷ xs) = after_updates (overwrite words x.0 x.1) xs

-- the words of u at the opening: those that were kept, or zeros
abbrev pub first_content : Config → List Happened → SegId → List ℕ
first_content k run u =
    unwrap_or (option_and_then (λ (r : SegRecord). r.kept) (find (λ (r : SegRecord). same_seg r.seg u) k.records))
    (replicate (option_map_or (λ (g : Given). g.size) (given_to (all_given k run) u) 0) 0)

-- Content(K, E, u, n): the words of u after its n-th Ok update in E
abbrev pub content : Config → List ProcName → SegId → ℕ → List ℕ
content k names u n = let run = history (opening k) names in after_updates (first_content k run u) (take n (updates_of u run))

-- it is an Ok advance of u
abbrev pub advances : SegId → Option (Request × Outcome) → Bool
advances u (Some (Advance k, Value v)) = same_seg k.seg u
advances u _ = false

-- it is an Ok ticket of u
abbrev pub draws : SegId → Option (Request × Outcome) → Bool
draws u (Some (Ticket k, Value v)) = same_seg k.seg u
draws u _ = false

-- it is an out, also a refused one
abbrev pub prints : Option (Request × Outcome) → Bool
prints (Some (Out v, o)) = true
prints _ = false

-- how many Ok advances of u by processes of class c, Ok tickets of u, and outs of class d are among the effects
abbrev pub advances_in : ℕ → SegId → List Happened → ℕ
advances_in c u run = count_by (λ (h : Happened). h.who.class == c && advances u h.deed.asked) run

-- the Ok tickets of u among the effects
abbrev pub tickets_in : SegId → List Happened → ℕ
tickets_in u run = count_by (λ (h : Happened). draws u h.deed.asked) run

-- the outs of class d among the effects
abbrev pub outs_in : ℕ → List Happened → ℕ
outs_in d run = count_by (λ (h : Happened). h.who.class == d && prints h.deed.asked) run

-- two names are equal
abbrev pub same_name : ProcName → ProcName → Bool
same_name m n = m.processor == n.processor && m.class == n.class && m.slot == n.slot

-- what stands behind the first effect of a process in a list
abbrev pub behind : ProcName → List Happened → List Happened
behind n [] = []
behind n (h ∷ hs) = if same_name h.who n then hs else behind n hs

-- The sum over the components, the last one first, of the Ok advances by their classes before the last look at each. The
-- effects are given the latest first; the look at the component before is the effect of the process before.
abbrev pub looked_at : SegId → ProcName → List ℕ → List Happened → ℕ
looked_at u n [] past = 0
looked_at u n (c ∷ classes) past = advances_in c u past + looked_at u n classes (behind n past)

-- What an effect must show after those before it: a fetch whole words of a content, a ticket the number of tickets
-- before it, the last look of a read or await the sum of what its looks saw, and not less than is wanted, an out the number
-- of outs of its class before it.
abbrev pub ShowsRight : Config → List Happened → ProcName → Option (Request × Outcome) → Type 0
ShowsRight k past n (Some (Fetch x offset count pad, Words at words)) =
    words ≡ part_of (after_updates (first_content k past x.seg) (updates_of x.seg past)) offset count
ShowsRight k past n (Some (Ticket x, Value v)) = v ≡ tickets_in x.seg past
ShowsRight k past n (Some (Read x wanted t, Counted v)) =
    (v ≡ looked_at x.seg n (reverse (components k.table x.class)) (reverse past)) × (wanted ≤ v)
ShowsRight k past n (Some (Out value, Printed place v)) = place ≡ outs_in n.class past
ShowsRight k past n _ = Unit {0}

-- each effect of a run shows what it must
abbrev pub AllShowRight : Config → List Happened → List Happened → Type 0
AllShowRight k past [] = Unit {0}
AllShowRight k past (h ∷ run) = ShowsRight k past h.who h.deed.asked × AllShowRight k (past ++ h ∷ []) run
