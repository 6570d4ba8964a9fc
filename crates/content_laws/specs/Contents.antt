-- What the laws of content say.
use Rattle.std.specs.Prelude.{ℕ, zero, suc, ◌+◌, ◌-◌, ◌^◌, ◌≤◌, ◌≡◌, ◌⊎◌, if◌then◌else◌, true, Bool, not, ◌&&◌, List, [], ◌∷◌, length, count_by, reverse, take, Option, Some, None, is_some, slice_get}
use Rattle.std.specs.List.{list_all}
use Rattle.lists.specs.Lists.{part_of}
use Rattle.words_layout.specs.Sizes.{max_events}
use Rattle.words_layout.specs.Segments.{same_seg}
use Rattle.words_layout.specs.declared.segment.SegId.{SegId}
use Rattle.words_layout.specs.declared.op.Event.{Event}
use Rattle.policy.specs.Known.{Known}
use Rattle.policy.specs.Outcome.{Outcome, Value, Words, Printed, Looked, Counted, Tally, components}
use Rattle.class_model.specs.Config.{Config}
use Rattle.class_model.specs.Process.{ProcName}
use Rattle.class_model.specs.Plan.{Request, Fetch, Update, Read, Advance, Out}
use Rattle.class_model.specs.State.{State}
use Rattle.class_model.specs.Step.{deed, step}
use Rattle.class_model.specs.Run.{Happened, history, opening}
use Rattle.class_model.specs.Valid.{IsConfig}
use Rattle.class_model.specs.Access.{Given, all_given}
use Rattle.class_model.specs.Content.{updates_of, advances_in, advances, behind, same_name, content, AllShowRight}
use Rattle.machine.specs.Opening.{effects}

-- Each effect of a run shows what it must. A read answers its sum modulo 2^64, so there are at most so many names.
abbrev pub EffectsShowRight : Type 0
EffectsShowRight = (k : Config) (names : List ProcName) → IsConfig k → length names ≤ 2 ^ 64 → AllShowRight k [] (history (opening k) names)

-- Without a bound on the names that is false: an eventcount is a sum modulo 2^64.
abbrev pub ShowingNeedsBound : Type 0
ShowingNeedsBound = ((k : Config) (names : List ProcName) → IsConfig k → AllShowRight k [] (history (opening k) names)) → ⊥

-- the number of Ok advances of u among effects
abbrev pub advanced : SegId → List Happened → ℕ
advanced u run = count_by (λ (h : Happened). advances u h.deed.asked) run

-- what stands behind the first i effects of a process, the latest first
abbrev pub back : ProcName → ℕ → List Happened → List Happened
back n zero past = past
back n (suc i) past = back n i (behind n past)

-- an Ok read or await of a segment of so many components: no less than the advances before its first look, no more than those
-- before its last one
abbrev pub IsBetween : Config → List Happened → ProcName → Option (Request × Outcome) → Type 0
IsBetween k past n (Some (Read x wanted t, Counted v)) =
    (advanced x.seg (back n (length (components k.table x.class) - 1) (reverse past)) ≤ v) × (v ≤ advanced x.seg past)
IsBetween k past n _ = Unit {0}

-- each Ok read or await of a run is so
abbrev pub ReadsAreBetween : Type 0
ReadsAreBetween = (k : Config) (names : List ProcName) → IsConfig k → length names ≤ 2 ^ 64 → let run = history (opening k) names in
    (i : ℕ) (h : Happened) → slice_get run i ≡ Some h → IsBetween k (take i run) h.who h.deed.asked

-- how many Ok updates of u stand before place i of a run
abbrev pub updates_before : SegId → ℕ → List Happened → ℕ
updates_before u i run = length (updates_of u (take i run))

-- A fetch shows words of the content after the updates before it, and there are no fewer of them at a later place.
abbrev pub FetchesGoOn : Type 0
FetchesGoOn = (k : Config) (names : List ProcName) → IsConfig k → let run = history (opening k) names in
    ((i : ℕ) (h : Happened) (x : Known) (offset count pad at : ℕ) (words : List ℕ) → slice_get run i ≡ Some h → h.deed.asked ≡ Some (Fetch x offset count pad, Words at words) →
    words ≡ part_of (content k names x.seg (updates_before x.seg i run)) offset count) ×
    ((u : SegId) (i j : ℕ) → i ≤ j → updates_before u i run ≤ updates_before u j run)

-- what the last effect of a process asked and was shown, of effects that are given the latest first
abbrev pub last_asked : ProcName → List Happened → Option (Request × Outcome)
last_asked n [] = None
last_asked n (h ∷ past) = if same_name h.who n then h.deed.asked else last_asked n past

-- A look of a read or await is its first, or the last effect of its process before was the look at the component before: the same
-- read, which showed this tally.
abbrev pub Follows : List Happened → ProcName → Option (Request × Outcome) → Type 0
Follows past n (Some (Read x wanted t, o)) =
    (t ≡ record { seen = 0; sum = 0 }) ⊎ ((t' : Tally) × (last_asked n (reverse past) ≡ Some (Read x wanted t', Looked (Some t))) × (t.seen ≡ t'.seen + 1))
Follows past n _ = Unit {0}

-- so are all looks of a run
abbrev pub LooksFollow : Type 0
LooksFollow = (k : Config) (names : List ProcName) → IsConfig k → let run = history (opening k) names in
    (i : ℕ) (h : Happened) → slice_get run i ≡ Some h → Follows (take i run) h.who h.deed.asked

-- What a fetch, an update, an advance and an out show besides: where the words go, one more than the updates before, one more than
-- the advances by its class before, and the value of the line.
abbrev pub ShowsMore : List Happened → ProcName → Option (Request × Outcome) → Type 0
ShowsMore past n (Some (Fetch x offset count pad, Words at words)) = at ≡ pad
ShowsMore past n (Some (Update x offset words, Value v)) = v ≡ length (updates_of x.seg past) + 1
ShowsMore past n (Some (Advance x, Value v)) = v ≡ advances_in n.class x.seg past + 1
ShowsMore past n (Some (Out value, Printed place v)) = v ≡ value
ShowsMore past n _ = Unit {0}

-- each effect of a run shows that
abbrev pub EffectsShowMore : Type 0
EffectsShowMore = (k : Config) (names : List ProcName) → IsConfig k → let run = history (opening k) names in
    (i : ℕ) (h : Happened) → slice_get run i ≡ Some h → ShowsMore (take i run) h.who h.deed.asked

-- no identity stands twice in a list of what was given
abbrev pub given_once : List Given → Bool
given_once [] = true
given_once (g ∷ all) = list_all (λ (x : Given). not (same_seg x.seg g.seg)) all && given_once all

-- each identity is given once at most: as the root, by a record, or by an Ok create
abbrev pub IdentitiesAreGivenOnce : Type 0
IdentitiesAreGivenOnce = (k : Config) (names : List ProcName) → IsConfig k → given_once (all_given k (history (opening k) names)) ≡ true

-- each name makes a step, one after the other
abbrev pub AllStep : State → List ProcName → Type 0
AllStep a [] = Unit {0}
AllStep a (n ∷ names) = (is_some (deed a n) ≡ true) × AllStep (step a n) names

-- each name of the order of effect makes a step
abbrev pub EffectsAreSteps : Type 0
EffectsAreSteps = (k : Config) (events : List Event) → IsConfig k → length events ≤ max_events → AllStep (opening k) (effects k events)
