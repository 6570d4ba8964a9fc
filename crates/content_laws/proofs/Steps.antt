-- Each step shows what it must, and leaves a state in which what stands is what the effects so far come to.
use Rattle.std.proofs.Common.{ℕ, ◌+◌, ◌%◌, ◌^◌, ◌<◌, ◌≤◌, Bool, true, false, not, List, [], ◌∷◌, ◌++◌, ◌≡◌, refl, sym, ap, subst, ◌∙◌, Option, Some, None, arith, length}
use Rattle.std.specs.Prelude.{◌==◌, if◌then◌else◌, nat_lt, is_none, reverse, take, slice_index}
use Rattle.std.specs.List.{position}
use Rattle.std.proofs.lemmas.Bool.{ltb-false}
use Rattle.std.proofs.lemmas.List.{take_all}
use Rattle.std.proofs.Math.Nat.{mod-eq_of_lt}
use Rattle.lists.specs.Lists.{part_of}
use Rattle.labels.specs.Label.{ClassEntry, at_or_below}
use Rattle.words_layout.specs.declared.segment.SegId.{SegId}
use Rattle.words_layout.proofs.Names.{same_seg-true}
use Rattle.policy.specs.Known.{Known, modifies}
use Rattle.policy.specs.Outcome.{Outcome, Value, Refused, Words, Printed, Looked, Counted, Tally, components}
use Rattle.policy.specs.Verdict.{first_broken, ◌⇒◌}
use Rattle.policy.specs.declared.rule.Rule.{Rule}
use Rattle.policy.specs.declared.rule.Rule.TheVariants.{Gone, NotIn, ConsoleFull, BadSize}
use Rattle.policy.specs.Private.{bounds_test}
use Rattle.class_model.specs.Config.{Config}
use Rattle.class_model.specs.Process.{Process, ProcName, known_at, usable_at, settled}
use Rattle.class_model.specs.Plan.{Plan, Own, Begin, Ask, Request, MakeKnown, Create, Delete, SwapIn, SwapOut, Fetch, Update, Read, Advance, Ticket, Out, plan}
use Rattle.class_model.specs.State.{State, Part, with_process, with_part, process_at, component_at, cell_of, live_words, is_deleted, is_in}
use Rattle.class_model.specs.Step.{Deed, Effect, chosen, deed, deed_of, deed_by, effect, begun}
use Rattle.class_model.specs.Run.{Happened}
use Rattle.class_model.specs.Access.{Given, given_to, all_given}
use Rattle.class_model.specs.Content.{updates_of, advances, advances_in, looked_at, ShowsRight}
use Rattle.process.specs.Fits.{KnownFits}
use Rattle.effect_laws.proofs.Good.{Good}
use Rattle.effect_laws.proofs.CreateTests.{passed_head, not_false}
use Rattle.effect_laws.proofs.GateLaws.{usable_known}
use Rattle.effect_laws.proofs.Planned.{Planned, planned}
use Rattle.access_laws.proofs.Told.{IsGiven, Told, given_front, more_entry}
use Rattle.access_laws.proofs.Permits.{ring_changes, ring_signals, signalled_above}
use Rattle.access_laws.proofs.Effects.{effect_told, given_by}
use Rattle.access_laws.proofs.Steps.{given_deed}
use Rattle.content_laws.proofs.Shown.{Of, given_size, Shown, PartShown, shown_more, shown_with, words_now}
use Rattle.content_laws.proofs.Effects.{in_live, make_known_shown, read_shown, fetch_shown, create_shown, delete_shown, out_shown, advance_shown, ticket_shown, swap_in_shown, swap_out_shown, update_shown, unchanged}
use Rattle.content_laws.proofs.Tallies.{looked_few}
use Rattle.content_laws.specs.Contents.{Follows, ShowsMore}
use Rattle.content_laws.proofs.Looks.{looks_follow, Looks, some_component, summed, seen_inside}
use Rattle.content_laws.proofs.LookSteps.{own_looks, begun_looks, asked_looks, request_looks}

-- what a known segment was given is its class
pub of_given : (all : List Given) (x : Known) → IsGiven all x.seg x.class x.brackets x.size → Of all x.class x.seg
of_given all x g z e = class_is (sym g ∙ e)
  where
    class_is : Some (record { seg = x.seg; class = x.class; brackets = x.brackets; size = x.size }) ≡ Some z → z.class ≡ x.class
    class_is w = let same : record { seg = x.seg; class = x.class; brackets = x.brackets; size = x.size } ≡ z = cc in ap (λ (g : Given). g.class) (sym same)

-- other processes alone
slots_shown : (k : Config) (all : List Given) (past : List Happened) (a : State) (d : ℕ) (asked : Option (Request × Outcome)) (X : Part) → PartShown k all past a d asked X →
    (slots : ℕ → List (Option Process)) → PartShown k all past a d asked (record X { slots = slots })
slots_shown k all past a d asked X p slots = record { used = p.used; components = p.components; sequencers = p.sequencers; writes = p.writes; homes = p.homes; blank = p.blank; unwritten = p.unwritten; others = p.others }

-- what a read owes: fewer than 2^64 effects before it
abbrev pub FewFor : List Happened → Option (Request × Outcome) → Type 0
FewFor past (Some (Read x wanted y, o)) = length past < 2 ^ 64
FewFor past _ = Unit {0}

-- what a fetch or a read asks of was given so
abbrev pub AskedGiven : List Given → Option (Request × Outcome) → Type 0
AskedGiven all (Some (Fetch x offset count pad, o)) = IsGiven all x.seg x.class x.brackets x.size
AskedGiven all (Some (Read x wanted y, o)) = IsGiven all x.seg x.class x.brackets x.size
AskedGiven all _ = Unit {0}

-- all that a step comes to
pub record StepShown (k : Config) (past : List Happened) (a : State) (n : ProcName) (x : Deed) : Type 0 where
  pub right : FewFor past x.asked → ShowsRight k past n x.asked
  pub follows : Follows past n x.asked
  pub more : ShowsMore past n x.asked
  pub given : AskedGiven (all_given k past) x.asked
  pub low : (c : ℕ) (u : SegId) → Of (all_given k past) c u → advances u x.asked ≡ true → (n.class < length k.table) × (at_or_below k.table n.class c ≡ true)
  pub shown : Shown k (all_given k past ++ given_deed n.class (Some x)) (past ++ record { who = n; before = a; deed = x } ∷ []) (with_part a n.class x.part)
  pub looks : Looks (past ++ record { who = n; before = a; deed = x } ∷ []) (with_part a n.class x.part)

module _ (k : Config) (past : List Happened) (m : ℕ) (a : State) (table : a.shared.table ≡ k.table) (good : Good m a) (t : Told (all_given k past) a)
    (s : Shown k (all_given k past) past a) (looks : Looks past a) (n : ProcName) (p : Process) (there : process_at a n ≡ Some p) where
  abbrev all : List Given
  all = all_given k past

  fits : (i : ℕ) (x : Known) → known_at p i ≡ Some x → KnownFits a.shared n.class x
  fits i x e = ((good.processes n p there).known i x e).fits

  given : (i : ℕ) (x : Known) → known_at p i ≡ Some x → IsGiven (all_given k past) x.seg x.class x.brackets x.size
  given i x e = (t.processes n p there i x e).given

  known_as : (i : ℕ) (x : Known) → usable_at p i ≡ Some x → known_at p i ≡ Some x
  known_as i x e = usable_known (known_at p i) x e

  own_class : (i : ℕ) (x : Known) → usable_at p i ≡ Some x → modifies x.rights ≡ true → x.class ≡ n.class
  own_class i x e w = (fits i x (known_as i x e)).modified w

  -- ---- what is shown

  -- a fetch shows words of the content
  fetch_right : (x : Known) (offset count pad : ℕ) → IsGiven (all_given k past) x.seg x.class x.brackets x.size →
      ShowsRight k past n (Some (Fetch x offset count pad, (effect a n.class p.ring (Fetch x offset count pad)).outcome))
  fetch_right x offset count pad g = by_rule (first_broken ((is_deleted (cell_of a x) ⇒ Gone) ∷ (not (is_in (cell_of a x)) ⇒ NotIn) ∷ [])) refl
    where
      by_rule : (r : Option Rule) → first_broken ((is_deleted (cell_of a x) ⇒ Gone) ∷ (not (is_in (cell_of a x)) ⇒ NotIn) ∷ []) ≡ r →
          ShowsRight k past n (Some (Fetch x offset count pad, (chosen (a.part n.class) r (record { part = a.part n.class; outcome = Words pad (part_of (live_words (cell_of a x)) offset count) })).outcome))
      by_rule (Some rule) e = tt
      by_rule None e =
          let first = passed_head (is_deleted (cell_of a x) ⇒ Gone) ((not (is_in (cell_of a x)) ⇒ NotIn) ∷ []) e in let second = passed_head (not (is_in (cell_of a x)) ⇒ NotIn) [] first.1 in
          ap (λ l. part_of l offset count) (in_live (given_size (given_to (all_given k past) x.seg)) (cell_of a x).home (cell_of a x).stored (words_now k (all_given k past) past x.seg) (not_false _ second.0) (s.homes x.class x.seg (of_given (all_given k past) x g)))

  ticket_right : (x : Known) → IsGiven (all_given k past) x.seg x.class x.brackets x.size → x.class ≡ n.class → ShowsRight k past n (Some (Ticket x, (effect a n.class p.ring (Ticket x)).outcome))
  ticket_right x g own = s.sequencers n.class x.seg (subst (λ c. Of (all_given k past) c x.seg) own (of_given (all_given k past) x g))

  out_right : (value : ℕ) → ShowsRight k past n (Some (Out value, (effect a n.class p.ring (Out value)).outcome))
  out_right value = by_room (nat_lt (a.part n.class).used a.shared.console)
    where
      by_room : (b : Bool) → ShowsRight k past n (Some (
        Out value,
        (let z : Effect = (if b then record { part = record (a.part n.class) { lines = (a.part n.class).lines ++ value ∷ []; used = (a.part n.class).used + 1 }; outcome = Printed (a.part n.class).used value }
            else record { part = record (a.part n.class) { used = (a.part n.class).used + 1 }; outcome = Refused ConsoleFull }) in z.outcome),
      ))
      by_room true = s.used n.class
      by_room false = tt

  -- what a read needs to know
  knows : (i : ℕ) (x : Known) → known_at p i ≡ Some x → (0 < length (components a.shared.table x.class)) × ((c : ℕ) → component_at a c x.class x.seg ≡ advances_in c x.seg past)
  knows i x e = (some_component a.shared.table good.sound.table x.class (fits i x e).class, (λ c. s.components c x.class x.seg (of_given (all_given k past) x (given i x e))))

  read_right : (i : ℕ) (x : Known) (wanted : ℕ) (y : Tally) → length past < 2 ^ 64 → known_at p i ≡ Some x → plan a.shared n.class p ≡ Ask (Read x wanted y) →
      ShowsRight k past n (Some (Read x wanted y, (effect a n.class p.ring (Read x wanted y)).outcome))
  read_right i x wanted y few e asks = by_tests (nat_lt (y.seen + 1) (length (components a.shared.table x.class))) (nat_lt sum wanted) refl refl
    where
      sum : ℕ
      sum = (y.sum + component_at a (slice_index (components a.shared.table x.class) y.seen) x.class x.seg) % 2 ^ 64

      is_sum : nat_lt (y.seen + 1) (length (components a.shared.table x.class)) ≡ false → sum ≡ looked_at x.seg n (reverse (components a.shared.table x.class)) (reverse past)
      is_sum f =
          let know = knows i x e in
          let inside = seen_inside past a n p (looks n p there) x wanted y asks know.0 know.1 in
          let last : length (components a.shared.table x.class) ≤ y.seen + 1 = ltb-false (y.seen + 1) _ f in
          let whole : take (y.seen + 1) (components a.shared.table x.class) ≡ components a.shared.table x.class = take_all (y.seen + 1) (components a.shared.table x.class) last in
          let bound = looked_few a.shared.table x.class x.seg n past in
          let small : looked_at x.seg n (reverse (components a.shared.table x.class)) (reverse past) < 2 ^ 64 = omega (arith, bound, few) in
          summed past a n p (looks n p there) x wanted y asks know.0 know.1
          ∙ ap (λ l. looked_at x.seg n (reverse l) (reverse past) % 2 ^ 64) whole ∙ mod-eq_of_lt small

      by_tests : (b c : Bool) → nat_lt (y.seen + 1) (length (components a.shared.table x.class)) ≡ b → nat_lt sum wanted ≡ c →
          ShowsRight k past n (Some (Read x wanted y, (if b then Looked (Some (record { seen = y.seen + 1; sum = sum })) else (if c then Looked None else Counted sum))))
      by_tests true c f h = tt
      by_tests false true f h = tt
      by_tests false false f h =
          (is_sum f ∙ ap (λ (z : List ClassEntry). looked_at x.seg n (reverse (components z x.class)) (reverse past)) table, ltb-false sum wanted h)

  shows_right : (q : Request) → plan a.shared n.class p ≡ Ask q → FewFor past (Some (q, (effect a n.class p.ring q).outcome)) → ShowsRight k past n (Some (q, (effect a n.class p.ring q).outcome))
  shows_right q e few = by_request q e (planned a.shared n.class p q e) few
    where
      by_request : (q : Request) → plan a.shared n.class p ≡ Ask q → Planned a.shared p q → FewFor past (Some (q, (effect a n.class p.ring q).outcome)) → ShowsRight k past n (Some (q, (effect a n.class p.ring q).outcome))
      by_request (Fetch x offset count pad) e pl few = fetch_right x offset count pad (given pl.0 x (known_as pl.0 x pl.1))
      by_request (Ticket x) e pl few = ticket_right x (given pl.0 x (known_as pl.0 x pl.1)) (own_class pl.0 x pl.1 (ring_changes p.ring x [] pl.2).0)
      by_request (Read x wanted y) e pl few = read_right pl.0 x wanted y few (known_as pl.0 x pl.1) e
      by_request (Out value) e pl few = out_right value
      by_request (MakeKnown x i mode) e pl few = tt
      by_request (Create x i class b size) e pl few = tt
      by_request (Delete x i) e pl few = tt
      by_request (SwapIn x) e pl few = tt
      by_request (SwapOut x) e pl few = tt
      by_request (Update x offset words) e pl few = tt
      by_request (Advance x) e pl few = tt

  -- ---- what it leaves

  part_shown : (q : Request) → Planned a.shared p q → (let z = effect a n.class p.ring q in
      PartShown k (all_given k past ++ given_by n.class q z.outcome) past a n.class (Some (q, z.outcome)) z.part)
  part_shown q pl = by_request q pl
    where
      now : (more : List Given) → Shown k (all_given k past ++ more) past a
      now more = shown_more k (all_given k past) more past a s

      given_now : (more : List Given) (i : ℕ) (x : Known) → known_at p i ≡ Some x → IsGiven (all_given k past ++ more) x.seg x.class x.brackets x.size
      given_now more i x e = given_front (all_given k past) more x.seg _ (given i x e)

      by_request : (q : Request) → Planned a.shared p q → (let z = effect a n.class p.ring q in
          PartShown k (all_given k past ++ given_by n.class q z.outcome) past a n.class (Some (q, z.outcome)) z.part)
      by_request (MakeKnown x i mode) pl = make_known_shown k _ past a (now _) n.class x i mode p.ring
      by_request (Create x i class b size) pl = create_shown k _ past a (now _) n.class x i class b size p.ring
      by_request (Delete x i) pl = delete_shown k _ past a (now _) n.class x i p.ring (λ y e. more_entry (all_given k past) [] a.shared n.class y (t.entries n.class x.seg i y e))
      by_request (SwapIn x) pl = swap_in_shown k _ past a (now _) n.class x (given_now _ pl.0 x (known_as pl.0 x pl.1)) (own_class pl.0 x pl.1 (ring_changes p.ring x ((x.size == 0 ⇒ BadSize) ∷ []) pl.2).0) p.ring
      by_request (SwapOut x) pl = swap_out_shown k _ past a (now _) n.class x (given_now _ pl.0 x (known_as pl.0 x pl.1)) (own_class pl.0 x pl.1 (ring_changes p.ring x [] pl.2).0) p.ring
      by_request (Fetch x offset count pad) pl = fetch_shown k _ past a (now _) n.class x offset count pad p.ring
      by_request (Update x offset words) pl =
          update_shown k _ past a (now _) n.class x (given_now _ pl.0 x (known_as pl.0 x pl.3)) (own_class pl.0 x pl.3 (ring_changes p.ring x (bounds_test x offset pl.1 pl.2 ∷ []) pl.5).0) offset words p.ring
      by_request (Read x wanted y) pl = read_shown k _ past a (now _) n.class x wanted y p.ring
      by_request (Advance x) pl = advance_shown k _ past a (now _) n.class x (given_now _ pl.0 x pl.1) p.ring
      by_request (Ticket x) pl = ticket_shown k _ past a (now _) n.class x (given_now _ pl.0 x (known_as pl.0 x pl.1)) (own_class pl.0 x pl.1 (ring_changes p.ring x [] pl.2).0) p.ring
      by_request (Out value) pl = out_shown k _ past a (now _) n.class value p.ring

  -- an advance is by a class at or below that of its segment
  low_advance : (q : Request) → Planned a.shared p q → (c : ℕ) (u : SegId) → Of (all_given k past) c u → advances u (Some (q, (effect a n.class p.ring q).outcome)) ≡ true → (n.class < length k.table) × (at_or_below k.table n.class c ≡ true)
  low_advance (Advance x) pl c u o h =
      let same : x.seg ≡ u = same_seg-true x.seg u h in
      let class : x.class ≡ c = o _ (ap (given_to (all_given k past)) (sym same) ∙ given pl.0 x pl.1) in
      let up = signalled_above a.shared n.class x (fits pl.0 x pl.1) (t.processes n p there pl.0 x pl.1).signalled (ring_signals p.ring x pl.2).0 in
      subst (λ (z : List ClassEntry). (n.class < length z) × (at_or_below z n.class c ≡ true)) table ((good.processes n p there).fits.class, subst (λ c. at_or_below a.shared.table n.class c ≡ true) class up)
  low_advance _ pl c u o h = absurd (cc (h))

  asked_follows : (q : Request) → plan a.shared n.class p ≡ Ask q → Follows past n (Some (q, (effect a n.class p.ring q).outcome))
  asked_follows (Read x wanted y) e = looks_follow past a.shared n p (looks n p there) x wanted y (effect a n.class p.ring (Read x wanted y)).outcome e
  asked_follows _ e = tt

  fetch_more : (x : Known) (offset count pad : ℕ) (r : Option Rule) → ShowsMore past n (Some (Fetch x offset count pad, (chosen (a.part n.class) r (record { part = a.part n.class; outcome = Words pad (part_of (live_words (cell_of a x)) offset count) })).outcome))
  fetch_more x offset count pad None = refl
  fetch_more x offset count pad (Some rule) = tt

  update_more : (x : Known) (offset : ℕ) (words : List ℕ) → ((a.part n.class).cell x.seg).writes ≡ length (updates_of x.seg past) → (r : Option Rule) (X : Part) →
      ShowsMore past n (Some (Update x offset words, (chosen (a.part n.class) r (record { part = X; outcome = Value (((a.part n.class).cell x.seg).writes + 1) })).outcome))
  update_more x offset words e None X = ap (λ n. n + 1) e
  update_more x offset words e (Some rule) X = tt

  out_more : (value : ℕ) (b : Bool) → ShowsMore past n (Some (
    Out value,
    (let z : Effect = (if b then record { part = record (a.part n.class) { lines = (a.part n.class).lines ++ value ∷ []; used = (a.part n.class).used + 1 }; outcome = Printed (a.part n.class).used value }
        else record { part = record (a.part n.class) { used = (a.part n.class).used + 1 }; outcome = Refused ConsoleFull }) in z.outcome),
  ))
  out_more value true = refl
  out_more value false = tt

  shows_more : (q : Request) → Planned a.shared p q → ShowsMore past n (Some (q, (effect a n.class p.ring q).outcome))
  shows_more (Fetch x offset count pad) pl = fetch_more x offset count pad (first_broken ((is_deleted (cell_of a x) ⇒ Gone) ∷ (not (is_in (cell_of a x)) ⇒ NotIn) ∷ []))
  shows_more (Update x offset words) pl = update_more x offset words
      (s.writes n.class x.seg (subst (λ c. Of (all_given k past) c x.seg) (own_class pl.0 x pl.3 (ring_changes p.ring x (bounds_test x offset pl.1 pl.2 ∷ []) pl.5).0) (of_given (all_given k past) x (given pl.0 x (known_as pl.0 x pl.3)))))
      (first_broken ((is_deleted ((a.part n.class).cell x.seg) ⇒ Gone) ∷ (not (is_in ((a.part n.class).cell x.seg)) ⇒ NotIn) ∷ [])) _
  shows_more (Advance x) pl = ap (λ n. n + 1) (s.components n.class x.class x.seg (of_given (all_given k past) x (given pl.0 x pl.1)))
  shows_more (Out value) pl = out_more value (nat_lt (a.part n.class).used a.shared.console)
  shows_more (MakeKnown x i mode) pl = tt
  shows_more (Create x i class b size) pl = tt
  shows_more (Delete x i) pl = tt
  shows_more (SwapIn x) pl = tt
  shows_more (SwapOut x) pl = tt
  shows_more (Read x wanted y) pl = tt
  shows_more (Ticket x) pl = tt

  asked_given : (q : Request) → Planned a.shared p q → AskedGiven (all_given k past) (Some (q, (effect a n.class p.ring q).outcome))
  asked_given (Fetch x offset count pad) pl = given pl.0 x (known_as pl.0 x pl.1)
  asked_given (Read x wanted y) pl = given pl.0 x (known_as pl.0 x pl.1)
  asked_given _ pl = tt

  -- a step that asks nothing
  private_shown : (slots : ℕ → List (Option Process)) → Shown k (all_given k past ++ [])
      (past ++ record { who = n; before = a; deed = record { part = record (a.part n.class) { slots = slots }; asked = None } } ∷ []) (with_part a n.class (record (a.part n.class) { slots = slots }))
  private_shown slots = shown_with k (all_given k past ++ []) past a now _ (record (a.part n.class) { slots = slots })
      (slots_shown k (all_given k past ++ []) past a n.class None (a.part n.class) (unchanged k (all_given k past ++ []) past a now n.class None (λ u. (refl, refl, refl)) refl) slots)
    where
      now : Shown k (all_given k past ++ []) past a
      now = shown_more k (all_given k past) [] past a s

  begun_shown : (child : Process) → plan a.shared n.class p ≡ Begin child → (o : Option ℕ) → StepShown k past a n (record { part = begun (a.part n.class) n p child o; asked = None })
  begun_shown child e None = record { right = λ few. tt; follows = tt; more = tt; given = tt; low = λ c u o h. absurd (cc (h)); shown = private_shown _; looks = begun_looks past a looks n p there _ child e None }
  begun_shown child e (Some slot) = record { right = λ few. tt; follows = tt; more = tt; given = tt; low = λ c u o h. absurd (cc (h)); shown = private_shown _; looks = begun_looks past a looks n p there _ child e (Some slot) }

  by_plan : (y : Plan) → plan a.shared n.class p ≡ y → StepShown k past a n (deed_of a n p y)
  by_plan (Own after) e = record { right = λ few. tt; follows = tt; more = tt; given = tt; low = λ c u o h. absurd (cc (h)); shown = private_shown _; looks = own_looks past a looks n p there _ after e }
  by_plan (Begin child) e = begun_shown child e (position (λ q. is_none q) ((a.part n.class).slots n.processor))
  by_plan (Ask q) e =
      let z : Effect = effect a n.class p.ring q in
      let pl = planned a.shared n.class p q e in
      record {
        right = shows_right q e;
        follows = asked_follows q e;
        more = shows_more q pl;
        given = asked_given q pl;
        low = low_advance q pl;
        shown = shown_with k (all_given k past ++ given_by n.class q z.outcome) past a (shown_more k (all_given k past) _ past a s) _ _
            (slots_shown k _ past a n.class _ z.part (part_shown q pl) (with_process z.part n.processor n.slot (settled p z.outcome)).slots);
        looks = asked_looks past a looks n p there _ q z (effect_told (all_given k past) a t n.class p q pl).slots
            (request_looks past a looks n p there _ q e refl (λ x w y same. knows_of q pl x w y same));
      }
    where
      knows_of : (q : Request) → Planned a.shared p q → (x : Known) (w : ℕ) (y : Tally) → q ≡ Read x w y → (0 < length (components a.shared.table x.class)) × ((c : ℕ) → component_at a c x.class x.seg ≡ advances_in c x.seg past)
      knows_of (Read z v u) pl x w y same = (let is : z ≡ x = cc (same) in
          subst (λ (x : Known). (0 < length (components a.shared.table x.class)) × ((c : ℕ) → component_at a c x.class x.seg ≡ advances_in c x.seg past)) is (knows pl.0 z (known_as pl.0 z pl.1)))
      knows_of _ pl x w y same = absurd (cc (same))

  by_live : (b : Bool) (x : Deed) → (if b then Some (deed_of a n p (plan a.shared n.class p)) else None) ≡ Some x → StepShown k past a n x
  by_live true x e = let same : deed_of a n p (plan a.shared n.class p) ≡ x = cc in subst (StepShown k past a n) same (by_plan (plan a.shared n.class p) refl)
  by_live false x e = absurd (cc)

-- the step of a name that makes one
pub step_shown : (k : Config) (past : List Happened) (m : ℕ) (a : State) (table : a.shared.table ≡ k.table) (good : Good m a) (t : Told (all_given k past) a)
    (s : Shown k (all_given k past) past a) (looks : Looks past a) (n : ProcName) (x : Deed) → deed a n ≡ Some x → StepShown k past a n x
step_shown k past m a table good t s looks n x e = by_process (process_at a n) refl e
  where
    by_process : (o : Option Process) → process_at a n ≡ o → deed_by a n o ≡ Some x → StepShown k past a n x
    by_process None f h = absurd (cc)
    by_process (Some p) f h = by_live k past m a table good t s looks n p f p.live x h
