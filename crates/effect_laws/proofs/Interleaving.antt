-- Whatever the order of steps, each turn comes to what its body does at one go on the words that were committed before it,
-- and each accepted look to what its body shows at one go on such words: for the turns of classes, of segments, and of
-- segments within those of their class.
use Rattle.std.proofs.Common.{ℕ, ◌+◌, ◌-◌, ◌%◌, ◌^◌, ◌≤◌, ◌<◌, Bool, true, false, ◌≡◌, refl, sym, ap, subst, ◌∙◌, Option, Some, None, arith, ◌⊎◌, inl, inr}
use Rattle.std.specs.Prelude.{◌==◌, if◌then◌else◌}
use Rattle.std.proofs.lemmas.Bool.{eqb-true, eqb-false, both_ways, false_from_ne_true, cases_lt}
use Rattle.std.proofs.Math.Nat.{le_trans, le_refl}
use Rattle.lists.specs.Lists.{put}
use Rattle.words_layout.specs.declared.segment.SegId.{SegId}
use Rattle.words_layout.specs.Words.{Guard, OfClass, OfSegment, GuardedWord, GuardedWords, Words, WordOp, words_after, answer_to, set_guarded}
use Rattle.policy.specs.Outcome.{Outcome}
use Rattle.turns.specs.Bodies.{Loads, Inner, Outer}
use Rattle.turns.specs.AtOnce.{run_loads, run_inner, run_outer, Ran}
use Rattle.turns.specs.Doing.{Doing, Fresh, LookSecond, LookBody, OuterSecond, OuterThird, OuterBody, InnerSecond, InnerThird, InnerBody, Leaving, going, poll, done, Look, ClassTurn, SegmentTurn, act_op, act_told, look_op, look_told, outer_op, outer_told, inner_op, inner_told}
use Rattle.turns.specs.Stage.{Stage, Outside, Has, stage, inside}
use Rattle.class_model.specs.Config.{Shared}
use Rattle.class_model.specs.Process.{Process}
use Rattle.class_model.specs.Plan.{Plan, Own, Begin, Ask, Request, plan}
use Rattle.process.specs.Running.{Running, act, plan_op, running_op, Absorbed, after_told, begin_in, plan_absorbed, doing_absorbed}
use Rattle.machine.specs.Machine.{ClassPart, slot_at, free_slot, vp_absorbed}
use Rattle.machine.specs.Stands.{NotInTurn, NoTurn}
use Rattle.effect_laws.proofs.Guards.{Hold, just, both, inner_hold, covers, may_store, Apart, Changed, mix, ext, over-covered, set_over, store_covers, cover_more, class_in_both}
use Rattle.effect_laws.proofs.Paths.{LoadsPath, InnerPath, OuterPath, LoadsWithin, InnerWithin, OuterWithin, loads_along, inner_along, outer_along, loads_run, inner_run, outer_run, inner_changed, outer_changed}
use Rattle.effect_laws.proofs.StepKinds.{writing, Kind, calm, store, commit, outer_kept, inner_kept, loads_kept, Nested, nested_kept, nested_changed, idle_kept}
use Rattle.effect_laws.specs.Turns.{Held}
use Rattle.effect_laws.proofs.Turns.{TicketOk, SlotHeld, at_slot, SlotIs, mine, born, kept}
use Rattle.effect_laws.proofs.Slots.{IsChosen, part_after, slots-after, heft}
use Rattle.effect_laws.proofs.TurnStep.{TurnsUpTo, After, step_ok, chosen_keeps, absorb_fits}
use Rattle.effect_laws.proofs.Committed.{Asks, TurnKnown, DoingOk, SlotDoing, SlotFree, Committed, Fair, writing_inside, free_outside, writing_held, not-one, no-turn, put-here, put-there, commit_by, plan_calm}

module _ (s : Shared) (n : ℕ) (m : ℕ → ClassPart) (before : ℕ → GuardedWords) (inv : Committed s n m before) (n_small : n < 2 ^ 64 - 1)
    (d p i : ℕ) (p0 : Process) (fair : Fair s before d p0) where
  abbrev pub at_doing : Doing Outcome → Running
  at_doing x = record { process = p0; doing = x }

  abbrev pub words_now : ℕ → Words
  words_now y = (m y).words

  abbrev c0 : GuardedWords
  c0 = before d

  abbrev n0 : GuardedWords
  n0 = (m d).words.guarded

  abbrev op_at : Doing Outcome → WordOp
  op_at x = running_op s d p0 x

  abbrev answer_at : Doing Outcome → ℕ
  answer_at x = answer_to words_now d (op_at x)

  abbrev step_at : Doing Outcome → Absorbed
  step_at x = doing_absorbed s d p0 (free_slot ((m d).vp p)) (answer_at x) x

  abbrev pub part_at : Doing Outcome → ClassPart
  part_at x = part_after s (words_after (m d).words (op_at x)) (m d) p i (step_at x)

  abbrev pub parts_at : Doing Outcome → ℕ → ClassPart
  parts_at x = put m d (part_at x)

  abbrev pub commit_at : Doing Outcome → ℕ → GuardedWords
  commit_at x = put before d (commit_by x n0 c0)

  abbrev new_at : Doing Outcome → Doing Outcome
  new_at x = (step_at x).running.doing

  abbrev n1 : Doing Outcome → GuardedWords
  n1 x = (words_after (m d).words (op_at x)).guarded

  abbrev KindAt : Doing Outcome → Type 0
  KindAt x = Kind c0 n0 (writing x) (writing (new_at x)) (commit_by x n0 c0) (n1 x)

  -- where the guards cover a word, what is mixed is the word as it is
  now_is : (h : Hold) (w : GuardedWord) → covers c0 h w ≡ true → mix c0 h n0 w ≡ n0 w
  now_is h w k = over-covered c0 h n0 c0 w k

  -- the rest of an outer body is guarded
  outer_rest : (body rest : Outer Outcome) → Asks s d p0 (ClassTurn body) → OuterPath c0 (just OfClass) body c0 rest (mix c0 (just OfClass) n0) →
      OuterWithin c0 rest (mix c0 (just OfClass) n0)
  outer_rest body rest asks path = outer_along c0 body c0 rest (mix c0 (just OfClass) n0) path (fair.of_class asks.request body asks.planned asks.done_so)

  inner_rest : (u : SegId) (body rest : Inner Outcome) → Asks s d p0 (SegmentTurn u body) → InnerPath c0 (just (OfSegment u)) body c0 rest (mix c0 (just (OfSegment u)) n0) →
      InnerWithin c0 (just (OfSegment u)) rest (mix c0 (just (OfSegment u)) n0)
  inner_rest u body rest asks path = inner_along c0 (just (OfSegment u)) body c0 rest (mix c0 (just (OfSegment u)) n0) path
      (fair.of_segment asks.request u body asks.planned asks.done_so)

  nested_rest : (u : SegId) (body : Outer Outcome) (rest : Inner Outcome) → Asks s d p0 (ClassTurn body) → Nested c0 n0 u body rest →
      InnerWithin c0 (both u) rest (mix c0 (both u) n0)
  nested_rest u body rest asks nest = inner_along c0 (both u) nest.0 nest.1 rest (mix c0 (both u) n0) nest.3
      (outer_along c0 body c0 (Outer.Enter u nest.0) nest.1 nest.2 (fair.of_class asks.request body asks.planned asks.done_so))

  -- what the step does to the words
  fresh_kind : KindAt Fresh
  fresh_kind = subst (Kind c0 n0 (writing Fresh) (writing (new_at Fresh)) c0) (sym (plan_calm s d p0.ring (m d).words (plan s d p0))) (calm (λ g k. refl))

  look_kind : (x : ℕ) (g : Guard) (k : ℕ) (rest : Loads Outcome) → KindAt (LookBody x g k rest)
  look_kind x g k (Loads.Load w f) = calm (λ h e. refl)
  look_kind x g k (Loads.Shows o) = calm (λ h e. refl)

  outer_kind : (t : ℕ) (rest : Outer Outcome) → TurnKnown s d p0 c0 n0 (OuterBody t rest) → KindAt (OuterBody t rest)
  outer_kind t (Outer.Load w f) known = calm (λ g k. k)
  outer_kind t (Outer.Store w v rest) known = store w v (outer_rest known.0 (Outer.Store w v rest) known.1 known.2).0 (λ g k. k)
  outer_kind t (Outer.Enter u inner) known = calm (λ g k. k)
  outer_kind t (Outer.Shows o) known = commit (outer_changed c0 (just OfClass) known.0 c0 (Outer.Shows o) (mix c0 (just OfClass) n0) known.2)

  -- a step of a segment's body, by what it may store and what it has changed
  inner_kind : (within : Option ℕ) (u : SegId) (t : ℕ) (rest : Inner Outcome) → InnerWithin c0 (inner_hold within u) rest (mix c0 (inner_hold within u) n0) →
      Changed c0 (inner_hold within u) c0 (mix c0 (inner_hold within u) n0) → KindAt (InnerBody within u t rest)
  inner_kind within u t (Inner.Load w f) ok changed = calm (λ g k. k)
  inner_kind within u t (Inner.Store w v rest) ok changed = store w v ok.0 (λ g k. k)
  inner_kind within u t (Inner.Add w v f) ok changed =
      store w ((n0 w + v) % 2 ^ 64) (subst (λ y. may_store c0 (inner_hold within u) w ((y + v) % 2 ^ 64) ≡ true)
      (now_is (inner_hold within u) w (store_covers c0 (inner_hold within u) w ((mix c0 (inner_hold within u) n0 w + v) % 2 ^ 64) ok.0)) ok.0) (λ g k. k)
  inner_kind within u t (Inner.Shows o) ok changed = commit changed

  -- the guards of a turn that begins its body only grow
  third_grows : (within : Option ℕ) (u : SegId) (t : ℕ) (body : Inner Outcome) (b : Bool) (g : Guard) →
      writing (if b then going (InnerBody within u t body) else poll (InnerThird within u t body)).doing g ≡ false → writing (InnerThird within u t body) g ≡ false
  third_grows within u t body false g k = k
  third_grows None u t body true g k = refl
  third_grows (Some j) u t body true OfClass k = k
  third_grows (Some j) u t body true (OfSegment v) k = refl

  kind_known : (x : Doing Outcome) → DoingOk s d m before p0 x → KindAt x
  kind_known Fresh known = fresh_kind
  kind_known (LookSecond x g k body) known = calm (λ h e. refl)
  kind_known (LookBody x g k rest) known = look_kind x g k rest
  kind_known (OuterSecond body) known = calm (λ g k. refl)
  kind_known (OuterThird t body) known = calm (λ g k. refl)
  kind_known (OuterBody t rest) known = outer_kind t rest known
  kind_known (InnerSecond within u body) known = calm (λ g k. k)
  kind_known (InnerThird within u t body) known = calm (third_grows within u t body ((m d).words.finished (OfSegment u) == t))
  kind_known (InnerBody None u t rest) known =
      inner_kind None u t rest (inner_rest u known.0 rest known.1 known.2) (inner_changed c0 (just (OfSegment u)) known.0 c0 rest (mix c0 (just (OfSegment u)) n0) known.2)
  kind_known (InnerBody (Some k) u t rest) known =
      inner_kind (Some k) u t rest (nested_rest u known.0 rest known.1 known.2) (nested_changed c0 n0 u known.0 rest known.2)
  kind_known (Leaving t) known = calm (λ g k. refl)

  module _ (x : Doing Outcome) (is : IsChosen ((m d).vp p) i (at_doing x)) where
    pub known_of : DoingOk s d m before p0 x
    known_of = rw is.there at (inv.slots d p i)

    pub kind_of : KindAt x
    kind_of = kind_known x known_of

    pub small : p < 4
    small = by_order (cases_lt p 4)
      where
        none_some : (let a : Option Running = None in let b : Option Running = Some (at_doing x) in a ≡ b) → ⊥
        none_some e = cc

        by_order : (p < 4) ⊎ (4 ≤ p) → p < 4
        by_order (inl h) = h
        by_order (inr h) = absurd (none_some (sym (inv.four d p i h) ∙ is.there))

    ticket_ok : (g : Guard) → TicketOk ((m d).words.finished g) ((m d).words.tickets g) (stage g x)
    ticket_ok g = rw is.there at ((inv.turns d g).turns.slots p i)

    ok_at : (g : Guard) → After g (m d).words (op_at x) (stage g x) (stage g (new_at x))
    ok_at g = step_ok g s d n words_now (m d) refl p small n_small (inv.turns d g) i (at_doing x) is

    slots_of : (q j : ℕ) → SlotIs (at_slot (m d)) p i (step_at x).running q j (at_slot (part_at x) q j)
    slots_of = slots-after s (words_after (m d).words (op_at x)) (m d) p i (at_doing x) (step_at x) is.there (absorb_fits s d ((m d).vp p) p0 (answer_at x) x)

    -- a process that isn't inside a turn stays outside where no turn is started
    stays_out : (g : Guard) → inside (stage g x) ≡ false → (part_at x).words.started g ≡ (m d).words.started g → inside (stage g (new_at x)) ≡ false
    stays_out g h e = not-one (inside (stage g (new_at x))) (heft (stage g (new_at x))) refl (after_zero (ok_at g).c_step)
      where
        old_zero : heft (stage g x) ≡ 0
        old_zero = rw h refl

        held_in : (y : Stage) (c : ℕ) → Held y c → inside y ≡ true
        held_in (Rattle.turns.specs.Stage.Waits t) c k = refl
        held_in (Has t) c k = refl
        held_in Outside c k = absurd k
        held_in Rattle.turns.specs.Stage.Begun c k = absurd k

        after_zero : (((part_at x).words.finished g ≡ (m d).words.finished g) ⊎ (((part_at x).words.finished g ≡ (m d).words.finished g + 1) × Held (stage g x) ((m d).words.finished g))) → heft (stage g (new_at x)) ≡ 0
        after_zero (inl c) = omega (arith, (ok_at g).balance, old_zero, c, e)
        after_zero (inr c) = absurd (both_ways (inside (stage g x)) h (held_in (stage g x) ((m d).words.finished g) c.1))

    -- where no process was inside a turn and none starts one, none is
    no_turn_after : (g : Guard) → NoTurn g (m d) → (part_at x).words.started g ≡ (m d).words.started g → NoTurn g (part_at x)
    no_turn_after g none e q j = by_slot (at_slot (part_at x) q j) (slots_of q j)
      where
        by_slot : (o : Option Running) → SlotIs (at_slot (m d)) p i (step_at x).running q j o → NotInTurn g o
        by_slot _ (mine a b) = stays_out g (rw is.there at (none p i)) e
        by_slot _ (born e child) = refl
        by_slot _ (kept h) = none q j

    -- what is known of a look at a guard stays known
    look_kept : (y k : ℕ) (g : Guard) → k ≤ (m y).words.started g → k ≤ (parts_at x y).words.started g
    look_kept y k g h = elim (y == d) as (λ b. (y == d) ≡ b → k ≤ (if b then part_at x else m y).words.started g) [
      | true ↦ λ e. le_here (eqb-true y d e)
      | false ↦ λ e. h
    ] refl
      where
        le_here : y ≡ d → k ≤ (part_at x).words.started g
        le_here e = le_trans h (rw e (ok_at g).s_step)

    body_kept : (y k : ℕ) (g : Guard) (rest body : Loads Outcome) → k ≤ (m y).words.started g →
        ((m y).words.started g ≡ k → NoTurn g (m y) × LoadsPath (before y) (just g) body rest) →
        (parts_at x y).words.started g ≡ k → NoTurn g (parts_at x y) × LoadsPath (commit_at x y) (just g) body rest
    body_kept y k g rest body low known = elim (y == d) as
        (λ b. (y == d) ≡ b → (if b then part_at x else m y).words.started g ≡ k →
        NoTurn g (if b then part_at x else m y) × LoadsPath (if b then commit_by x n0 c0 else before y) (just g) body rest) [
          | true ↦ λ e. here (eqb-true y d e)
          | false ↦ λ e. known
        ] refl
      where
        here : y ≡ d → (part_at x).words.started g ≡ k → NoTurn g (part_at x) × LoadsPath (commit_by x n0 c0) (just g) body rest
        here e f =
            let low' : k ≤ (m d).words.started g = rw e at low in
            let known' : ((m d).words.started g ≡ k → NoTurn g (m d) × LoadsPath (before d) (just g) body rest) = rw e at known in
            let same : (m d).words.started g ≡ k = omega (arith, (ok_at g).s_step, low', f) in
            let was : NoTurn g (m d) × LoadsPath (before d) (just g) body rest = known' same in
            let out : writing x g ≡ false = writing_inside x g (rw is.there at (was.0 p i)) in (
              no_turn_after g was.0 (f ∙ sym same),
              loads_kept c0 n0 (writing x) (writing (new_at x)) (just g) (Rattle.effect_laws.proofs.Guards.apart_just (writing x) g out) body rest (commit_by x n0 c0) (n1 x) kind_of was.1,
            )

    -- another process of the class is in no turn of the guards of whose words this one may have changed some
    other_apart : (q j : ℕ) → (q ≡ p → j ≡ i → ⊥) → (z : Running) → at_slot (m d) q j ≡ Some z → Apart (writing x) (writing z.doing)
    other_apart q j differs z at g k = false_from_ne_true (writing z.doing g) (λ h. clash h)
      where
        clash : writing z.doing g ≡ true → ⊥
        clash h =
            let c : ℕ = (m d).words.finished g in
            let t : ℕ = (m d).words.tickets g in
            let a : SlotHeld g (at_slot (m d) p i) c = rw is.there (writing_held x g c t (ticket_ok g) k) in
            let ok : TicketOk c t (stage g z.doing) = rw at at ((inv.turns d g).turns.slots q j) in
            let b : SlotHeld g (at_slot (m d) q j) c = rw at (writing_held z.doing g c t ok h) in
            let e : (q ≡ p) × (j ≡ i) = (inv.turns d g).turns.distinct q j p i c b a in
            differs e.0 e.1

    -- what is known of a turn of another process of the class stays known
    turn_kept : (p1 : Process) (z : Doing Outcome) → Apart (writing x) (writing z) → TurnKnown s d p1 c0 n0 z → TurnKnown s d p1 (commit_by x n0 c0) (n1 x) z
    turn_kept p1 (OuterSecond body) apart known = known
    turn_kept p1 (OuterThird t body) apart known = known
    turn_kept p1 (OuterBody t rest) apart known =
        (known.0, known.1, outer_kept c0 n0 (writing x) (writing (new_at x)) (just OfClass) apart known.0 rest (commit_by x n0 c0) (n1 x) kind_of known.2)
    turn_kept p1 (InnerSecond None u body) apart known = known
    turn_kept p1 (InnerSecond (Some k) u inner) apart known =
        (known.0, known.1, outer_kept c0 n0 (writing x) (writing (new_at x)) (just OfClass) apart known.0 (Outer.Enter u inner) (commit_by x n0 c0) (n1 x) kind_of known.2)
    turn_kept p1 (InnerThird None u t body) apart known = known
    turn_kept p1 (InnerThird (Some k) u t inner) apart known =
        (known.0, known.1, outer_kept c0 n0 (writing x) (writing (new_at x)) (just OfClass) apart known.0 (Outer.Enter u inner) (commit_by x n0 c0) (n1 x) kind_of known.2)
    turn_kept p1 (InnerBody None u t rest) apart known =
        (known.0, known.1, inner_kept c0 n0 (writing x) (writing (new_at x)) (just (OfSegment u)) apart known.0 rest (commit_by x n0 c0) (n1 x) kind_of known.2)
    turn_kept p1 (InnerBody (Some k) u t rest) apart known =
        (known.0, known.1, nested_kept c0 n0 (writing x) (writing (new_at x)) u apart known.0 rest (commit_by x n0 c0) (n1 x) kind_of known.2)
    turn_kept p1 Fresh apart known = tt
    turn_kept p1 (LookSecond a b c e) apart known = tt
    turn_kept p1 (LookBody a b c e) apart known = tt
    turn_kept p1 (Leaving t) apart known = tt

    -- the turns of a class's processes, by whether it is this one
    turn_there : (y : ℕ) (p1 : Process) (z : Doing Outcome) → (y ≡ d → Apart (writing x) (writing z)) → TurnKnown s y p1 (before y) (m y).words.guarded z →
        TurnKnown s y p1 (commit_at x y) (parts_at x y).words.guarded z
    turn_there y p1 z apart known = elim (y == d) as
        (λ b. (y == d) ≡ b → TurnKnown s y p1 (if b then commit_by x n0 c0 else before y) (if b then part_at x else m y).words.guarded z) [
          | true ↦ λ e. here (eqb-true y d e)
          | false ↦ λ e. known
        ] refl
      where
        here : y ≡ d → TurnKnown s y p1 (commit_by x n0 c0) (n1 x) z
        here e = rw e (turn_kept p1 z (apart e) (rw e at known))

    kept_doing : (y : ℕ) (p1 : Process) (z : Doing Outcome) → (y ≡ d → Apart (writing x) (writing z)) → DoingOk s y m before p1 z →
        DoingOk s y (parts_at x) (commit_at x) p1 z
    kept_doing y p1 (LookSecond a g k body) apart known = (known.0, look_kept a k g known.1)
    kept_doing y p1 (LookBody a g k rest) apart known = (known.0, known.1, look_kept a k g known.2, body_kept a k g rest known.0 known.2 known.3)
    kept_doing y p1 Fresh apart known = tt
    kept_doing y p1 (OuterSecond body) apart known = known
    kept_doing y p1 (OuterThird t body) apart known = known
    kept_doing y p1 (OuterBody t rest) apart known = turn_there y p1 (OuterBody t rest) apart known
    kept_doing y p1 (InnerSecond within u body) apart known = turn_there y p1 (InnerSecond within u body) apart known
    kept_doing y p1 (InnerThird within u t body) apart known = turn_there y p1 (InnerThird within u t body) apart known
    kept_doing y p1 (InnerBody within u t rest) apart known = turn_there y p1 (InnerBody within u t rest) apart known
    kept_doing y p1 (Leaving t) apart known = tt

    kept_slot : (y q j : ℕ) → (y ≡ d → q ≡ p → j ≡ i → ⊥) → SlotDoing s y (parts_at x) (commit_at x) (at_slot (m y) q j)
    kept_slot y q j differs = by_slot (at_slot (m y) q j) refl (inv.slots y q j)
      where
        by_slot : (o : Option Running) → at_slot (m y) q j ≡ o → SlotDoing s y m before o → SlotDoing s y (parts_at x) (commit_at x) o
        by_slot None e known = tt
        by_slot (Some z) e known = kept_doing y z.process z.doing apart known
          where
            apart : y ≡ d → Apart (writing x) (writing z.doing)
            apart same = other_apart q j (differs same) z (rw same at e)

  -- what is known of the process itself after its step
  abbrev NewOk : Doing Outcome → Running → Type 0
  NewOk x new = SlotDoing s d (parts_at x) (commit_at x) (Some new)

  turn_new : (x : Doing Outcome) (p1 : Process) (z : Doing Outcome) → TurnKnown s d p1 (commit_by x n0 c0) (n1 x) z → TurnKnown s d p1 (commit_at x d) (parts_at x d).words.guarded z
  turn_new x p1 z h = rw (put-here m d (part_at x), put-here before d (commit_by x n0 c0)) h

  begin_ok : (child : Process) (o : Option ℕ) → NewOk Fresh (begin_in p0 child o).running
  begin_ok child None = tt
  begin_ok child (Some slot) = tt

  look_begins : (is : IsChosen ((m d).vp p) i (at_doing Fresh)) (q : Request) → plan s d p0 ≡ Ask q → (y : ℕ) (g : Guard) (body : Loads Outcome) → act s d p0.ring q ≡ Look y g body →
      NewOk Fresh (record { process = p0; doing = LookSecond y g ((m y).words.started g) body })
  look_begins is q e y g body f = (record { request = q; planned = e; done_so = f }, look_kept Fresh is y ((m y).words.started g) g (le_refl ((m y).words.started g)))

  act_ok : (is : IsChosen ((m d).vp p) i (at_doing Fresh)) (q : Request) → plan s d p0 ≡ Ask q →
      NewOk Fresh (after_told p0 (act_told (act s d p0.ring q) (answer_to words_now d (act_op (act s d p0.ring q))))).running
  act_ok is (Request.MakeKnown k e mode) h = look_begins is (Request.MakeKnown k e mode) h k.class OfClass _ refl
  act_ok is (Request.Fetch k offset count pad) h = look_begins is (Request.Fetch k offset count pad) h k.class (OfSegment k.seg) _ refl
  act_ok is (Request.Create k e class b size) h = record { request = Request.Create k e class b size; planned = h; done_so = refl }
  act_ok is (Request.Delete k e) h = record { request = Request.Delete k e; planned = h; done_so = refl }
  act_ok is (Request.SwapIn k) h = record { request = Request.SwapIn k; planned = h; done_so = refl }
  act_ok is (Request.SwapOut k) h = record { request = Request.SwapOut k; planned = h; done_so = refl }
  act_ok is (Request.Update k offset ws) h = record { request = Request.Update k offset ws; planned = h; done_so = refl }
  act_ok is (Request.Read k wanted t) h = tt
  act_ok is (Request.Advance k) h = tt
  act_ok is (Request.Ticket k) h = tt
  act_ok is (Request.Out value) h = tt

  plan_ok : (is : IsChosen ((m d).vp p) i (at_doing Fresh)) (y : Plan) → plan s d p0 ≡ y →
      NewOk Fresh (plan_absorbed s d p0 (free_slot ((m d).vp p)) (answer_to words_now d (plan_op s d p0.ring y)) y).running
  plan_ok is (Own after) e = tt
  plan_ok is (Begin child) e = begin_ok child (free_slot ((m d).vp p))
  plan_ok is (Ask q) e = act_ok is q e

  second_ok : (y k : ℕ) (g : Guard) (body : Loads Outcome) (is : IsChosen ((m d).vp p) i (at_doing (LookSecond y g k body))) (b : Bool) → ((m y).words.finished g == k) ≡ b →
      NewOk (LookSecond y g k body) (after_told p0 (if b then going (LookBody y g k body) else poll Fresh)).running
  second_ok y k g body is false e = tt
  second_ok y k g body is true e =
      let known : Asks s d p0 (Look y g body) × (k ≤ (m y).words.started g) = known_of (LookSecond y g k body) is in
      let same : (m y).words.finished g ≡ k = eqb-true ((m y).words.finished g) k e in (
        body,
        known.0,
        look_kept (LookSecond y g k body) is y k g known.1,
        body_kept (LookSecond y g k body) is y k g body body known.1
            (λ h. (no-turn g (m y) (inv.four y) (omega (arith, h, same, (inv.turns y g).turns.starts)), LoadsPath.start)),
      )

  look_ok : (y k : ℕ) (g : Guard) (rest : Loads Outcome) (is : IsChosen ((m d).vp p) i (at_doing (LookBody y g k rest))) →
      NewOk (LookBody y g k rest) (after_told p0 (look_told y g k rest (answer_to words_now d (look_op y g rest)))).running
  look_ok y k g (Loads.Load w f) is =
      let known : DoingOk s d m before p0 (LookBody y g k (Loads.Load w f)) = known_of (LookBody y g k (Loads.Load w f)) is in (
        known.0,
        known.1,
        look_kept (LookBody y g k (Loads.Load w f)) is y k g known.2,
        body_kept (LookBody y g k (Loads.Load w f)) is y k g (f ((m y).words.guarded w)) known.0 known.2 (λ h. next known (known.3 h)),
      )
    where
      next : (known : DoingOk s d m before p0 (LookBody y g k (Loads.Load w f))) → NoTurn g (m y) × LoadsPath (before y) (just g) known.0 (Loads.Load w f) →
          NoTurn g (m y) × LoadsPath (before y) (just g) known.0 (f ((m y).words.guarded w))
      next known here =
          let within : LoadsWithin (before y) (just g) (Loads.Load w f) = loads_along (before y) (just g) known.0 (Loads.Load w f) here.1 (fair.look known.1.request y g known.0 known.1.planned known.1.done_so) in
          let still : (m y).words.guarded w ≡ before y w = inv.idle y g (λ q j. free_outside g (at_slot (m y) q j) (here.0 q j)) w within.0 in
          (here.0, subst (λ v. LoadsPath (before y) (just g) known.0 (f v)) (sym still) (LoadsPath.loaded w f within.0 here.1))
  look_ok y k g (Loads.Shows o) is = by_test ((m y).words.started g == k)
    where
      by_test : (b : Bool) → NewOk (LookBody y g k (Loads.Shows o)) (after_told p0 (if b then done o else poll Fresh)).running
      by_test true = tt
      by_test false = tt

  -- while a process waits with the ticket that is next, no process has changed words of that guard
  free_here : (x : Doing Outcome) (is : IsChosen ((m d).vp p) i (at_doing x)) (g : Guard) → Held (stage g x) ((m d).words.finished g) → writing x g ≡ false →
      (q j : ℕ) → SlotFree g (at_slot (m d) q j)
  free_here x is g held out q j = by_slot (at_slot (m d) q j) refl
    where
      by_slot : (o : Option Running) → at_slot (m d) q j ≡ o → SlotFree g o
      by_slot None e = tt
      by_slot (Some z) e = false_from_ne_true (writing z.doing g) clash
        where
          c : ℕ
          c = (m d).words.finished g

          clash : writing z.doing g ≡ true → ⊥
          clash h =
              let a : SlotHeld g (at_slot (m d) p i) c = rw is.there held in
              let zok : TicketOk c ((m d).words.tickets g) (stage g z.doing) = rw e at ((inv.turns d g).turns.slots q j) in
              let b : SlotHeld g (at_slot (m d) q j) c = rw e (writing_held z.doing g c ((m d).words.tickets g) zok h) in
              let same : (p ≡ q) × (i ≡ j) = (inv.turns d g).turns.distinct p i q j c a b in
              let here : at_slot (m d) p i ≡ Some z = rw (same.0, same.1) e in
              let two : (let u : Option Running = Some (at_doing x) in let v : Option Running = Some z in u ≡ v) = sym is.there ∙ here in
              let one : at_doing x ≡ z = cc in
              both_ways (writing x g) out (ap (λ (r : Running). writing r.doing g) one ∙ h)

  -- where nothing of what the guards cover was changed, the mixed words are the committed ones
  mix_idle : (h : Hold) → ((w : GuardedWord) → covers c0 h w ≡ true → n0 w ≡ c0 w) → mix c0 h n0 ≡ c0
  mix_idle h still = ext _ _ each
    where
      each : (q : GuardedWord) → mix c0 h n0 q ≡ c0 q
      each q = elim (covers c0 h q) as (λ b. covers c0 h q ≡ b → (if b then n0 q else c0 q) ≡ c0 q) [ true ↦ λ e. still q e | false ↦ λ e. refl ] refl

  -- likewise of a segment, besides what its class covers
  mix_grows : (u : SegId) → ((w : GuardedWord) → covers c0 (just (OfSegment u)) w ≡ true → n0 w ≡ c0 w) → mix c0 (just OfClass) n0 ≡ mix c0 (both u) n0
  mix_grows u still = ext _ _ each
    where
      each : (q : GuardedWord) → mix c0 (just OfClass) n0 q ≡ mix c0 (both u) n0 q
      each q = elim (covers c0 (both u) q) as (λ b. covers c0 (both u) q ≡ b → mix c0 (just OfClass) n0 q ≡ (if b then n0 q else c0 q)) [
        | true ↦ λ e. (elim (covers c0 (just OfClass) q) as (λ b. covers c0 (just OfClass) q ≡ b → (if b then n0 q else c0 q) ≡ n0 q) [
          | true ↦ λ f. refl
          | false ↦ λ f. sym (still q (Rattle.effect_laws.proofs.Guards.both_split c0 u q e f))
        ] refl)
        | false ↦ λ e. rw (false_from_ne_true (covers c0 (just OfClass) q) (λ k. both_ways (covers c0 (both u) q) e (cover_more c0 (just OfClass) (both u) (class_in_both u) q k))) refl
      ] refl

  outer_third_ok : (t : ℕ) (body : Outer Outcome) (is : IsChosen ((m d).vp p) i (at_doing (OuterThird t body))) (b : Bool) → ((m d).words.finished OfClass == t) ≡ b →
      NewOk (OuterThird t body) (after_told p0 (if b then going (OuterBody t body) else poll (OuterThird t body))).running
  outer_third_ok t body is false e = known_of (OuterThird t body) is
  outer_third_ok t body is true e = turn_new (OuterThird t body) p0 (OuterBody t body)
      (body, known_of (OuterThird t body) is, subst (OuterPath c0 (just OfClass) body c0 body) (sym (mix_idle (just OfClass) still)) OuterPath.start)
    where
      still : (w : GuardedWord) → covers c0 (just OfClass) w ≡ true → n0 w ≡ c0 w
      still = inv.idle d OfClass (free_here (OuterThird t body) is OfClass (sym (eqb-true ((m d).words.finished OfClass) t e)) refl)

  outer_body_ok : (t : ℕ) (rest : Outer Outcome) (is : IsChosen ((m d).vp p) i (at_doing (OuterBody t rest))) →
      NewOk (OuterBody t rest) (after_told p0 (outer_told t rest (answer_to words_now d (outer_op d rest)))).running
  outer_body_ok t (Outer.Load w f) is = turn_new (OuterBody t (Outer.Load w f)) p0 (OuterBody t (f (n0 w))) (next (known_of (OuterBody t (Outer.Load w f)) is))
    where
      next : TurnKnown s d p0 c0 n0 (OuterBody t (Outer.Load w f)) → TurnKnown s d p0 c0 n0 (OuterBody t (f (n0 w)))
      next known = let within = outer_rest known.0 (Outer.Load w f) known.1 known.2 in (
        known.0,
        known.1,
        subst (λ v. OuterPath c0 (just OfClass) known.0 c0 (f v) (mix c0 (just OfClass) n0)) (now_is (just OfClass) w within.0)
            (OuterPath.loaded w f (mix c0 (just OfClass) n0) within.0 known.2),
      )
  outer_body_ok t (Outer.Store w v rest) is = turn_new (OuterBody t (Outer.Store w v rest)) p0 (OuterBody t rest) (next (known_of (OuterBody t (Outer.Store w v rest)) is))
    where
      next : TurnKnown s d p0 c0 n0 (OuterBody t (Outer.Store w v rest)) → TurnKnown s d p0 c0 (set_guarded n0 w v) (OuterBody t rest)
      next known = let within = outer_rest known.0 (Outer.Store w v rest) known.1 known.2 in (
        known.0,
        known.1,
        subst (OuterPath c0 (just OfClass) known.0 c0 rest) (set_over c0 (just OfClass) n0 c0 w v (store_covers c0 (just OfClass) w v within.0))
            (OuterPath.stored w v rest (mix c0 (just OfClass) n0) within.0 known.2),
      )
  outer_body_ok t (Outer.Enter u inner) is = turn_new (OuterBody t (Outer.Enter u inner)) p0 (InnerSecond (Some t) u inner) (known_of (OuterBody t (Outer.Enter u inner)) is)
  outer_body_ok t (Outer.Shows o) is = tt

  inner_second_ok : (within : Option ℕ) (u : SegId) (body : Inner Outcome) (is : IsChosen ((m d).vp p) i (at_doing (InnerSecond within u body))) →
      NewOk (InnerSecond within u body) (record { process = p0; doing = InnerThird within u ((m d).words.tickets (OfSegment u)) body })
  inner_second_ok None u body is = known_of (InnerSecond None u body) is
  inner_second_ok (Some k) u body is = turn_new (InnerSecond (Some k) u body) p0 (InnerThird (Some k) u ((m d).words.tickets (OfSegment u)) body) (known_of (InnerSecond (Some k) u body) is)

  outer_not_segment : (within : Option ℕ) (u : SegId) → Rattle.effect_laws.proofs.StepKinds.outer_hold within (OfSegment u) ≡ false
  outer_not_segment None u = refl
  outer_not_segment (Some k) u = refl

  inner_third_ok : (within : Option ℕ) (u : SegId) (t : ℕ) (body : Inner Outcome) (is : IsChosen ((m d).vp p) i (at_doing (InnerThird within u t body))) (b : Bool) →
      ((m d).words.finished (OfSegment u) == t) ≡ b →
      NewOk (InnerThird within u t body) (after_told p0 (if b then going (InnerBody within u t body) else poll (InnerThird within u t body))).running
  inner_third_ok None u t body is false e = known_of (InnerThird None u t body) is
  inner_third_ok (Some k) u t body is false e = turn_new (InnerThird (Some k) u t body) p0 (InnerThird (Some k) u t body) (known_of (InnerThird (Some k) u t body) is)
  inner_third_ok within u t body is true e = turn_new (InnerThird within u t body) p0 (InnerBody within u t body) (arrived within still (known_of (InnerThird within u t body) is))
    where
      held : Held (stage (OfSegment u) (InnerThird within u t body)) ((m d).words.finished (OfSegment u))
      held = rw (Rattle.words_layout.proofs.Names.same_seg-refl u) (sym (eqb-true ((m d).words.finished (OfSegment u)) t e))

      still : (w : GuardedWord) → covers c0 (just (OfSegment u)) w ≡ true → n0 w ≡ c0 w
      still = inv.idle d (OfSegment u) (free_here (InnerThird within u t body) is (OfSegment u) held (outer_not_segment within u))

      arrived : (within : Option ℕ) → ((w : GuardedWord) → covers c0 (just (OfSegment u)) w ≡ true → n0 w ≡ c0 w) →
          TurnKnown s d p0 c0 n0 (InnerThird within u t body) → TurnKnown s d p0 c0 n0 (InnerBody within u t body)
      arrived None still known = (body, known, subst (InnerPath c0 (just (OfSegment u)) body c0 body) (sym (mix_idle (just (OfSegment u)) still)) InnerPath.start)
      arrived (Some k) still known = (
        known.0,
        known.1,
        (
          body,
          mix c0 (just OfClass) n0,
          known.2,
          subst (InnerPath c0 (both u) body (mix c0 (just OfClass) n0) body) (mix_grows u still) InnerPath.start,
        ),
      )

  -- the body of a segment's turn goes on, whatever its guards
  module _ (h : Hold) (b : Inner Outcome) (g : GuardedWords) where
    load_next : (w : GuardedWord) (f : ℕ → Inner Outcome) → InnerWithin c0 h (Inner.Load w f) (mix c0 h n0) → InnerPath c0 h b g (Inner.Load w f) (mix c0 h n0) →
        InnerPath c0 h b g (f (n0 w)) (mix c0 h n0)
    load_next w f within path = subst (λ v. InnerPath c0 h b g (f v) (mix c0 h n0)) (now_is h w within.0) (InnerPath.loaded w f (mix c0 h n0) within.0 path)

    store_next : (w : GuardedWord) (v : ℕ) (rest : Inner Outcome) → InnerWithin c0 h (Inner.Store w v rest) (mix c0 h n0) → InnerPath c0 h b g (Inner.Store w v rest) (mix c0 h n0) →
        InnerPath c0 h b g rest (mix c0 h (set_guarded n0 w v))
    store_next w v rest within path = subst (InnerPath c0 h b g rest) (set_over c0 h n0 c0 w v (store_covers c0 h w v within.0)) (InnerPath.stored w v rest (mix c0 h n0) within.0 path)

    add_next : (w : GuardedWord) (v : ℕ) (f : ℕ → Inner Outcome) → InnerWithin c0 h (Inner.Add w v f) (mix c0 h n0) → InnerPath c0 h b g (Inner.Add w v f) (mix c0 h n0) →
        InnerPath c0 h b g (f (n0 w)) (mix c0 h (set_guarded n0 w ((n0 w + v) % 2 ^ 64)))
    add_next w v f within path =
        let now : mix c0 h n0 w ≡ n0 w = now_is h w (store_covers c0 h w ((mix c0 h n0 w + v) % 2 ^ 64) within.0) in
        subst (InnerPath c0 h b g (f (n0 w))) (set_over c0 h n0 c0 w ((n0 w + v) % 2 ^ 64) (store_covers c0 h w ((mix c0 h n0 w + v) % 2 ^ 64) within.0))
        (subst (λ y. InnerPath c0 h b g (f y) (set_guarded (mix c0 h n0) w ((y + v) % 2 ^ 64))) now (InnerPath.added w v f (mix c0 h n0) within.0 path))

  inner_body_ok : (within : Option ℕ) (u : SegId) (t : ℕ) (rest : Inner Outcome) (is : IsChosen ((m d).vp p) i (at_doing (InnerBody within u t rest))) →
      NewOk (InnerBody within u t rest) (after_told p0 (inner_told within u t rest (answer_to words_now d (inner_op d u rest)))).running
  inner_body_ok None u t (Inner.Load w f) is = turn_new (InnerBody None u t (Inner.Load w f)) p0 (InnerBody None u t (f (n0 w))) (next (known_of (InnerBody None u t (Inner.Load w f)) is))
    where
      next : TurnKnown s d p0 c0 n0 (InnerBody None u t (Inner.Load w f)) → TurnKnown s d p0 c0 n0 (InnerBody None u t (f (n0 w)))
      next k = (k.0, k.1, load_next (just (OfSegment u)) k.0 c0 w f (inner_rest u k.0 (Inner.Load w f) k.1 k.2) k.2)
  inner_body_ok None u t (Inner.Store w v rest) is = turn_new (InnerBody None u t (Inner.Store w v rest)) p0 (InnerBody None u t rest) (next (known_of (InnerBody None u t (Inner.Store w v rest)) is))
    where
      next : TurnKnown s d p0 c0 n0 (InnerBody None u t (Inner.Store w v rest)) → TurnKnown s d p0 c0 (set_guarded n0 w v) (InnerBody None u t rest)
      next k = (k.0, k.1, store_next (just (OfSegment u)) k.0 c0 w v rest (inner_rest u k.0 (Inner.Store w v rest) k.1 k.2) k.2)
  inner_body_ok None u t (Inner.Add w v f) is = turn_new (InnerBody None u t (Inner.Add w v f)) p0 (InnerBody None u t (f (n0 w))) (next (known_of (InnerBody None u t (Inner.Add w v f)) is))
    where
      next : TurnKnown s d p0 c0 n0 (InnerBody None u t (Inner.Add w v f)) → TurnKnown s d p0 c0 (set_guarded n0 w ((n0 w + v) % 2 ^ 64)) (InnerBody None u t (f (n0 w)))
      next k = (k.0, k.1, add_next (just (OfSegment u)) k.0 c0 w v f (inner_rest u k.0 (Inner.Add w v f) k.1 k.2) k.2)
  inner_body_ok None u t (Inner.Shows o) is = tt
  inner_body_ok (Some j) u t (Inner.Load w f) is = turn_new (InnerBody (Some j) u t (Inner.Load w f)) p0 (InnerBody (Some j) u t (f (n0 w))) (next (known_of (InnerBody (Some j) u t (Inner.Load w f)) is))
    where
      next : TurnKnown s d p0 c0 n0 (InnerBody (Some j) u t (Inner.Load w f)) → TurnKnown s d p0 c0 n0 (InnerBody (Some j) u t (f (n0 w)))
      next k = let nest : Nested c0 n0 u k.0 (Inner.Load w f) = k.2 in
          (k.0, k.1, (nest.0, nest.1, nest.2, load_next (both u) nest.0 nest.1 w f (nested_rest u k.0 (Inner.Load w f) k.1 nest) nest.3))
  inner_body_ok (Some j) u t (Inner.Store w v rest) is = turn_new (InnerBody (Some j) u t (Inner.Store w v rest)) p0 (InnerBody (Some j) u t rest) (next (known_of (InnerBody (Some j) u t (Inner.Store w v rest)) is))
    where
      next : TurnKnown s d p0 c0 n0 (InnerBody (Some j) u t (Inner.Store w v rest)) → TurnKnown s d p0 c0 (set_guarded n0 w v) (InnerBody (Some j) u t rest)
      next k = let nest : Nested c0 n0 u k.0 (Inner.Store w v rest) = k.2 in
          (k.0, k.1, (nest.0, nest.1, nest.2, store_next (both u) nest.0 nest.1 w v rest (nested_rest u k.0 (Inner.Store w v rest) k.1 nest) nest.3))
  inner_body_ok (Some j) u t (Inner.Add w v f) is = turn_new (InnerBody (Some j) u t (Inner.Add w v f)) p0 (InnerBody (Some j) u t (f (n0 w))) (next (known_of (InnerBody (Some j) u t (Inner.Add w v f)) is))
    where
      next : TurnKnown s d p0 c0 n0 (InnerBody (Some j) u t (Inner.Add w v f)) → TurnKnown s d p0 c0 (set_guarded n0 w ((n0 w + v) % 2 ^ 64)) (InnerBody (Some j) u t (f (n0 w)))
      next k = let nest : Nested c0 n0 u k.0 (Inner.Add w v f) = k.2 in
          (k.0, k.1, (nest.0, nest.1, nest.2, add_next (both u) nest.0 nest.1 w v f (nested_rest u k.0 (Inner.Add w v f) k.1 nest) nest.3))
  inner_body_ok (Some j) u t (Inner.Shows o) is = tt

  mine_ok : (x : Doing Outcome) (is : IsChosen ((m d).vp p) i (at_doing x)) → NewOk x (step_at x).running
  mine_ok Fresh is = plan_ok is (plan s d p0) refl
  mine_ok (LookSecond y g k body) is = second_ok y k g body is ((m y).words.finished g == k) refl
  mine_ok (LookBody y g k rest) is = look_ok y k g rest is
  mine_ok (OuterSecond body) is = known_of (OuterSecond body) is
  mine_ok (OuterThird t body) is = outer_third_ok t body is ((m d).words.finished OfClass == t) refl
  mine_ok (OuterBody t rest) is = outer_body_ok t rest is
  mine_ok (InnerSecond within u body) is = inner_second_ok within u body is
  mine_ok (InnerThird within u t body) is = inner_third_ok within u t body is ((m d).words.finished (OfSegment u) == t) refl
  mine_ok (InnerBody within u t rest) is = inner_body_ok within u t rest is
  mine_ok (Leaving t) is = tt

  -- where no process of the class has changed words of a guard, they are the committed ones
  idle_ok : (x : Doing Outcome) (is : IsChosen ((m d).vp p) i (at_doing x)) (g : Guard) → ((q j : ℕ) → SlotFree g (at_slot (part_at x) q j)) →
      (w : GuardedWord) → covers (commit_by x n0 c0) (just g) w ≡ true → n1 x w ≡ commit_by x n0 c0 w
  idle_ok x is g none = idle_kept c0 n0 (writing x) (writing (new_at x)) g (commit_by x n0 c0) (n1 x) (kind_of x is) mine_free
      (λ out. inv.idle d g (λ q j. was_free out q j (at_slot (part_at x) q j) (slots_of x is q j) (none q j)))
    where
      no_process : at_slot (m d) p i ≡ None → ⊥
      no_process e = clash (sym e ∙ is.there)
        where
          clash : (let a : Option Running = None in let b : Option Running = Some (at_doing x) in a ≡ b) → ⊥
          clash e = cc

      by_slot : (o : Option Running) → SlotIs (at_slot (m d)) p i (step_at x).running p i o → SlotFree g o → writing (new_at x) g ≡ false
      by_slot _ (mine a b) h = h
      by_slot _ (born e child) h = absurd (no_process e)
      by_slot _ (kept differs) h = absurd (differs refl refl)

      mine_free : writing (new_at x) g ≡ false
      mine_free = by_slot (at_slot (part_at x) p i) (slots_of x is p i) (none p i)

      was_free : writing x g ≡ false → (q j : ℕ) (o : Option Running) → SlotIs (at_slot (m d)) p i (step_at x).running q j o → SlotFree g o → SlotFree g (at_slot (m d) q j)
      was_free out q j _ (mine a b) h = rw (a, b, is.there) out
      was_free out q j _ (born e child) h = rw e tt
      was_free out q j _ (kept differs) h = h

  -- the step of the chosen process keeps all
  pub committed_after : (x : Doing Outcome) (is : IsChosen ((m d).vp p) i (at_doing x)) → Committed s (n + 1) (parts_at x) (commit_at x)
  committed_after x is = record {
    turns = λ y g. by_class_turns y g (y == d) refl;
    four = λ y q j big. by_class_four y q j big (y == d) refl;
    idle = λ y g. by_class_idle y g (y == d) refl;
    slots = λ y q j. by_class_slots y q j (y == d) refl;
  }
    where
      by_class_turns : (y : ℕ) (g : Guard) (b : Bool) → (y == d) ≡ b → TurnsUpTo (n + 1) g (if b then part_at x else m y)
      by_class_turns y g true e = chosen_keeps g s d n words_now (m d) refl p (small x is) n_small (inv.turns d g) i (at_doing x) is
      by_class_turns y g false e = record { turns = (inv.turns y g).turns; started = omega (arith, (inv.turns y g).started); tickets = omega (arith, (inv.turns y g).tickets) }

      by_class_four : (y q j : ℕ) → 4 ≤ q → (b : Bool) → (y == d) ≡ b → at_slot (if b then part_at x else m y) q j ≡ None
      by_class_four y q j big true e =
          let differs : q ≡ p → ⊥ = (λ f. absurd (omega (arith, f, big, small x is))) in
          ap (λ v. slot_at v j) (put-there (m d).vp p q (vp_absorbed s ((m d).vp p) i (step_at x)) differs) ∙ inv.four d q j big
      by_class_four y q j big false e = inv.four y q j big

      by_class_idle : (y : ℕ) (g : Guard) (b : Bool) → (y == d) ≡ b →
          ((q j : ℕ) → SlotFree g (at_slot (if b then part_at x else m y) q j)) →
          (w : GuardedWord) → covers (if b then commit_by x n0 c0 else before y) (just g) w ≡ true →
          (if b then part_at x else m y).words.guarded w ≡ (if b then commit_by x n0 c0 else before y) w
      by_class_idle y g true e none = idle_ok x is g none
      by_class_idle y g false e none = inv.idle y g none

      own_slots : (q j : ℕ) (o : Option Running) → SlotIs (at_slot (m d)) p i (step_at x).running q j o → SlotDoing s d (parts_at x) (commit_at x) o
      own_slots q j _ (mine a b) = mine_ok x is
      own_slots q j _ (born e child) = tt
      own_slots q j _ (kept differs) = kept_slot x is d q j (λ a. differs)

      by_class_slots : (y q j : ℕ) (b : Bool) → (y == d) ≡ b → SlotDoing s y (parts_at x) (commit_at x) (at_slot (if b then part_at x else m y) q j)
      by_class_slots y q j true e = rw (eqb-true y d e) (own_slots q j (at_slot (part_at x) q j) (slots_of x is q j))
      by_class_slots y q j false e = kept_slot x is y q j (λ a. absurd (eqb-false y d e a))

  -- At its effect a turn has come to what its body does at one go on the committed words: a turn of the class,
  pub outer_effect : (t : ℕ) (o : Outcome) (is : IsChosen ((m d).vp p) i (at_doing (OuterBody t (Outer.Shows o)))) →
      (body : Outer Outcome) × Asks s d p0 (ClassTurn body) × ((let ran : Ran Outcome = record { words = mix c0 (just OfClass) n0; shown = o } in ran) ≡ run_outer body c0)
  outer_effect t o is =
      let known : TurnKnown s d p0 c0 n0 (OuterBody t (Outer.Shows o)) = known_of (OuterBody t (Outer.Shows o)) is in
      (known.0, known.1, sym (outer_run c0 (just OfClass) known.0 c0 (Outer.Shows o) (mix c0 (just OfClass) n0) known.2))

  -- a turn of a segment alone,
  pub segment_effect : (u : SegId) (t : ℕ) (o : Outcome) (is : IsChosen ((m d).vp p) i (at_doing (InnerBody None u t (Inner.Shows o)))) →
      (body : Inner Outcome) × Asks s d p0 (SegmentTurn u body) × ((let ran : Ran Outcome = record { words = mix c0 (just (OfSegment u)) n0; shown = o } in ran) ≡ run_inner body c0)
  segment_effect u t o is =
      let known : TurnKnown s d p0 c0 n0 (InnerBody None u t (Inner.Shows o)) = known_of (InnerBody None u t (Inner.Shows o)) is in
      (known.0, known.1, sym (inner_run c0 (just (OfSegment u)) known.0 c0 (Inner.Shows o) (mix c0 (just (OfSegment u)) n0) known.2))

  -- and a turn of a segment within its class's
  pub nested_effect : (k : ℕ) (u : SegId) (t : ℕ) (o : Outcome) (is : IsChosen ((m d).vp p) i (at_doing (InnerBody (Some k) u t (Inner.Shows o)))) →
      (body : Outer Outcome) × Asks s d p0 (ClassTurn body) × ((let ran : Ran Outcome = record { words = mix c0 (both u) n0; shown = o } in ran) ≡ run_outer body c0)
  nested_effect k u t o is =
      let known : TurnKnown s d p0 c0 n0 (InnerBody (Some k) u t (Inner.Shows o)) = known_of (InnerBody (Some k) u t (Inner.Shows o)) is in
      let nest : Nested c0 n0 u known.0 (Inner.Shows o) = known.2 in
      (known.0, known.1, sym (outer_run c0 (just OfClass) known.0 c0 (Outer.Enter u nest.0) nest.1 nest.2 ∙ inner_run c0 (both u) nest.0 nest.1 (Inner.Shows o) (mix c0 (both u) n0) nest.3))

  -- an accepted look shows what its body shows at one go on the committed words of its class
  pub look_effect : (y k : ℕ) (g : Guard) (o : Outcome) (is : IsChosen ((m d).vp p) i (at_doing (LookBody y g k (Loads.Shows o)))) → (m y).words.started g ≡ k →
      (body : Loads Outcome) × Asks s d p0 (Look y g body) × (o ≡ run_loads body (before y))
  look_effect y k g o is accepted =
      let known : DoingOk s d m before p0 (LookBody y g k (Loads.Shows o)) = known_of (LookBody y g k (Loads.Shows o)) is in
      (known.0, known.1, sym (loads_run (before y) (just g) known.0 (Loads.Shows o) (known.3 accepted).1))
