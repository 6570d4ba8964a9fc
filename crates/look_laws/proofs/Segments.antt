-- The turns of a segment: a turn is open where a process is in one, and only the steps of such processes change its numbers.
use Rattle.std.proofs.Common.{ℕ, suc, ◌+◌, ◌-◌, ◌^◌, ◌<◌, ◌≢◌, Bool, true, false, ◌&&◌, List, [], ◌∷◌, ◌≡◌, refl, sym, ap, subst, ◌∙◌, Option, Some, None, arith, ◌⊎◌, inl, inr, length}
use Rattle.std.specs.Prelude.{◌==◌, if◌then◌else◌, slice_index_or}
use Rattle.std.specs.List.{sum_by}
use Rattle.std.proofs.lemmas.Bool.{eq-eqb, and_from, cases_eq, both_ways}
use Rattle.std.proofs.lemmas.List.Sums.{sum_by-cons}
use Rattle.words_layout.specs.Segments.{same_seg}
use Rattle.words_layout.specs.declared.segment.SegId.{SegId}
use Rattle.words_layout.specs.Words.{Guard, OfSegment}
use Rattle.words_layout.specs.declared.op.Event.{Event}
use Rattle.words_layout.proofs.Names.{same_seg-true, same_seg-refl}
use Rattle.policy.specs.Outcome.{Outcome}
use Rattle.turns.specs.Doing.{Doing, Fresh, LookSecond, LookBody, OuterSecond, OuterThird, OuterBody, InnerSecond, InnerThird, InnerBody, Leaving}
use Rattle.turns.specs.Stage.{Stage, Outside, Begun, Waits, Has, stage, inside}
use Rattle.class_model.specs.Process.{ProcName}
use Rattle.process.specs.Running.{Running, next_op}
use Rattle.machine.specs.Machine.{Machine, ClassPart, chosen, part_step, words_of, step}
use Rattle.machine.specs.Opening.{machine}
use Rattle.machine.specs.Stands.{NotInTurn}
use Rattle.effect_laws.proofs.Growing.{by_put}
use Rattle.effect_laws.specs.Turns.{Held}
use Rattle.effect_laws.proofs.Turns.{at_slot}
use Rattle.effect_laws.proofs.Slots.{IsChosen, chosen-is, part_taken, part_step-taken, heft, weight, count_inside}
use Rattle.effect_laws.proofs.TurnStep.{TurnsUpTo, After, step_ok}
use Rattle.effect_laws.proofs.Committed.{no-turn}
use Rattle.look_laws.specs.Laws.{TurnsAreOpen, SegmentsAlone}
use Rattle.look_laws.specs.Looks.{started_of, finished_of, TurnOpen, InTurn, turn_segment}
use Rattle.look_laws.specs.Moments.{running_at, is_slot, takes_step}
use Rattle.look_laws.proofs.Own.{after_event, event_slot}
use Rattle.look_laws.proofs.Quiet.{Counted, At, at_counted, held_in, below_four}

module _ (g : Guard) where
  some_slot : (slots : List (Option Running)) → (sum_by (weight g) slots ≡ 0 → ⊥) → (i : ℕ) × InTurn g (slice_index_or slots i None)
  some_slot [] h = absurd (h refl)
  some_slot (None ∷ xs) h =
      let e : sum_by (weight g) (None ∷ xs) ≡ weight g None + sum_by (weight g) xs = sum_by-cons (weight g) None xs in
      let rest : (i : ℕ) × InTurn g (slice_index_or xs i None) = some_slot xs (λ z. h (omega (arith, e, z))) in (suc rest.0, rest.1)
  some_slot (Some r ∷ xs) h = by_test (inside (stage g r.doing)) refl (some_slot xs)
    where
      e : sum_by (weight g) (Some r ∷ xs) ≡ heft (stage g r.doing) + sum_by (weight g) xs
      e = sum_by-cons (weight g) (Some r) xs

      by_test : (b : Bool) → inside (stage g r.doing) ≡ b → ((sum_by (weight g) xs ≡ 0 → ⊥) → (i : ℕ) × InTurn g (slice_index_or xs i None)) →
          (i : ℕ) × InTurn g (slice_index_or (Some r ∷ xs) i None)
      by_test true k rest = (0, k)
      by_test false k rest =
          let none : heft (stage g r.doing) ≡ 0 = rw k refl in
          let found : (i : ℕ) × InTurn g (slice_index_or xs i None) = rest (λ z. h (omega (arith, e, none, z))) in (suc found.0, found.1)

  some_process : (part : ClassPart) → (count_inside g part ≡ 0 → ⊥) → (p i : ℕ) × InTurn g (at_slot part p i)
  some_process part h = by_first (cases_eq (sum_by (weight g) (part.vp 0).slots) 0)
    where
      at : ℕ → ℕ
      at p = sum_by (weight g) (part.vp p).slots

      found : (p : ℕ) → (sum_by (weight g) (part.vp p).slots ≡ 0 → ⊥) → (p i : ℕ) × InTurn g (at_slot part p i)
      found p k = let s : (i : ℕ) × InTurn g (slice_index_or (part.vp p).slots i None) = some_slot (part.vp p).slots k in (p, s.0, s.1)

      by_third : (sum_by (weight g) (part.vp 0).slots ≡ 0) → (sum_by (weight g) (part.vp 1).slots ≡ 0) →
          (sum_by (weight g) (part.vp 2).slots ≡ 0) ⊎ ((sum_by (weight g) (part.vp 2).slots ≡ 0) → ⊥) → (p i : ℕ) × InTurn g (at_slot part p i)
      by_third a b (inr k) = found 2 k
      by_third a b (inl c) = found 3 (λ z. h (omega (arith, a, b, c, z)))

      by_second : (sum_by (weight g) (part.vp 0).slots ≡ 0) → (sum_by (weight g) (part.vp 1).slots ≡ 0) ⊎ ((sum_by (weight g) (part.vp 1).slots ≡ 0) → ⊥) → (p i : ℕ) × InTurn g (at_slot part p i)
      by_second a (inr k) = found 1 k
      by_second a (inl b) = by_third a b (cases_eq (sum_by (weight g) (part.vp 2).slots) 0)

      by_first : (sum_by (weight g) (part.vp 0).slots ≡ 0) ⊎ ((sum_by (weight g) (part.vp 0).slots ≡ 0) → ⊥) → (p i : ℕ) × InTurn g (at_slot part p i)
      by_first (inr k) = found 0 k
      by_first (inl a) = by_second a (cases_eq (sum_by (weight g) (part.vp 1).slots) 0)

-- inside a turn of a segment's guard is in a turn of the segment
module _ (u : SegId) where
  seen : (v : SegId) (x : Stage) (b : Bool) → same_seg u v ≡ b → inside (if b then x else Outside) ≡ true → (let a : Option SegId = Some v in a ≡ Some u)
  seen v x true e h = ap Some (sym (same_seg-true u v e))
  seen v x false e h = cc

  pub in_turn : (x : Doing Outcome) → inside (stage (OfSegment u) x) ≡ true → turn_segment x ≡ Some u
  in_turn (InnerSecond within v body) h = seen v Begun (same_seg u v) refl h
  in_turn (InnerThird within v t body) h = seen v (Waits t) (same_seg u v) refl h
  in_turn (InnerBody within v t rest) h = seen v (Has t) (same_seg u v) refl h
  in_turn Fresh h = cc
  in_turn (LookSecond a b c d) h = cc
  in_turn (LookBody a b c d) h = cc
  in_turn (OuterSecond a) h = cc
  in_turn (OuterThird a b) h = cc
  in_turn (OuterBody a b) h = cc
  in_turn (Leaving a) h = cc

  same_some : (v : SegId) → (let a : Option SegId = Some v in a ≡ Some u) → u ≡ v
  same_some v h = cc

  is_seen : (v : SegId) (x : Stage) → inside x ≡ true → (let a : Option SegId = Some v in a ≡ Some u) → inside (if same_seg u v then x else Outside) ≡ true
  is_seen v x k h = let e : same_seg u v ≡ true = subst (λ w. same_seg u w ≡ true) (same_some v h) (same_seg-refl u) in rw e k

  is_inside : (x : Doing Outcome) → turn_segment x ≡ Some u → inside (stage (OfSegment u) x) ≡ true
  is_inside (InnerSecond within v body) h = is_seen v Begun refl h
  is_inside (InnerThird within v t body) h = is_seen v (Waits t) refl h
  is_inside (InnerBody within v t rest) h = is_seen v (Has t) refl h
  is_inside Fresh h = cc
  is_inside (LookSecond a b c d) h = cc
  is_inside (LookBody a b c d) h = cc
  is_inside (OuterSecond a) h = cc
  is_inside (OuterThird a b) h = cc
  is_inside (OuterBody a b) h = cc
  is_inside (Leaving a) h = cc

pub segments_alone : SegmentsAlone
segments_alone u None = (λ h. h, λ h. h)
segments_alone u (Some r) = (in_turn u r.doing, is_inside u r.doing)

turn_is_inside : (g : Guard) (o : Option Running) → InTurn g o → NotInTurn g o → ⊥
turn_is_inside g None h k = h
turn_is_inside g (Some r) h k = both_ways (inside (stage g r.doing)) k h

one_is : (b : Bool) → ((let n : ℕ = if b then 1 else 0 in n ≡ 0) → ⊥) → b ≡ true
one_is true h = refl
one_is false h = absurd (h refl)

-- an event that changes the numbers of a guard's turns is a step of a process that is inside a turn of it, after the step or before
module _ (n : ℕ) (m : Machine) (e : Event) (n_small : n < 2 ^ 64 - 1) (counts : Counted n m) (g : Guard) where
  abbrev c : ℕ
  c = e.class

  abbrev here : ClassPart
  here = m.part c

  abbrev taken : Option (ℕ × Running) → ClassPart
  taken o = part_taken m.shared (words_of m) c here e.processor o

  abbrev Began : ℕ → Type 0
  Began d = (name : ProcName) × (name.class ≡ d) × (takes_step name m e ≡ true) × InTurn g (running_at (step m e) name)

  abbrev Ended : ℕ → Type 0
  Ended d = (name : ProcName) × (name.class ≡ d) × (takes_step name m e ≡ true) × InTurn g (running_at m name)

  module _ (x : ℕ × Running) (is_x : chosen (here.vp e.processor) ≡ Some x) where
    is : IsChosen (here.vp e.processor) x.0 x.1
    is = chosen-is (here.vp e.processor) x.0 x.1 is_x

    new : Running
    new = after_event m c e.processor x.1 true

    ok : After g here.words (next_op m.shared c x.1) (stage g x.1.doing) (stage g (after_event m c e.processor x.1 true).doing)
    ok = step_ok g m.shared c n (words_of m) here refl e.processor
        (below_four m.shared n (words_of m) c here refl e.processor n_small g (counts.turns c g) (counts.four c) x.0 x.1 is.there) n_small (counts.turns c g) x.0 x.1 is

    abbrev mover : ProcName
    mover = record { processor = e.processor; class = c; slot = x.0 }

    takes : takes_step mover m e ≡ true
    takes = and_from (c == c) (e.processor == e.processor && is_slot x.0 (chosen (here.vp e.processor))) (eq-eqb c c refl)
        (and_from (e.processor == e.processor) (is_slot x.0 (chosen (here.vp e.processor))) (eq-eqb e.processor e.processor refl)
        (ap (is_slot x.0) is_x ∙ eq-eqb x.0 x.0 refl))

    new_there : running_at (step m e) mover ≡ Some (after_event m c e.processor x.1 true)
    new_there = event_slot m e mover x.1 is.there ∙ ap (λ b. Some (after_event m c e.processor x.1 b)) takes

    abbrev old_heft : ℕ
    old_heft = heft (stage g x.1.doing)

    abbrev new_heft : ℕ
    new_heft = heft (stage g (after_event m c e.processor x.1 true).doing)

    abbrev f : ℕ
    f = here.words.finished g

    abbrev f' : ℕ
    f' = (taken (Some x)).words.finished g

    began : (taken (Some x)).words.started g ≢ here.words.started g → Began c
    began h = (mover, refl, takes, subst (InTurn g) (sym new_there) (one_is (inside (stage g (after_event m c e.processor x.1 true).doing)) (by_end ok.c_step)))
      where
        by_end : ((f' ≡ f) ⊎ ((f' ≡ f + 1) × Held (stage g x.1.doing) f)) → new_heft ≡ 0 → ⊥
        by_end (inl a) z = omega (arith, a, z, h, ok.balance, ok.s_step, ok.s_most)
        by_end (inr a) z =
            let one : old_heft ≡ 1 = rw (held_in (stage g x.1.doing) f a.1) refl in
            omega (arith, a.0, one, z, h, ok.balance, ok.s_step, ok.s_most)

    ended : f' ≢ f → Ended c
    ended h = (mover, refl, takes, subst (InTurn g) (sym is.there) (by_end ok.c_step))
      where
        by_end : ((f' ≡ f) ⊎ ((f' ≡ f + 1) × Held (stage g x.1.doing) f)) → inside (stage g x.1.doing) ≡ true
        by_end (inl a) = absurd (h a)
        by_end (inr a) = held_in (stage g x.1.doing) f a.1

  by_chosen : (o : Option (ℕ × Running)) → chosen (here.vp e.processor) ≡ o →
      ((taken o).words.started g ≢ here.words.started g → Began c) × ((taken o).words.finished g ≢ here.words.finished g → Ended c)
  by_chosen None k = (λ h. absurd (h refl), λ h. absurd (h refl))
  by_chosen (Some x) k = (began x k, ended x k)

  abbrev Moved : ℕ → ClassPart → Type 0
  Moved d z = (z.words.started g ≢ started_of d g m → Began d) × (z.words.finished g ≢ finished_of d g m → Ended d)

  pub moved_by : (d : ℕ) → Moved d ((step m e).part d)
  moved_by d = by_put Moved m.part c (part_step m.shared (words_of m) c here e.processor) d
      (subst (λ z. Moved c z) (sym (part_step-taken m.shared (words_of m) c here e.processor)) (by_chosen (chosen (here.vp e.processor)) refl))
      (λ h. (λ k. absurd (k refl), λ k. absurd (k refl)))

pub turns_are_open : TurnsAreOpen
turns_are_open k past e d g valid few = ((opens, is_open), moved.0, moved.1)
  where
    m : Machine
    m = machine k past

    at : At k 1 m
    at = record { past = past; is = refl; few = omega (arith, few) }

    counts : Counted (0 + length past) m
    counts = at_counted k valid 1 m at

    turns : TurnsUpTo (0 + length past) g (m.part d)
    turns = counts.turns d g

    opens : TurnOpen d g m → (name : ProcName) × (name.class ≡ d) × InTurn g (running_at m name)
    opens h =
        let found : (p i : ℕ) × InTurn g (at_slot (m.part d) p i) = some_process g (m.part d) (λ z. absurd (omega (arith, z, h, turns.turns.starts))) in
        (record { processor = found.0; class = d; slot = found.1 }, refl, found.2)

    is_open : (name : ProcName) × (name.class ≡ d) × InTurn g (running_at m name) → TurnOpen d g m
    is_open x = by_count (cases_eq (count_inside g (m.part d)) 0)
      where
        by_count : (count_inside g (m.part d) ≡ 0) ⊎ (count_inside g (m.part d) ≡ 0 → ⊥) → TurnOpen d g m
        by_count (inr h) = omega (arith, h, turns.turns.starts)
        by_count (inl h) = absurd (turn_is_inside g (at_slot (m.part d) x.0.processor x.0.slot)
            (subst (λ c. InTurn g (at_slot (m.part c) x.0.processor x.0.slot)) x.1 x.2)
            (no-turn g (m.part d) (counts.four d) h x.0.processor x.0.slot))

    moved : Moved (0 + length past) m e (omega (arith, few)) counts g d ((step m e).part d)
    moved = moved_by (0 + length past) m e (omega (arith, few)) counts g d
