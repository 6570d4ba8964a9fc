-- Which processes a step leaves as they were.
use Rattle.std.proofs.Common.{ℕ, zero, suc, ◌+◌, ◌<◌, Bool, true, false, List, [], ◌∷◌, ◌++◌, ◌≡◌, refl, sym, ap, subst, ◌∙◌, Option, Some, None, ◌⊎◌, inl, inr, length, arith}
use Rattle.std.specs.Prelude.{◌==◌, if◌then◌else◌, nat_lt, is_none, slice_index_or, slice_set}
use Rattle.std.specs.List.{position}
use Rattle.std.proofs.lemmas.Bool.{eq-eqb, eqb-true, cases_eq}
use Rattle.std.proofs.lemmas.List.{get_or-set_same, get_or-set_other, length-set}
use Rattle.std.proofs.lemmas.List.Quantifiers.{position-Some}
use Rattle.lists.specs.Lists.{put}
use Rattle.words_layout.specs.declared.segment.SegId.{SegId}
use Rattle.words_layout.specs.declared.coding.Alias.{Alias}
use Rattle.policy.specs.Outcome.{Outcome}
use Rattle.policy.specs.declared.rule.Rule.{Rule}
use Rattle.policy.specs.declared.rule.Rule.TheVariants.{NoSlot}
use Rattle.class_model.specs.Process.{Process, ProcName, settled, refused, answered}
use Rattle.class_model.specs.Plan.{Plan, Own, Begin, Ask, Request, MakeKnown, Create, Delete, SwapIn, SwapOut, Fetch, Update, Read, Advance, Ticket, Out, plan}
use Rattle.class_model.specs.State.{State, Part, with_part, with_process, process_at, entry_at}
use Rattle.class_model.specs.Step.{Deed, Effect, chosen, effect, delete_effect, emptied, deleted, begun, deed_of, done}
use Rattle.mailbox_laws.proofs.Goes.{Goes}
use Rattle.mailbox_laws.proofs.Shows.{MayShow, effect_shows}

-- ---- a request changes no process

chosen_slots : (X : Part) (r : Option Rule) (e : Effect) → e.part.slots ≡ X.slots → (chosen X r e).part.slots ≡ X.slots
chosen_slots X None e h = h
chosen_slots X (Some rule) e h = refl

delete_slots : (d : ℕ) (X : Part) (u : SegId) (e : ℕ) (o : Option Alias) → (delete_effect d X u e o).part.slots ≡ X.slots
delete_slots d X u e None = refl
delete_slots d X u e (Some a) = chosen_slots X _ _ (by_class (a.class == d))
  where
    by_class : (b : Bool) → (emptied (if b then deleted X (Rattle.words_layout.specs.Segments.seg d a.serial) else X) u e).slots ≡ X.slots
    by_class true = refl
    by_class false = refl

out_slots : (X : Part) (value : ℕ) (b : Bool) → (let z : Effect = (if b then record { part = record X { lines = X.lines ++ value ∷ []; used = X.used + 1 }; outcome = Rattle.policy.specs.Outcome.Printed X.used value }
    else record { part = record X { used = X.used + 1 }; outcome = Rattle.policy.specs.Outcome.Refused Rattle.policy.specs.declared.rule.Rule.TheVariants.ConsoleFull }) in z.part.slots ≡ X.slots)
out_slots X value true = refl
out_slots X value false = refl

pub effect_slots : (a : State) (d ring : ℕ) (q : Request) → (effect a d ring q).part.slots ≡ (a.part d).slots
effect_slots a d ring (MakeKnown k e mode) = refl
effect_slots a d ring (Create k e class b size) = chosen_slots (a.part d) _ _ refl
effect_slots a d ring (Delete k e) = delete_slots d (a.part d) k.seg e (entry_at ((a.part d).cell k.seg) e)
effect_slots a d ring (SwapIn k) = chosen_slots (a.part d) _ _ refl
effect_slots a d ring (SwapOut k) = chosen_slots (a.part d) _ _ refl
effect_slots a d ring (Fetch k offset count pad) = chosen_slots (a.part d) _ _ refl
effect_slots a d ring (Update k offset words) = chosen_slots (a.part d) _ _ refl
effect_slots a d ring (Read k wanted t) = refl
effect_slots a d ring (Advance k) = refl
effect_slots a d ring (Ticket k) = refl
effect_slots a d ring (Out v) = out_slots (a.part d) v (nat_lt (a.part d).used a.shared.console)

-- ---- one slot is filled

some_inside : {X : Type 0} (xs : List (Option X)) (i : ℕ) (x : X) → slice_index_or xs i None ≡ Some x → i < length xs
some_inside [] i x h = absurd (cc)
some_inside (y ∷ ys) zero x h = omega arith
some_inside (y ∷ ys) (suc i) x h = let r = some_inside ys i x h in omega (arith, r)

-- the names are one, or the slots differ in processor, class or slot
same_or : (n m : ProcName) → (n ≡ m) ⊎ ((m.class == n.class) ≡ false) ⊎ ((m.class == n.class) ≡ true) × ((m.processor == n.processor) ≡ false) ⊎
    ((m.class == n.class) ≡ true) × ((m.processor == n.processor) ≡ true) × (m.slot ≡ n.slot → ⊥)
same_or n m = by_class (m.class == n.class) refl
  where
    name_is : m.class ≡ n.class → m.processor ≡ n.processor → m.slot ≡ n.slot → n ≡ m
    name_is e f g = sym (λ i. record { processor = f i; class = e i; slot = g i })

    by_slot : (m.class == n.class) ≡ true → (m.processor == n.processor) ≡ true → (m.slot ≡ n.slot) ⊎ (m.slot ≡ n.slot → ⊥) → (n ≡ m) ⊎ ((m.class == n.class) ≡ false) ⊎ ((m.class == n.class) ≡ true) × ((m.processor == n.processor) ≡ false) ⊎
        ((m.class == n.class) ≡ true) × ((m.processor == n.processor) ≡ true) × (m.slot ≡ n.slot → ⊥)
    by_slot e f (inl g) = inl (name_is (eqb-true m.class n.class e) (eqb-true m.processor n.processor f) g)
    by_slot e f (inr g) = inr (inr (inr (e, f, g)))

    by_processor : (m.class == n.class) ≡ true → (b : Bool) → (m.processor == n.processor) ≡ b → (n ≡ m) ⊎ ((m.class == n.class) ≡ false) ⊎ ((m.class == n.class) ≡ true) × ((m.processor == n.processor) ≡ false) ⊎
        ((m.class == n.class) ≡ true) × ((m.processor == n.processor) ≡ true) × (m.slot ≡ n.slot → ⊥)
    by_processor e true f = by_slot e f (cases_eq m.slot n.slot)
    by_processor e false f = inr (inr (inl (e, f)))

    by_class : (b : Bool) → (m.class == n.class) ≡ b → (n ≡ m) ⊎ ((m.class == n.class) ≡ false) ⊎ ((m.class == n.class) ≡ true) × ((m.processor == n.processor) ≡ false) ⊎
        ((m.class == n.class) ≡ true) × ((m.processor == n.processor) ≡ true) × (m.slot ≡ n.slot → ⊥)
    by_class true e = by_processor e (m.processor == n.processor) refl
    by_class false e = inr (inl e)

-- what is in a slot after one of the part Y was filled
module _ (a : State) (n : ProcName) (q : Process) (Y X : Part) (slots : X.slots ≡ put Y.slots n.processor (slice_set (Y.slots n.processor) n.slot (Some q))) where
  -- what is found in the part of a class, where that of class n is z
  abbrev at : (m : ProcName) → Part → Bool → Option Process
  at m z b = slice_index_or ((if b then z else a.part m.class).slots m.processor) m.slot None

  abbrev within : (m : ProcName) → Bool → Option Process
  within m b = slice_index_or (if b then slice_set (Y.slots n.processor) n.slot (Some q) else Y.slots m.processor) m.slot None

  filled : (m : ProcName) → (n ≡ m) ⊎ (process_at (with_part a n.class X) m ≡ process_at (with_part a n.class Y) m)
  filled m = elim (same_or n m) [
    | inl same ↦ inl same
    | inr rest ↦ inr (by_rest rest)
  ]
    where
      by_rest : ((m.class == n.class) ≡ false) ⊎ ((m.class == n.class) ≡ true) × ((m.processor == n.processor) ≡ false) ⊎ ((m.class == n.class) ≡ true) × ((m.processor == n.processor) ≡ true) × (m.slot ≡ n.slot → ⊥) →
          process_at (with_part a n.class X) m ≡ process_at (with_part a n.class Y) m
      by_rest (inl e) = ap (at m X) e ∙ sym (ap (at m Y) e)
      by_rest (inr (inl e)) = ap (at m X) e.0 ∙ ap (λ (f : ℕ → List (Option Process)). slice_index_or (f m.processor) m.slot None) slots ∙ ap (within m) e.1 ∙ sym (ap (at m Y) e.0)
      by_rest (inr (inr e)) = ap (at m X) e.0 ∙ ap (λ (f : ℕ → List (Option Process)). slice_index_or (f m.processor) m.slot None) slots ∙ ap (within m) e.1
          ∙ get_or-set_other (Y.slots n.processor) n.slot m.slot (Some q) None e.2 ∙ ap (λ c. slice_index_or (Y.slots c) m.slot None) (sym (eqb-true m.processor n.processor e.1)) ∙ sym (ap (at m Y) e.0)

  filled_own : n.slot < length (Y.slots n.processor) → process_at (with_part a n.class X) n ≡ Some q
  filled_own inside = ap (at n X) (eq-eqb n.class n.class refl) ∙ ap (λ (f : ℕ → List (Option Process)). slice_index_or (f n.processor) n.slot None) slots
      ∙ ap (within n) (eq-eqb n.processor n.processor refl) ∙ get_or-set_same (Y.slots n.processor) n.slot (Some q) None inside

  slots_length : (i : ℕ) → length (X.slots i) ≡ length (Y.slots i)
  slots_length i = ap (λ (f : ℕ → List (Option Process)). length (f i)) slots ∙ by_processor (i == n.processor) refl
    where
      by_processor : (b : Bool) → (i == n.processor) ≡ b → length (if b then slice_set (Y.slots n.processor) n.slot (Some q) else Y.slots i) ≡ length (Y.slots i)
      by_processor true e = length-set (Y.slots n.processor) n.slot (Some q) ∙ ap (λ j. length (Y.slots j)) (sym (eqb-true i n.processor e))
      by_processor false e = refl

-- with its own part a state is as it was
unchanged : (a : State) (d : ℕ) (m : ProcName) → process_at (with_part a d (a.part d)) m ≡ process_at a m
unchanged a d m = by_class (m.class == d) refl
  where
    by_class : (b : Bool) → (m.class == d) ≡ b → slice_index_or ((if b then a.part d else a.part m.class).slots m.processor) m.slot None ≡ process_at a m
    by_class true e = ap (λ c. slice_index_or ((a.part c).slots m.processor) m.slot None) (sym (eqb-true m.class d e))
    by_class false e = refl

part_length : (a : State) (d : ℕ) (X : Part) → ((i : ℕ) → length (X.slots i) ≡ length ((a.part d).slots i)) → (c i : ℕ) → length (((with_part a d X).part c).slots i) ≡ length ((a.part c).slots i)
part_length a d X same c i = by_class (c == d) refl
  where
    by_class : (b : Bool) → (c == d) ≡ b → length ((if b then X else a.part c).slots i) ≡ length ((a.part c).slots i)
    by_class true e = same i ∙ ap (λ j. length ((a.part j).slots i)) (sym (eqb-true c d e))
    by_class false e = refl

none_is : {X : Type 0} (o : Option X) → is_none o ≡ true → o ≡ None
none_is None h = refl
none_is (Some x) h = absurd (cc)

-- ---- what a step did

-- by its plan: on the process alone; by a request and what it was shown; or a process was begun
pub data Did (a : State) (n : ProcName) (p q : Process) (asked : Option (Request × Outcome)) : Type 0 where
  alone : plan a.shared n.class p ≡ Own q → None ≡ asked → Did a n p q asked
  asks : (r : Request) (o : Outcome) → plan a.shared n.class p ≡ Ask r → MayShow a.shared.table n.class p.ring r o → settled p o ≡ q → Some (r, o) ≡ asked → Did a n p q asked
  begins : (child : Process) → plan a.shared n.class p ≡ Begin child → None ≡ asked → Did a n p q asked

-- so what goes for the plan goes for the process after it
pub did_goes : (a : State) (n : ProcName) (p q : Process) (asked : Option (Request × Outcome)) (G : Process → Option (Request × Outcome) → Type 0) → Did a n p q asked →
    Goes a.shared n.class p G (plan a.shared n.class p) → G q asked
did_goes a n p q asked G (alone is none) g = subst (G q) none (subst (Goes a.shared n.class p G) is g)
did_goes a n p q asked G (asks r o is may same was) g = subst (G q) was (subst (λ z. G z (Some (r, o))) same (subst (Goes a.shared n.class p G) is g o may))
did_goes a n p q asked G (begins child is none) g = absurd (subst (Goes a.shared n.class p G) is g)

-- What a step of a process does to all processes: its own is q, each other one is as it was, or was none.
pub record Changes (a : State) (n : ProcName) (p : Process) (x : Deed) : Type 0 where
  pub after : Process
  pub own : process_at (done a n.class (Some x)) n ≡ Some after
  pub did : Did a n p after x.asked
  pub others : (m : ProcName) → (n ≡ m) ⊎ (process_at (done a n.class (Some x)) m ≡ process_at a m) ⊎ (process_at a m ≡ None) × (m.slot < length ((a.part m.class).slots m.processor))
  pub lengths : (c i : ℕ) → length (((done a n.class (Some x)).part c).slots i) ≡ length ((a.part c).slots i)

module _ (a : State) (n : ProcName) (p : Process) (there : process_at a n ≡ Some p) where
  inside : n.slot < length ((a.part n.class).slots n.processor)
  inside = some_inside ((a.part n.class).slots n.processor) n.slot p there

  one_changes : (q : Process) (x : Deed) → x.part.slots ≡ put ((a.part n.class).slots) n.processor (slice_set ((a.part n.class).slots n.processor) n.slot (Some q)) → Did a n p q x.asked → Changes a n p x
  one_changes q x slots did = record {
    after = q;
    own = filled_own a n q (a.part n.class) x.part slots inside;
    did = did;
    others = λ m. elim (filled a n q (a.part n.class) x.part slots m) [
      | inl same ↦ inl same
      | inr as_it_was ↦ inr (inl (as_it_was ∙ unchanged a n.class m))
    ];
    lengths = λ c i. part_length a n.class x.part (slots_length a n q (a.part n.class) x.part slots) c i;
  }

  -- a process is begun in a slot that was empty
  two_changes : (child : Process) → plan a.shared n.class p ≡ Begin child → (o : Option ℕ) → position (λ q. is_none q) ((a.part n.class).slots n.processor) ≡ o → Changes a n p (record { part = begun (a.part n.class) n p child o; asked = None })
  two_changes child is None e = one_changes (refused p NoSlot) (record { part = begun (a.part n.class) n p child None; asked = None }) refl (begins child is refl)
  two_changes child is (Some slot) e = record {
    after = answered p slot;
    own = by_own (filled a name child Y X refl n);
    did = begins child is refl;
    others = λ m. by_other m (filled a name child Y X refl m) (filled a n (answered p slot) (a.part n.class) Y refl m);
    lengths = λ c i. part_length a n.class X (λ i. slots_length a name child Y X refl i ∙ slots_length a n (answered p slot) (a.part n.class) Y refl i) c i;
  }
    where
      Y : Part
      Y = with_process (a.part n.class) n.processor n.slot (answered p slot)

      name : ProcName
      name = record { processor = n.processor; class = n.class; slot = slot }

      X : Part
      X = with_process Y n.processor slot child

      found : (slot < length ((a.part n.class).slots n.processor)) × (is_none (process_at a name) ≡ true)
      found = let f = position-Some (λ (q : Option Process). is_none q) ((a.part n.class).slots n.processor) slot None e in (f.0, f.1)

      by_own : (name ≡ n) ⊎ (process_at (with_part a n.class X) n ≡ process_at (with_part a n.class Y) n) → process_at (with_part a n.class X) n ≡ Some (answered p slot)
      by_own (inl same) = let none : process_at a n ≡ None = none_is (process_at a n) (subst (λ m. is_none (process_at a m) ≡ true) same found.1) in absurd (cc)
      by_own (inr same) = same ∙ filled_own a n (answered p slot) (a.part n.class) Y refl inside

      by_other : (m : ProcName) → (name ≡ m) ⊎ (process_at (with_part a n.class X) m ≡ process_at (with_part a n.class Y) m) → (n ≡ m) ⊎ (process_at (with_part a n.class Y) m ≡ process_at (with_part a n.class (a.part n.class)) m) →
          (n ≡ m) ⊎ (process_at (with_part a n.class X) m ≡ process_at a m) ⊎ (process_at a m ≡ None) × (m.slot < length ((a.part m.class).slots m.processor))
      by_other m (inl same) second = inr (inr (subst (λ (m : ProcName). (process_at a m ≡ None) × (m.slot < length ((a.part m.class).slots m.processor))) same (none_is (process_at a name) found.1, found.0)))
      by_other m (inr first) (inl same) = inl same
      by_other m (inr first) (inr second) = inr (inl (first ∙ second ∙ unchanged a n.class m))

pub changes : (a : State) (n : ProcName) (p : Process) → process_at a n ≡ Some p → Changes a n p (deed_of a n p (plan a.shared n.class p))
changes a n p there = by_plan (plan a.shared n.class p) refl
  where
    by_plan : (y : Plan) → plan a.shared n.class p ≡ y → Changes a n p (deed_of a n p y)
    by_plan (Own after) e = one_changes a n p there after (deed_of a n p (Own after)) refl (alone e refl)
    by_plan (Begin child) e = two_changes a n p there child e (position (λ q. is_none q) ((a.part n.class).slots n.processor)) refl
    by_plan (Ask r) e = let z = effect a n.class p.ring r in one_changes a n p there (settled p z.outcome) (deed_of a n p (Ask r))
        (ap (λ (f : ℕ → List (Option Process)). put f n.processor (slice_set (f n.processor) n.slot (Some (settled p z.outcome)))) (effect_slots a n.class p.ring r))
        (asks r z.outcome e (effect_shows a n.class p.ring r) refl refl)
