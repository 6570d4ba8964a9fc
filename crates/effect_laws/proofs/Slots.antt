-- What the step of a virtual processor does to the slots of its class.
use Rattle.std.proofs.Common.{ℕ, zero, suc, ◌+◌, ◌%◌, ◌<◌, ◌≢◌, true, false, List, [], ◌∷◌, ◌≡◌, refl, sym, ap, ◌∙◌, Option, Some, None, arith, ◌⊎◌, inl, inr, length, map}
use Rattle.std.specs.Prelude.{◌==◌, if◌then◌else◌, slice_index_or, slice_set, is_none}
use Rattle.std.specs.List.{sum_by}
use Rattle.std.specs.Option.{option_map}
use Rattle.std.proofs.lemmas.Bool.{eqb-true, eqb-false}
use Rattle.std.proofs.lemmas.List.{get_or-set_same, get_or-set_other}
use Rattle.std.proofs.lemmas.List.Sums.{sum_by-set}
use Rattle.std.proofs.lemmas.List.Quantifiers.{position-Some}
use Rattle.std.proofs.Math.ListN.{length-set}
use Rattle.lists.specs.Lists.{put, below}
use Rattle.words_layout.specs.Words.{Words, WordOp, words_after, answer_to}
use Rattle.class_model.specs.Config.{Shared}
use Rattle.words_layout.specs.Words.{Guard}
use Rattle.turns.specs.Doing.{Fresh}
use Rattle.turns.specs.Stage.{Stage, Outside, stage, inside}
use Rattle.process.specs.Running.{Running, Made, Line, Child, Absorbed, absorb, next_op}
use Rattle.machine.specs.Machine.{ClassPart, VirtualProcessor, slot_at, is_live, live_slot, turn_of, chosen, free_slot, slots_after, vp_absorbed, vp_chosen, part_step}
use Rattle.report_laws.proofs.Paged.{find_true}
use Rattle.effect_laws.specs.Turns.{over_slots, one_holding, stage_of}
use Rattle.effect_laws.proofs.Turns.{at_slot, SlotIs, mine, born, kept}

-- a slot with a process is one of the list
pub slot-below : (slots : List (Option Running)) (i : ℕ) (r : Running) → slice_index_or slots i None ≡ Some r → i < length slots
slot-below [] i r h = cc
slot-below (x ∷ xs) zero r h = omega arith
slot-below (x ∷ xs) (suc i) r h = let n : i < length xs = slot-below xs i r h in omega arith

-- the process that is chosen stands in its slot, and is live
pub record IsChosen (v : VirtualProcessor) (i : ℕ) (r : Running) : Type 0 where
  pub there : slot_at v i ≡ Some r
  pub live : r.process.live ≡ true

pub chosen-is : (v : VirtualProcessor) (i : ℕ) (r : Running) → chosen v ≡ Some (i, r) → IsChosen v i r
chosen-is v i r h = by_live (live_slot v) refl h
  where
    by_slot : (k : ℕ) (o : Option Running) → slot_at v k ≡ o → is_live o ≡ true → option_map {U = ℕ × Running} (λ (x : Running). (k, x)) o ≡ Some (i, r) → IsChosen v i r
    by_slot k None e l h = cc
    by_slot k (Some x) e l h =
        let pair : (let a : ℕ × Running = (k, x) in let b : ℕ × Running = (i, r) in a ≡ b) = cc in
        let k_i : k ≡ i = ap (λ (a : ℕ × Running). a.0) pair in
        let x_r : x ≡ r = ap (λ (a : ℕ × Running). a.1) pair in
        record { there = rw (← k_i, ← x_r) e; live = rw (← x_r) l }

    by_live : (o : Option ℕ) → live_slot v ≡ o → turn_of v o ≡ Some (i, r) → IsChosen v i r
    by_live None e h = cc
    by_live (Some k) e h = by_slot k (slot_at v k) refl (find_true (λ i. is_live (slot_at v i)) (map (λ j. (v.current + j) % 4) (below 4)) k e) h

-- a child is made only for the least slot that never held a process
abbrev pub FitsMade : VirtualProcessor → Made → Type 0
FitsMade v (Child slot child) = free_slot v ≡ Some slot
FitsMade v _ = Unit {0}

-- the class's part after the step: slot i of processor p holds the new state, a free one may hold a child
abbrev pub part_after : Shared → Words → ClassPart → ℕ → ℕ → Absorbed → ClassPart
part_after s words here p i x = record { words = words; vp = put here.vp p (vp_absorbed s (here.vp p) i x) }

module _ (s : Shared) (words : Words) (here : ClassPart) (p i : ℕ) (r : Running) (x : Absorbed)
    (was : slot_at (here.vp p) i ≡ Some r) (made : FitsMade (here.vp p) x.made) where
  set_is : (slots : List (Option Running)) (k : ℕ) (y : Option Running) (j : ℕ) → k < length slots →
      ((j ≡ k) × (slice_index_or (slice_set slots k y) j None ≡ y)) ⊎ ((j ≢ k) × (slice_index_or (slice_set slots k y) j None ≡ slice_index_or slots j None))
  set_is slots k y j h = elim (j == k) as (λ b. (j == k) ≡ b → ((j ≡ k) × (slice_index_or (slice_set slots k y) j None ≡ y)) ⊎ ((j ≢ k) × (slice_index_or (slice_set slots k y) j None ≡ slice_index_or slots j None))) [
    | true ↦ λ e. let same : j ≡ k = eqb-true j k e in inl (same, rw same (get_or-set_same slots k y None h))
    | false ↦ λ e. inr (eqb-false j k e, get_or-set_other slots k j y None (eqb-false j k e))
  ] refl

  in_list : i < length (here.vp p).slots
  in_list = slot-below (here.vp p).slots i r was

  none_is : (o : Option Running) → is_none o ≡ true → o ≡ None
  none_is None h = refl
  none_is (Some y) h = cc

  -- the slots of the processor itself
  own_slot : (j : ℕ) → SlotIs (at_slot here) p i x.running p j (slice_index_or (slots_after (slice_set (here.vp p).slots i (Some x.running)) x.made) j None)
  own_slot j = by_made x.made made
    where
      set_mine : SlotIs (at_slot here) p i x.running p j (slice_index_or (slice_set (here.vp p).slots i (Some x.running)) j None)
      set_mine = elim (set_is (here.vp p).slots i (Some x.running) j in_list) as (λ _. SlotIs (at_slot here) p i x.running p j (slice_index_or (slice_set (here.vp p).slots i (Some x.running)) j None)) [
        | inl a ↦ rw a.1 (mine refl a.0)
        | inr a ↦ rw a.1 (kept (λ e f. a.0 f))
      ]

      by_made : (y : Made) → FitsMade (here.vp p) y → SlotIs (at_slot here) p i x.running p j (slice_index_or (slots_after (slice_set (here.vp p).slots i (Some x.running)) y) j None)
      by_made Made.Nothing h = set_mine
      by_made (Line place value) h = set_mine
      by_made (Child k child) h =
          let free : (k < length (here.vp p).slots) × (is_none (slot_at (here.vp p) k) ≡ true) × ((m : ℕ) → m < k → is_none (slot_at (here.vp p) m) ≡ false) =
          position-Some (λ r. is_none r) (here.vp p).slots k None h in
          let inside : k < length (slice_set (here.vp p).slots i (Some x.running)) = rw length-set free.0 in
          elim (set_is (slice_set (here.vp p).slots i (Some x.running)) k (Some (record { process = child; doing = Fresh })) j inside) as
          (λ _. SlotIs (at_slot here) p i x.running p j (slice_index_or (slots_after (slice_set (here.vp p).slots i (Some x.running)) (Child k child)) j None)) [
            | inl a ↦ rw a.1 (born (rw a.0 (none_is (slot_at (here.vp p) k) free.1)) child)
            | inr a ↦ rw a.1 set_mine
          ]

  pub slots-after : (q j : ℕ) → SlotIs (at_slot here) p i x.running q j (at_slot (part_after s words here p i x) q j)
  slots-after q j = elim (q == p) as
      (λ b. (q == p) ≡ b → SlotIs (at_slot here) p i x.running q j (slot_at (if b then vp_absorbed s (here.vp p) i x else here.vp q) j)) [
        | true ↦ λ e. rw (eqb-true q p e) (own_slot j)
        | false ↦ λ e. kept (λ a b. eqb-false q p e a)
      ] refl

-- one for a process inside a turn
abbrev pub heft : Stage → ℕ
heft x = if inside x then 1 else 0

-- how many processes of a class are inside a turn of a guard, on its four processors
abbrev pub weight : Guard → Option Running → ℕ
weight g o = heft (stage_of g o)

abbrev pub count_inside : Guard → ClassPart → ℕ
count_inside g part = over_slots (weight g) part

-- likewise by any weight of a stage, where who is outside weighs nothing
module _ (f : Stage → ℕ) (outside : f Outside ≡ 0) (g : Guard) where
  abbrev weighs : Option Running → ℕ
  weighs o = f (stage_of g o)

  abbrev weight_of : VirtualProcessor → ℕ
  weight_of v = sum_by weighs v.slots

  -- a child is inside no turn, and neither is an empty slot
  weight-slots : (s : Shared) (v : VirtualProcessor) (i : ℕ) (r : Running) (x : Absorbed) → slot_at v i ≡ Some r → FitsMade v x.made →
      weight_of (vp_absorbed s v i x) + weighs (Some r) ≡ weight_of v + weighs (Some x.running)
  weight-slots s v i r x was made = by_made x.made made
    where
      mine_set : weight_of (record v { slots = slice_set v.slots i (Some x.running) }) + weighs (Some r) ≡ weight_of v + weighs (Some x.running)
      mine_set = ap (λ (o : Option Running). weight_of (record v { slots = slice_set v.slots i (Some x.running) }) + weighs o) (sym was)
          ∙ sum_by-set weighs v.slots i (Some x.running) None (slot-below v.slots i r was)

      by_made : (y : Made) → FitsMade v y →
          weight_of (record v { slots = slots_after (slice_set v.slots i (Some x.running)) y }) + weighs (Some r) ≡ weight_of v + weighs (Some x.running)
      by_made Made.Nothing h = mine_set
      by_made (Line place value) h = mine_set
      by_made (Child k child) h =
          let free : (k < length v.slots) × (is_none (slot_at v k) ≡ true) × ((m : ℕ) → m < k → is_none (slot_at v m) ≡ false) =
          position-Some (λ r. is_none r) v.slots k None h in
          let differs : k ≢ i = (λ e. none_some (slot_at v k) free.1 (rw e was)) in
          let still : slice_index_or (slice_set v.slots i (Some x.running)) k None ≡ slot_at v k = get_or-set_other v.slots i k (Some x.running) None differs in
          let zero_weight : weighs (slot_at v k) ≡ 0 = none_weight (slot_at v k) free.1 in
          let sum_child = sum_by-set weighs (slice_set v.slots i (Some x.running)) k (Some (record { process = child; doing = Fresh })) None (rw length-set free.0) in
          let sum_child' : sum_by weighs (slice_set (slice_set v.slots i (Some x.running)) k (Some (record { process = child; doing = Fresh }))) + 0 ≡ sum_by weighs (slice_set v.slots i (Some x.running)) + 0 =
          rw (still, zero_weight, outside) at sum_child in
          omega (arith, sum_child', mine_set)
        where
          none_some : (o : Option Running) → is_none o ≡ true → o ≡ Some r → ⊥
          none_some None a b = cc
          none_some (Some y) a b = cc

          none_weight : (o : Option Running) → is_none o ≡ true → weighs o ≡ 0
          none_weight None a = outside
          none_weight (Some y) a = cc

  pub weight-after : (s : Shared) (words : Words) (here : ClassPart) (p i : ℕ) (r : Running) (x : Absorbed) → p < 4 →
      slot_at (here.vp p) i ≡ Some r → FitsMade (here.vp p) x.made →
      over_slots weighs (part_after s words here p i x) + weighs (Some r) ≡ over_slots weighs here + weighs (Some x.running)
  weight-after s words here zero i r x small was made = let e = weight-slots s (here.vp 0) i r x was made in omega (arith, e)
  weight-after s words here (suc zero) i r x small was made = let e = weight-slots s (here.vp 1) i r x was made in omega (arith, e)
  weight-after s words here (suc (suc zero)) i r x small was made = let e = weight-slots s (here.vp 2) i r x was made in omega (arith, e)
  weight-after s words here (suc (suc (suc zero))) i r x small was made = let e = weight-slots s (here.vp 3) i r x was made in omega (arith, e)
  weight-after s words here (suc (suc (suc (suc k)))) i r x small was made = absurd (omega arith)

-- the step of a class's part, by the process that is chosen
abbrev pub part_taken : Shared → (ℕ → Words) → ℕ → ClassPart → ℕ → Option (ℕ × Running) → ClassPart
part_taken s words d here p None = here
part_taken s words d here p (Some x) =
    part_after s (words_after here.words (next_op s d x.1)) here p x.0 (absorb s d x.1 (free_slot (here.vp p)) (answer_to words d (next_op s d x.1)))

pub part_step-taken : (s : Shared) (words : ℕ → Words) (d : ℕ) (here : ClassPart) (p : ℕ) →
    part_step s words d here p ≡ part_taken s words d here p (chosen (here.vp p))
part_step-taken s words d here p = by_chosen (chosen (here.vp p))
  where
    done : Option (ℕ × Running) → Option WordOp → ClassPart
    done o None = here
    done o (Some op) = record { words = words_after here.words op; vp = put here.vp p (vp_chosen s d (here.vp p) (answer_to words d op) o) }

    by_chosen : (o : Option (ℕ × Running)) → done o (option_map (λ (x : ℕ × Running). next_op s d x.1) o) ≡ part_taken s words d here p o
    by_chosen None = refl
    by_chosen (Some x) = refl
