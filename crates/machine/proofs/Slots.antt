-- The slots in memory and those that they stand for: which process takes the next step, and which slot is free.
use Rattle.std.proofs.Common.{ℕ, zero, suc, ◌+◌, ◌%◌, ◌<◌, Bool, true, false, cond, List, [], ◌∷◌, map, length, ◌≡◌, refl, sym, ap, ◌∙◌, subst, Option, Some, None, arith}
use Rattle.std.specs.Prelude.{◌==◌, if◌then◌else◌, slice_index_or, slice_set, is_none}
use Rattle.std.specs.Option.{option_map}
use Rattle.std.proofs.lemmas.Bool.{and_parts, eq-eqb}
use Rattle.std.proofs.lemmas.List.Folds.{sum_by-zero}
use Rattle.std.specs.List.{list_all}
use Rattle.class_model.specs.Config.{Shared}
use Rattle.process.specs.Running.{Running, next_op}
use Rattle.process.specs.Standing.{Standing, running_of}
use Rattle.machine.specs.Machine.{slot_at, is_live, live_slot, turn_of, chosen, vp_op, free_slot}
use Rattle.machine.specs.Processing.{Processing, vp_of, holds_live, live_count, lives_in, first_live, is_free, free_in}
use Rattle.machine.specs.Steps.{IsChosen}

-- ---- a list of slots and what its processes stand for

mapped : {X Y : Type 0} (f : X → Y) (xs : List (Option X)) (i : ℕ) → slice_index_or (map (option_map f) xs) i None ≡ option_map f (slice_index_or xs i None)
mapped f [] i = refl
mapped f (x ∷ xs) zero = refl
mapped f (x ∷ xs) (suc i) = mapped f xs i

module _ (s : Shared) (v : Processing) where
  pub slot_is : (i : ℕ) → slot_at (vp_of s v) i ≡ option_map (running_of s) (slice_index_or v.slots i None)
  slot_is i = mapped (running_of s) v.slots i

  live_either : (o : Option Standing) → is_live (option_map (running_of s) o) ≡ holds_live o
  live_either None = refl
  live_either (Some p) = refl

  pub live_is : (i : ℕ) → is_live (slot_at (vp_of s v) i) ≡ lives_in v.slots i
  live_is i = ap is_live (slot_is i) ∙ live_either (slice_index_or v.slots i None)

  -- the first of four that pass
  first_of_four : (ℕ → Bool) → ℕ → ℕ → Option ℕ
  first_of_four test k c = if test k then Some k
      else if test ((c + 1) % 4) then Some ((c + 1) % 4)
      else if test ((c + 2) % 4) then Some ((c + 2) % 4)
      else if test ((c + 3) % 4) then Some ((c + 3) % 4)
      else None

  pub live_slot_is : v.current < 4 → live_slot (vp_of s v) ≡ first_live v.slots v.current
  unfolding first_of_four
  live_slot_is small =
      let here : (v.current + 0) % 4 ≡ v.current = omega arith in
      let test : (ℕ → Bool) = λ i. is_live (slot_at (vp_of s v) i) in
      let one : first_of_four test ((v.current + 0) % 4) v.current ≡ first_of_four test v.current v.current = ap (λ k. first_of_four test k v.current) here in
      let two : first_of_four test v.current v.current ≡ first_of_four (lives_in v.slots) v.current v.current = ap (λ (t : ℕ → Bool). first_of_four t v.current v.current) (λ j i. live_is i j) in
      one ∙ two

  -- ---- the process that takes the next step

  module _ (i : ℕ) (c : IsChosen v i) (p : Standing) (there : slice_index_or v.slots i None ≡ Some p) where
    pub chosen_is : chosen (vp_of s v) ≡ Some (i, running_of s p)
    chosen_is = rw (live_slot_is c.current, c.first, slot_is i, there) refl

    pub operation_is : (d : ℕ) → vp_op s d (vp_of s v) ≡ Some (next_op s d (running_of s p))
    operation_is d = ap (option_map (λ (x : ℕ × Running). next_op s d x.1)) chosen_is

  pub no_operation : (d : ℕ) → v.current < 4 → first_live v.slots v.current ≡ None → vp_op s d (vp_of s v) ≡ None
  no_operation d small h = ap (λ (o : Option ℕ). option_map (λ (x : ℕ × Running). next_op s d x.1) (turn_of (vp_of s v) o)) (live_slot_is small ∙ h)

-- ---- a slot that is chosen

-- slot i is one of the four and holds a live process
abbrev Lives : List (Option Standing) → ℕ → Type 0
Lives slots i = (i < 4) × (lives_in slots i ≡ true)

first_lives : (slots : List (Option Standing)) (c i : ℕ) → c < 4 → first_live slots c ≡ Some i → (i < 4) × (lives_in slots i ≡ true)
first_lives slots c i small h = at0 (lives_in slots c) refl h
  where
    found : (j : ℕ) → j < 4 → lives_in slots j ≡ true → Some j ≡ Some i → Lives slots i
    found j lt e h = let same : j ≡ i = cc in (subst (λ k. k < 4) same lt, subst (λ k. lives_in slots k ≡ true) same e)

    at3 : (b : Bool) → lives_in slots ((c + 3) % 4) ≡ b → (if b then Some ((c + 3) % 4) else None) ≡ Some i → Lives slots i
    at3 true e h = found ((c + 3) % 4) (omega arith) e h
    at3 false e h = absurd (cc)

    at2 : (b : Bool) → lives_in slots ((c + 2) % 4) ≡ b →
        (if b then Some ((c + 2) % 4) else if lives_in slots ((c + 3) % 4) then Some ((c + 3) % 4) else None) ≡ Some i → Lives slots i
    at2 true e h = found ((c + 2) % 4) (omega arith) e h
    at2 false e h = at3 (lives_in slots ((c + 3) % 4)) refl h

    at1 : (b : Bool) → lives_in slots ((c + 1) % 4) ≡ b →
        (if b then Some ((c + 1) % 4) else if lives_in slots ((c + 2) % 4) then Some ((c + 2) % 4) else if lives_in slots ((c + 3) % 4) then Some ((c + 3) % 4) else None) ≡ Some i → Lives slots i
    at1 true e h = found ((c + 1) % 4) (omega arith) e h
    at1 false e h = at2 (lives_in slots ((c + 2) % 4)) refl h

    at0 : (b : Bool) → lives_in slots c ≡ b →
        (if b then Some c else if lives_in slots ((c + 1) % 4) then Some ((c + 1) % 4) else if lives_in slots ((c + 2) % 4) then Some ((c + 2) % 4) else if lives_in slots ((c + 3) % 4) then Some ((c + 3) % 4) else None) ≡ Some i → (i < 4) × (lives_in slots i ≡ true)
    at0 true e h = found c small e h
    at0 false e h = at1 (lives_in slots ((c + 1) % 4)) refl h

pub is_chosen : (v : Processing) (i : ℕ) → v.current < 4 → first_live v.slots v.current ≡ Some i → IsChosen v i
is_chosen v i small h = let found = first_lives v.slots v.current i small h in record { first = h; current = small; within = found.0; live = found.1 }

-- where no process is live none is first
not_one : (b : Bool) → (cond b 1 0 == 0) ≡ true → b ≡ false
not_one true h = absurd (cc)
not_one false h = refl

all_rest : (slots : List (Option Standing)) (i : ℕ) → list_all (λ x. cond (holds_live x) 1 0 == 0) slots ≡ true → lives_in slots i ≡ false
all_rest [] i h = refl
all_rest (x ∷ xs) zero h = not_one (holds_live x) (and_parts _ _ h).0
all_rest (x ∷ xs) (suc i) h = all_rest xs i (and_parts (cond (holds_live x) 1 0 == 0) (list_all (λ x. cond (holds_live x) 1 0 == 0) xs) h).1

pub no_lives : (slots : List (Option Standing)) (i : ℕ) → live_count slots ≡ 0 → lives_in slots i ≡ false
no_lives slots i h = all_rest slots i (sym (sum_by-zero (λ x. cond (holds_live x) 1 0) slots) ∙ eq-eqb (live_count slots) 0 h)

pub none_first : (slots : List (Option Standing)) (c : ℕ) → live_count slots ≡ 0 → first_live slots c ≡ None
none_first slots c h = rw (no_lives slots c h, no_lives slots ((c + 1) % 4) h, no_lives slots ((c + 2) % 4) h, no_lives slots ((c + 3) % 4) h) refl

-- ---- the least free slot

free_of : (s : Shared) (slots : List (Option Standing)) → length slots ≡ 4 → Rattle.std.specs.List.position (λ r. is_none r) (map (option_map (running_of s)) slots) ≡ free_in slots
free_of s [] h = absurd (omega arith)
free_of s (a ∷ []) h = absurd (omega arith)
free_of s (a ∷ b ∷ []) h = absurd (omega arith)
free_of s (a ∷ b ∷ c ∷ []) h = absurd (omega arith)
free_of s (None ∷ b ∷ c ∷ d ∷ []) h = refl
free_of s (Some a ∷ None ∷ c ∷ d ∷ []) h = refl
free_of s (Some a ∷ Some b ∷ None ∷ d ∷ []) h = refl
free_of s (Some a ∷ Some b ∷ Some c ∷ None ∷ []) h = refl
free_of s (Some a ∷ Some b ∷ Some c ∷ Some d ∷ []) h = refl
free_of s (a ∷ b ∷ c ∷ d ∷ e ∷ rest) h = absurd (omega arith)

pub free_slot_is : (s : Shared) (v : Processing) → length v.slots ≡ 4 → free_slot (vp_of s v) ≡ free_in v.slots
free_slot_is s v h = free_of s v.slots h

-- slot i is one of the four and never held a process
abbrev Free : List (Option Standing) → ℕ → Type 0
Free slots i = (i < 4) × (slice_index_or slots i None ≡ None)

-- a slot that is the least free one is empty
pub free_there : (slots : List (Option Standing)) (i : ℕ) → free_in slots ≡ Some i → (i < 4) × (slice_index_or slots i None ≡ None)
free_there slots i h = at0 (slice_index_or slots 0 None) refl h
  where
    found : (j : ℕ) → j < 4 → slice_index_or slots j None ≡ None → Some j ≡ Some i → Free slots i
    found j lt e h = let same : j ≡ i = cc in (subst (λ k. k < 4) same lt, subst (λ k. slice_index_or slots k None ≡ None) same e)

    at3 : (o : Option Standing) → slice_index_or slots 3 None ≡ o → (if is_none o then Some 3 else None) ≡ Some i → Free slots i
    at3 None e h = found 3 (omega arith) e h
    at3 (Some p) e h = absurd (cc)

    at2 : (o : Option Standing) → slice_index_or slots 2 None ≡ o → (if is_none o then Some 2 else if is_free slots 3 then Some 3 else None) ≡ Some i → Free slots i
    at2 None e h = found 2 (omega arith) e h
    at2 (Some p) e h = at3 (slice_index_or slots 3 None) refl h

    at1 : (o : Option Standing) → slice_index_or slots 1 None ≡ o → (if is_none o then Some 1 else if is_free slots 2 then Some 2 else if is_free slots 3 then Some 3 else None) ≡ Some i → Free slots i
    at1 None e h = found 1 (omega arith) e h
    at1 (Some p) e h = at2 (slice_index_or slots 2 None) refl h

    at0 : (o : Option Standing) → slice_index_or slots 0 None ≡ o →
        (if is_none o then Some 0 else if is_free slots 1 then Some 1 else if is_free slots 2 then Some 2 else if is_free slots 3 then Some 3 else None) ≡ Some i → (i < 4) × (slice_index_or slots i None ≡ None)
    at0 None e h = found 0 (omega arith) e h
    at0 (Some p) e h = at1 (slice_index_or slots 1 None) refl h

-- a slot that holds a process isn't free, whatever process it holds
free_same : (slots : List (Option Standing)) (i : ℕ) (o : Option Standing) (p q : Standing) → slice_index_or slots i o ≡ Some p → (j : ℕ) → is_free (slice_set slots i (Some q)) j ≡ is_free slots j
free_same [] i o p q h j = refl
free_same (x ∷ xs) zero o p q h zero = sym (ap is_none h)
free_same (x ∷ xs) zero o p q h (suc j) = refl
free_same (x ∷ xs) (suc i) o p q h zero = refl
free_same (x ∷ xs) (suc i) o p q h (suc j) = free_same xs i o p q h j

abbrev least : Bool → Bool → Bool → Bool → Option ℕ
least a b c d = if a then Some 0 else if b then Some 1 else if c then Some 2 else if d then Some 3 else None

-- so a step of its process keeps the least free slot
pub free_kept : (slots : List (Option Standing)) (i : ℕ) (o : Option Standing) (p q : Standing) → slice_index_or slots i o ≡ Some p → free_in slots ≡ free_in (slice_set slots i (Some q))
free_kept slots i o p q h =
    let after : ℕ → Bool = is_free (slice_set slots i (Some q)) in
    let before : ℕ → Bool = is_free slots in
    let same = free_same slots i o p q h in
    sym (ap (λ (a : Bool). least a (after 1) (after 2) (after 3)) (same 0) ∙
    ap (λ (b : Bool). least (before 0) b (after 2) (after 3)) (same 1) ∙
    ap (λ (c : Bool). least (before 0) (before 1) c (after 3)) (same 2) ∙
    ap (λ (d : Bool). least (before 0) (before 1) (before 2) d) (same 3))
