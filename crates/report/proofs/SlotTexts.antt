-- The processes of a class, slot by slot, and whether one of them is live.
use Rattle.std.proofs.Common.{◌≡◌, ℕ, zero, suc, ◌+◌, ◌<◌, ◌≤◌, Bool, true, false, List, [], ◌∷◌, ◌++◌, length, map, refl, sym, ap, ◌∙◌, arith, inl, inr, ◌⊎◌, Option, Some, None}
use Rattle.std.proofs.lemmas.Bool.{cases_lt}
use Rattle.std.proofs.lemmas.List.Folds.{list_any-append}
use Rattle.std.specs.Prelude.{◌||◌, slice_index_or}
use Rattle.std.specs.List.{flat_map, filter_map, cons_option, enumerate_from, list_any}
use Rattle.std.specs.Option.{option_map}
use Rattle.lists.specs.Lists.{below}
use Rattle.class_model.specs.Config.{Shared, classes}
use Rattle.class_model.specs.Process.{Process}
use Rattle.class_model.specs.Report.{SeenProcess, process_text, some_live}
use Rattle.class_model.specs.Section.{seen_slots, seen_processes}
use Rattle.process.specs.Running.{Running}
use Rattle.process.specs.Standing.{Standing, running_of}
use Rattle.machine.specs.Processing.{Processing, vp_of, holds_live}
use Rattle.machine.specs.Banks.{vp_at, State}
use Rattle.machine.specs.Reading.{processes_of}
use Rattle.machine.specs.Steps.{IsMachine, HasEnded}
use Rattle.report.specs.Parts.{slot_text, slots_text, processes_text}
use Rattle.report.proofs.Numbers.{flat_flat, flat_same}
use Rattle.report.proofs.LinesByPlace.{vp_past}

-- each virtual processor has four slots, also one that there isn't
pub four_slots : (layout : ℕ) (banks : List (List Processing)) (s : Shared) (c : ℕ) → IsMachine layout banks s → c < classes s → (p : ℕ) → length (vp_at banks p c).slots ≡ 4
four_slots layout banks s c h k p = by_place (cases_lt p (length banks))
  where
    by_place : (p < length banks) ⊎ (length banks ≤ p) → length (vp_at banks p c).slots ≡ 4
    by_place (inl lt) = ((h.each p lt).fits c k).four
    by_place (inr past) = ap (λ (v : Processing). length v.slots) (vp_past banks p c past)

-- processors that there aren't have no processes
pub no_slots : (banks : List (List Processing)) (c p : ℕ) → length banks ≤ p → slots_text p (vp_at banks p c) ≡ []
no_slots banks c p h = ap (slots_text p) (vp_past banks p c h)

module _ (s : Shared) (processor : ℕ) where
  abbrev seen_in : ℕ → Option Standing → Option SeenProcess
  seen_in slot o = option_map (λ (p : Process). record { processor = processor; slot = slot; process = p }) (option_map (λ (r : Running). r.process) (option_map (running_of s) o))

  text_step : (slot : ℕ) (o : Option Standing) (rest : List SeenProcess) → flat_map process_text (cons_option (seen_in slot o) rest) ≡ slot_text processor slot o ++ flat_map process_text rest
  text_step slot None rest = refl
  text_step slot (Some p) rest = refl

  live_step : (slot : ℕ) (o : Option Standing) (rest : List SeenProcess) →
      list_any (λ (x : SeenProcess). x.process.live) (cons_option (seen_in slot o) rest) ≡ (holds_live o || list_any (λ (x : SeenProcess). x.process.live) rest)
  live_step slot None rest = refl
  live_step slot (Some p) rest = refl

  abbrev shown_from : ℕ → List (Option Standing) → List SeenProcess
  shown_from a slots =
      filter_map (λ (item : ℕ × Option Process). option_map (λ (p : Process). record { processor = processor; slot = item.0; process = p }) item.1)
      (enumerate_from a (map (option_map (λ (r : Running). r.process)) (map (option_map (running_of s)) slots)))

  lives_from : (a : ℕ) (slots : List (Option Standing)) → list_any (λ (x : SeenProcess). x.process.live) (shown_from a slots) ≡ list_any holds_live slots
  lives_from a [] = refl
  lives_from a (o ∷ os) = live_step a o (shown_from (a + 1) os) ∙ ap (λ (b : Bool). holds_live o || b) (lives_from (a + 1) os)

  four_texts : (slots : List (Option Standing)) → length slots ≡ 4 →
      flat_map process_text (shown_from 0 slots) ≡ flat_map (λ slot. slot_text processor slot (slice_index_or slots slot None)) (below 4)
  four_texts (a ∷ b ∷ c ∷ d ∷ []) h =
      text_step 0 a (shown_from 1 (b ∷ c ∷ d ∷ [])) ∙ ap (λ (t : List ℕ). slot_text processor 0 a ++ t)
      (text_step 1 b (shown_from 2 (c ∷ d ∷ [])) ∙ ap (λ (t : List ℕ). slot_text processor 1 b ++ t)
      (text_step 2 c (shown_from 3 (d ∷ [])) ∙ ap (λ (t : List ℕ). slot_text processor 2 c ++ t)
      (text_step 3 d [])))
  four_texts [] h = cc
  four_texts (a ∷ []) h = cc
  four_texts (a ∷ b ∷ []) h = cc
  four_texts (a ∷ b ∷ c ∷ []) h = cc
  four_texts (a ∷ b ∷ c ∷ d ∷ e ∷ rest) h = absurd (omega arith)

or_parts : (a b : Bool) → (a || b) ≡ false → (a ≡ false) × (b ≡ false)
or_parts true b e = cc
or_parts false b e = (refl, e)

any_flat : {X Y : Type 0} (test : Y → Bool) (f : X → List Y) (xs : List X) → list_any test (flat_map f xs) ≡ list_any (λ x. list_any test (f x)) xs
any_flat test f [] = refl
any_flat test f (x ∷ xs) = list_any-append test (f x) (flat_map f xs) ∙ ap (λ (b : Bool). list_any test (f x) || b) (any_flat test f xs)

any_same : {X : Type 0} (p q : X → Bool) → ((x : X) → p x ≡ q x) → (xs : List X) → list_any p xs ≡ list_any q xs
any_same p q same [] = refl
any_same p q same (x ∷ xs) = rw (same x, any_same p q same xs) refl

any_none : {X : Type 0} (p : X → Bool) → ((x : X) → p x ≡ false) → (xs : List X) → list_any p xs ≡ false
any_none p none [] = refl
any_none p none (x ∷ xs) = rw (none x) (any_none p none xs)

slots_false : (slots : List (Option Standing)) → ((i : ℕ) → holds_live (slice_index_or slots i None) ≡ false) → list_any holds_live slots ≡ false
slots_false [] h = refl
slots_false (x ∷ xs) h = rw (h 0) (slots_false xs (λ i. h (suc i)))

slot_false : (slots : List (Option Standing)) → list_any holds_live slots ≡ false → (i : ℕ) → holds_live (slice_index_or slots i None) ≡ false
slot_false [] h i = refl
slot_false (x ∷ xs) h zero = (or_parts (holds_live x) (list_any holds_live xs) h).0
slot_false (x ∷ xs) h (suc i) = slot_false xs (or_parts (holds_live x) (list_any holds_live xs) h).1 i

module _ (m : State (List ℕ)) (c : ℕ) where
  abbrev slots_seen : ℕ → List (Option Process)
  slots_seen p = processes_of (vp_of m.shared (vp_at m.banks p c))

  -- the texts of the slots are those of the processes that are seen
  pub processes_are : ((p : ℕ) → length (vp_at m.banks p c).slots ≡ 4) → processes_text m c ≡ flat_map process_text (seen_processes slots_seen)
  processes_are four =
      sym (flat_flat process_text (λ p. seen_slots p (slots_seen p)) (below 4)
      ∙ flat_same (λ p. flat_map process_text (seen_slots p (slots_seen p))) (λ p. slots_text p (vp_at m.banks p c)) (λ p. four_texts m.shared p (vp_at m.banks p c).slots (four p)) (below 4))

  abbrev lives : ℕ → Bool
  lives p = list_any holds_live (vp_at m.banks p c).slots

  live_is : some_live (seen_processes slots_seen) ≡ list_any lives (below 4)
  live_is =
      any_flat (λ (x : SeenProcess). x.process.live) (λ p. seen_slots p (slots_seen p)) (below 4)
      ∙ any_same (λ p. list_any (λ (x : SeenProcess). x.process.live) (seen_slots p (slots_seen p))) lives (λ p. lives_from m.shared p 0 (vp_at m.banks p c).slots) (below 4)

  -- none is live
  pub none_lives : HasEnded m c → some_live (seen_processes slots_seen) ≡ false
  none_lives h = live_is ∙ any_none lives (λ p. slots_false (vp_at m.banks p c).slots (h p)) (below 4)

  four_false : list_any lives (below 4) ≡ false → length m.banks ≤ 4 → (p : ℕ) → lives p ≡ false
  four_false h most zero = (or_parts (lives 0) (lives 1 || (lives 2 || (lives 3 || false))) h).0
  four_false h most (suc zero) = (or_parts (lives 1) (lives 2 || (lives 3 || false)) (or_parts (lives 0) (lives 1 || (lives 2 || (lives 3 || false))) h).1).0
  four_false h most (suc (suc zero)) =
      (or_parts (lives 2) (lives 3 || false) (or_parts (lives 1) (lives 2 || (lives 3 || false)) (or_parts (lives 0) (lives 1 || (lives 2 || (lives 3 || false))) h).1).1).0
  four_false h most (suc (suc (suc zero))) =
      (or_parts (lives 3) false (or_parts (lives 2) (lives 3 || false) (or_parts (lives 1) (lives 2 || (lives 3 || false)) (or_parts (lives 0) (lives 1 || (lives 2 || (lives 3 || false))) h).1).1).1).0
  four_false h most (suc (suc (suc (suc p)))) = ap (λ (v : Processing). list_any holds_live v.slots) (vp_past m.banks (suc (suc (suc (suc p)))) c (omega arith))

  -- some process is live
  pub some_lives : length m.banks ≤ 4 → (HasEnded m c → ⊥) → some_live (seen_processes slots_seen) ≡ true
  some_lives most not = by_test (list_any lives (below 4)) refl
    where
      by_test : (b : Bool) → list_any lives (below 4) ≡ b → some_live (seen_processes slots_seen) ≡ true
      by_test true e = live_is ∙ e
      by_test false e = absurd (not (λ p slot. slot_false (vp_at m.banks p c).slots (four_false e most p) slot))
