-- What is counted off virtual processors in memory.
use Rattle.std.proofs.Common.{◌≡◌, ℕ, zero, suc, ◌≤◌, Bool, true, false, List, [], ◌∷◌, length, map, refl, sym, ap, ◌∙◌, arith, Option, Some, None}
use Rattle.std.proofs.lemmas.List.Concat.{length-flat_map}
use Rattle.std.specs.Prelude.{count_by, slice_index_or}
use Rattle.std.specs.List.{sum_by}
use Rattle.std.specs.Option.{option_map}
use Rattle.lists.specs.Lists.{below}
use Rattle.class_model.specs.Config.{Shared}
use Rattle.process.specs.Running.{Running}
use Rattle.process.specs.Standing.{Standing, running_of}
use Rattle.machine.specs.Banks.{vp_at, State, machine_of}
use Rattle.machine.specs.Processing.{Processing, vp_of}
use Rattle.machine.specs.Reading.{buffered, processes_of}
use Rattle.report.proofs.LinesByPlace.{vp_past}
use Rattle.summary.specs.Summary.{is_in_state, processes_in}
use Rattle.summary.proofs.Counts.{sum_rest, sum_same, count_same}

-- the process of a slot
slot_process : (s : Shared) (slots : List (Option Standing)) (i : ℕ) →
    slice_index_or (map (option_map (λ (r : Running). r.process)) (map (option_map (running_of s)) slots)) i None ≡ option_map (λ (v : Standing). v.process) (slice_index_or slots i None)
slot_process s [] i = refl
slot_process s (None ∷ slots) zero = refl
slot_process s (Some v ∷ slots) zero = refl
slot_process s (x ∷ slots) (suc i) = slot_process s slots i

module _ (m : State (List ℕ)) (c : ℕ) where
  abbrev pub lines_on : ℕ → ℕ
  lines_on p = length (vp_at m.banks p c).lines

  -- all lines are those of the processors that there are
  pub lines_all : (p lines : ℕ) → length m.banks ≤ 4 → p ≡ length m.banks → lines ≡ sum_by lines_on (below p) → lines ≡ length (buffered ((machine_of m).part c))
  lines_all p lines most end e =
      e ∙ sum_rest lines_on p 4 (omega arith) (λ q h. ap (λ (v : Processing). length v.lines) (vp_past m.banks q c (omega arith)))
      ∙ sym (length-flat_map (λ (q : ℕ). (vp_at m.banks q c).lines) (below 4))

  abbrev pub slots_on : Bool → ℕ → ℕ
  slots_on live p = count_by (λ i. is_in_state live (option_map (λ (v : Standing). v.process) (slice_index_or (vp_at m.banks p c).slots i None))) (below 4)

  no_slots : (live : Bool) (p : ℕ) → length m.banks ≤ p → slots_on live p ≡ 0
  no_slots live p h =
      ap (λ (w : Processing). count_by (λ i. is_in_state live (option_map (λ (v : Standing). v.process) (slice_index_or w.slots i None))) (below 4)) (vp_past m.banks p c h) ∙ empty live
    where
      empty : (live : Bool) → count_by (λ i. is_in_state live (option_map (λ (v : Standing). v.process) (slice_index_or (None ∷ None ∷ None ∷ None ∷ []) i None))) (below 4) ≡ 0
      empty true = refl
      empty false = refl

  slots_are : (live : Bool) (p : ℕ) → slots_on live p ≡ count_by (λ i. is_in_state live (slice_index_or (processes_of (vp_of m.shared (vp_at m.banks p c))) i None)) (below 4)
  slots_are live p = count_same
      (λ (i : ℕ). is_in_state live (option_map (λ (v : Standing). v.process) (slice_index_or (vp_at m.banks p c).slots i None)))
      (λ (i : ℕ). is_in_state live (slice_index_or (processes_of (vp_of m.shared (vp_at m.banks p c))) i None))
      (λ i. ap (is_in_state live) (sym (slot_process m.shared (vp_at m.banks p c).slots i))) (below 4)

  -- likewise all processes in a state
  pub slots_all : (live : Bool) (p count : ℕ) → length m.banks ≤ 4 → p ≡ length m.banks → count ≡ sum_by (slots_on live) (below p) → count ≡ processes_in live (λ p. processes_of (((machine_of m).part c).vp p))
  slots_all live p count most end e =
      e ∙ sum_rest (slots_on live) p 4 (omega arith) (λ q h. no_slots live q (omega arith))
      ∙ sum_same (slots_on live) (λ (q : ℕ). count_by (λ i. is_in_state live (slice_index_or (processes_of (vp_of m.shared (vp_at m.banks q c))) i None)) (below 4)) (slots_are live) (below 4)
