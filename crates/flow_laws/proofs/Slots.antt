-- What each process of a machine is goes on to be so, where a step of one keeps it and the process that it begins has it.
use Rattle.std.proofs.Common.{ℕ, zero, suc, Bool, true, false, List, [], ◌∷◌, ◌≡◌, refl, Option, Some, None, ◌⊎◌, inl, inr}
use Rattle.std.proofs.lemmas.Bool.{eqb-true}
use Rattle.std.specs.Prelude.{◌==◌, if◌then◌else◌, slice_index_or, slice_set}
use Rattle.words_layout.specs.Words.{Words, WordOp, answer_to}
use Rattle.words_layout.specs.declared.op.Event.{Event}
use Rattle.turns.specs.Doing.{Fresh}
use Rattle.class_model.specs.Config.{Shared}
use Rattle.class_model.specs.Process.{Process}
use Rattle.process.specs.Running.{Running, Made, Line, Child, Absorbed, absorb}
use Rattle.machine.specs.Machine.{Machine, ClassPart, VirtualProcessor, slot_at, chosen, free_slot, slots_after, vp_op, absorbed, vp_chosen, vp_after, words_of, part_done, part_step, step, run}
use Rattle.flow_laws.proofs.LowStep.{OfChosen, chosen_holds}

-- what stands in a slot after one was set was set, or stood there before
pub set_slot : (xs : List (Option Running)) (i : ℕ) (y : Option Running) (j : ℕ) (r : Running) → slice_index_or (slice_set xs i y) j None ≡ Some r →
    (y ≡ Some r) ⊎ (slice_index_or xs j None ≡ Some r)
set_slot [] i y j r h = inr h
set_slot (x ∷ xs) zero y zero r h = inl h
set_slot (x ∷ xs) zero y (suc j) r h = inr h
set_slot (x ∷ xs) (suc i) y zero r h = inr h
set_slot (x ∷ xs) (suc i) y (suc j) r h = set_slot xs i y j r h

-- what a step of a process of class d keeps, and what it gives a process that it begins
pub record Kept (s : Shared) (d : ℕ) (holds : Running → Type 0) : Type 0 where
  pub after : (r : Running) (free : Option ℕ) (answer : ℕ) → holds r → holds (absorb s d r free answer).running
  pub begun : (r : Running) (free : Option ℕ) (answer : ℕ) → holds r → (slot : ℕ) (child : Process) → (absorb s d r free answer).made ≡ Child slot child → holds (record { process = child; doing = Fresh })

-- each process of a virtual processor has it
abbrev pub EachOf : (Running → Type 0) → VirtualProcessor → Type 0
EachOf holds v = (i : ℕ) (r : Running) → slot_at v i ≡ Some r → holds r

module _ (s : Shared) (d : ℕ) (holds : Running → Type 0) (kept : Kept s d holds) where
  some_same : (a r : Running) → Some a ≡ Some r → holds a → holds r
  some_same a r e h = let same : a ≡ r = cc in rw (← same) h

  -- in each slot after a step
  slots_keep : (slots : List (Option Running)) (i : ℕ) (x : Absorbed) → ((j : ℕ) (r : Running) → slice_index_or slots j None ≡ Some r → holds r) → holds x.running →
      ((slot : ℕ) (child : Process) → x.made ≡ Child slot child → holds (record { process = child; doing = Fresh })) →
      (made : Made) → x.made ≡ made → (j : ℕ) (r : Running) → slice_index_or (slots_after (slice_set slots i (Some x.running)) made) j None ≡ Some r → holds r
  slots_keep slots i x each own born made e j r h = by_made made e h
    where
      own_or_old : (slice_index_or (slice_set slots i (Some x.running)) j None ≡ Some r) → holds r
      own_or_old g = elim (set_slot slots i (Some x.running) j r g) as (λ _. holds r) [ inl f ↦ some_same x.running r f own | inr f ↦ each j r f ]

      by_made : (made : Made) → x.made ≡ made → slice_index_or (slots_after (slice_set slots i (Some x.running)) made) j None ≡ Some r → holds r
      by_made Made.Nothing e g = own_or_old g
      by_made (Line place value) e g = own_or_old g
      by_made (Child slot child) e g =
          elim (set_slot (slice_set slots i (Some x.running)) slot (Some (record { process = child; doing = Fresh })) j r g) as (λ _. holds r) [
            | inl f ↦ some_same (record { process = child; doing = Fresh }) r f (born slot child e)
            | inr f ↦ own_or_old f
          ]

  chosen_keep : (v : VirtualProcessor) (answer : ℕ) (o : Option (ℕ × Running)) → EachOf holds v → OfChosen holds o → EachOf holds (vp_chosen s d v answer o)
  chosen_keep v answer None each h = each
  chosen_keep v answer (Some x) each h = λ j r g.
      slots_keep v.slots x.0 (absorbed s d v answer x) each (kept.after x.1 (free_slot v) answer h)
      (λ slot child e. kept.begun x.1 (free_slot v) answer h slot child e) (absorbed s d v answer x).made refl j r g

  -- after the step of a virtual processor
  pub vp_keep : (v : VirtualProcessor) (answer : ℕ) → EachOf holds v → EachOf holds (vp_after s d v answer)
  vp_keep v answer each = chosen_keep v answer (chosen v) each (chosen_holds holds v each)

  -- after the step of a class
  pub part_keep : (words : ℕ → Words) (here : ClassPart) (p : ℕ) → ((q : ℕ) → EachOf holds (here.vp q)) → (q : ℕ) → EachOf holds ((part_step s words d here p).vp q)
  part_keep words here p each q = by_op (vp_op s d (here.vp p))
    where
      by_place : (op : WordOp) (b : Bool) → EachOf holds (if b then vp_after s d (here.vp p) (answer_to words d op) else here.vp q)
      by_place op true = vp_keep (here.vp p) (answer_to words d op) (each p)
      by_place op false = each q

      by_op : (o : Option WordOp) → EachOf holds ((part_done s words d here p o).vp q)
      by_op None = each q
      by_op (Some op) = by_place op (q == p)

-- what each process of each class of a machine is
abbrev pub EachIn : (ℕ → Running → Type 0) → Machine → Type 0
EachIn holds m = (d p : ℕ) → EachOf (holds d) ((m.part d).vp p)

-- it is so after an event
pub step_keep : (holds : ℕ → Running → Type 0) (m : Machine) (e : Event) → ((d : ℕ) → Kept m.shared d (holds d)) → EachIn holds m → EachIn holds (step m e)
step_keep holds m e kept each d p = by_class (d == e.class) refl
  where
    by_class : (b : Bool) → (d == e.class) ≡ b → EachOf (holds d) ((if b then part_step m.shared (words_of m) e.class (m.part e.class) e.processor else m.part d).vp p)
    by_class true g = let same : d ≡ e.class = eqb-true d e.class g in
        rw same (part_keep m.shared e.class (holds e.class) (kept e.class) (words_of m) (m.part e.class) e.processor (each e.class) p)
    by_class false g = each d p

-- and after each list of events
pub run_keep : (holds : ℕ → Running → Type 0) (events : List Event) (m : Machine) → ((d : ℕ) → Kept m.shared d (holds d)) → EachIn holds m → EachIn holds (run m events)
run_keep holds [] m kept each = each
run_keep holds (e ∷ events) m kept each = run_keep holds events (step m e) kept (step_keep holds m e kept each)
