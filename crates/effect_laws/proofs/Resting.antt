-- A process that isn't between two instructions is live.
use Rattle.std.proofs.Common.{ℕ, true, List, [], ◌∷◌, ◌≡◌, refl, sym, subst, ◌∙◌, Option, Some, None, ◌⊎◌, inl, inr}
use Rattle.std.specs.Prelude.{slice_index_or}
use Rattle.std.specs.Option.{option_map}
use Rattle.std.proofs.Math.ListN.{get_or-map}
use Rattle.words_layout.specs.Words.{Words, answer_to, words_after}
use Rattle.words_layout.specs.declared.op.Event.{Event}
use Rattle.policy.specs.Known.{Known}
use Rattle.policy.specs.Outcome.{Outcome, Refused, Value, Learns, Printed, Looked, Counted}
use Rattle.policy.specs.Outcome.{Words as WordsShown}
use Rattle.turns.specs.Doing.{Doing, Fresh, Told, doing_told, act_told}
use Rattle.class_model.specs.Config.{Config, Shared}
use Rattle.class_model.specs.Process.{Process, learned, settled, free_known}
use Rattle.class_model.specs.Plan.{Plan, Own, Begin, Ask, plan}
use Rattle.class_model.specs.Run.{opening_slots}
use Rattle.process.specs.Running.{Running, act, taken, after_told, begin_in, plan_absorbed, doing_absorbed, absorb, next_op, Absorbed}
use Rattle.machine.specs.Machine.{Machine, ClassPart, chosen, free_slot, part_step, words_of, step, run}
use Rattle.machine.specs.Opening.{opening, at_rest}
use Rattle.effect_laws.proofs.Growing.{by_put}
use Rattle.effect_laws.proofs.Turns.{at_slot, SlotIs, mine, born, kept}
use Rattle.effect_laws.proofs.Slots.{IsChosen, chosen-is, part_after, part_taken, part_step-taken, slots-after}
use Rattle.effect_laws.proofs.TurnStep.{absorb_fits}

-- between two instructions, or live
abbrev pub Rests : Running → Type 0
Rests r = (r.doing ≡ Fresh) ⊎ (r.process.live ≡ true)

abbrev pub SlotRests : Option Running → Type 0
SlotRests None = Unit {0}
SlotRests (Some r) = Rests r

learned_live : (p : Process) (k : Known) (o : Option ℕ) → (learned p k o).live ≡ p.live
learned_live p k None = refl
learned_live p k (Some place) = refl

settled_live : (p : Process) (o : Outcome) → (settled p o).live ≡ p.live
settled_live p (Learns k) = learned_live p k (free_known p)
settled_live p (Refused rule) = refl
settled_live p (Value v) = refl
settled_live p (WordsShown at ws) = refl
settled_live p (Printed place v) = refl
settled_live p (Looked t) = refl
settled_live p (Counted sum) = refl

taken_live : (p : Process) (o : Option Outcome) → (taken p o).live ≡ p.live
taken_live p None = refl
taken_live p (Some o) = settled_live p o

module _ (s : Shared) (d : ℕ) (p : Process) (live : p.live ≡ true) (free : Option ℕ) (answer : ℕ) where
  told_rests : (told : Told Outcome) → Rests (after_told p told).running
  told_rests told = inr (taken_live p told.takes ∙ live)

  begin_rests : (child : Process) (o : Option ℕ) → Rests (begin_in p child o).running
  begin_rests child None = inl refl
  begin_rests child (Some slot) = inl refl

  plan_rests : (y : Plan) → Rests (plan_absorbed s d p free answer y).running
  plan_rests (Own after) = inl refl
  plan_rests (Begin child) = begin_rests child free
  plan_rests (Ask q) = told_rests (act_told (act s d p.ring q) answer)

  absorbed_rests : (x : Doing Outcome) → Rests (doing_absorbed s d p free answer x).running
  absorbed_rests Fresh = plan_rests (plan s d p)
  absorbed_rests x = told_rests (doing_told x answer)

-- all processes of a class
abbrev pub PartRests : ClassPart → Type 0
PartRests part = (p i : ℕ) → SlotRests (at_slot part p i)

module _ (s : Shared) (words : ℕ → Words) (d : ℕ) (here : ClassPart) (p : ℕ) (rests : PartRests here) where
  module _ (x : ℕ × Running) (is : IsChosen (here.vp p) x.0 x.1) where
    abbrev after : Absorbed
    after = absorb s d x.1 (free_slot (here.vp p)) (answer_to words d (next_op s d x.1))

    by_slot : (q j : ℕ) (o : Option Running) → SlotIs (at_slot here) p x.0 after.running q j o → SlotRests o
    by_slot q j _ (mine a b) = absorbed_rests s d x.1.process is.live (free_slot (here.vp p)) (answer_to words d (next_op s d x.1)) x.1.doing
    by_slot q j _ (born e child) = inl refl
    by_slot q j _ (kept h) = rests q j

    chosen_rests : PartRests (part_after s (words_after here.words (next_op s d x.1)) here p x.0 after)
    chosen_rests q j = by_slot q j (at_slot (part_after s (words_after here.words (next_op s d x.1)) here p x.0 after) q j)
        (slots-after s (words_after here.words (next_op s d x.1)) here p x.0 x.1 after is.there (absorb_fits s d (here.vp p) x.1.process (answer_to words d (next_op s d x.1)) x.1.doing) q j)

  taken_rests : (o : Option (ℕ × Running)) → chosen (here.vp p) ≡ o → PartRests (part_taken s words d here p o)
  taken_rests None e = rests
  taken_rests (Some x) e = chosen_rests x (chosen-is (here.vp p) x.0 x.1 e)

  step_rests : PartRests (part_step s words d here p)
  step_rests = subst PartRests (sym (part_step-taken s words d here p)) (taken_rests (chosen (here.vp p)) refl)

pub run_rests : (events : List Event) (m : Machine) → ((d : ℕ) → PartRests (m.part d)) → (d : ℕ) → PartRests ((run m events).part d)
run_rests [] m rests = rests
run_rests (e ∷ events) m rests = run_rests events (step m e) (λ d. by_put (λ d (z : ClassPart). PartRests z) m.part e.class (part_step m.shared (words_of m) e.class (m.part e.class) e.processor) d
    (step_rests m.shared (words_of m) e.class (m.part e.class) e.processor (rests e.class)) (λ x. rests d))

pub opening_rests : (k : Config) (d : ℕ) → PartRests ((opening k).part d)
opening_rests k d p i = subst SlotRests (sym (get_or-map (option_map at_rest) (opening_slots k d p) i None)) (by_slot (slice_index_or (opening_slots k d p) i None))
  where
    by_slot : (o : Option Process) → SlotRests (option_map at_rest o)
    by_slot None = tt
    by_slot (Some q) = inl refl
