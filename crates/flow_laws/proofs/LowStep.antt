-- The step of a virtual processor of a class at or below c needs only the scripts and gates at or below c.
use Rattle.std.proofs.Common.{ℕ, true, ◌≡◌, refl, ap, ◌∙◌, Option, Some, None}
use Rattle.std.specs.Option.{option_map}
use Rattle.lists.specs.Lists.{put}
use Rattle.words_layout.specs.Words.{Words, WordOp, answer_to, words_after, word_at}
use Rattle.class_model.specs.Config.{Shared, flows, low_shared}
use Rattle.class_model.specs.Process.{Process}
use Rattle.class_model.specs.Shared.{UsesScript}
use Rattle.class_model.specs.Plan.{Plan, Own, Begin, Ask, Request, MakeKnown, Read, Out, plan}
use Rattle.policy.specs.Outcome.{Outcome}
use Rattle.turns.specs.Doing.{Doing, Fresh, act_op, act_told}
use Rattle.process.specs.Running.{act, Running, Absorbed, plan_op, running_op, next_op, plan_absorbed, doing_absorbed, after_told}
use Rattle.process.specs.Fits.{OpFits}
use Rattle.machine.specs.Machine.{ClassPart, VirtualProcessor, slot_at, live_slot, turn_of, chosen, vp_op, vp_chosen, vp_after, vp_absorbed, effect_chosen, effect_slot, vp_effect, part_done, part_step, part_ends, part_effect, free_slot}
use Rattle.flow_laws.proofs.LowPlan.{plan_low}

-- a process of class d: its script is at or below d
abbrev pub OnScript : Shared → ℕ → Running → Type 0
OnScript s d r = UsesScript s d r.process.script

-- and so is what it loads next
abbrev pub LooksDown : Shared → ℕ → Running → Type 0
LooksDown s d r = OpFits s d (next_op s d r)

-- the process that is chosen, if any, has a property
abbrev pub OfChosen : (Running → Type 0) → Option (ℕ × Running) → Type 0
OfChosen holds None = Unit {0}
OfChosen holds (Some x) = holds x.1

-- what each process of a virtual processor has the chosen one has
pub chosen_holds : (holds : Running → Type 0) (v : VirtualProcessor) → ((i : ℕ) (r : Running) → slot_at v i ≡ Some r → holds r) → OfChosen holds (chosen v)
chosen_holds holds v each = by_slot (live_slot v)
  where
    at_slot : (i : ℕ) (o : Option Running) → slot_at v i ≡ o → OfChosen holds (option_map (λ (r : Running). (i, r)) o)
    at_slot i None e = tt
    at_slot i (Some r) e = each i r e

    by_slot : (o : Option ℕ) → OfChosen holds (turn_of v o)
    by_slot None = tt
    by_slot (Some i) = at_slot i (slot_at v i) refl

module _ (s : Shared) (c d : ℕ) (d_c : flows s d c ≡ true) where
  pub act_low : (ring : ℕ) (q : Request) → act (low_shared c s) d ring q ≡ act s d ring q
  act_low ring (MakeKnown k e want) = refl
  act_low ring (Read k wanted t) = refl
  act_low ring (Out v) = refl
  act_low ring _ = refl

  pub plan_op_low : (ring : ℕ) (x : Plan) → plan_op (low_shared c s) d ring x ≡ plan_op s d ring x
  plan_op_low ring (Own after) = refl
  plan_op_low ring (Begin child) = refl
  plan_op_low ring (Ask q) = ap act_op (act_low ring q)

  pub running_op_low : (p : Process) (x : Doing Outcome) → UsesScript s d p.script → running_op (low_shared c s) d p x ≡ running_op s d p x
  running_op_low p Fresh h = ap (plan_op (low_shared c s) d p.ring) (plan_low s c d d_c p h) ∙ plan_op_low p.ring (plan s d p)
  running_op_low p _ h = refl

  pub plan_absorbed_low : (p : Process) (free : Option ℕ) (answer : ℕ) (x : Plan) → plan_absorbed (low_shared c s) d p free answer x ≡ plan_absorbed s d p free answer x
  plan_absorbed_low p free answer (Own after) = refl
  plan_absorbed_low p free answer (Begin child) = refl
  plan_absorbed_low p free answer (Ask q) = ap (λ x. after_told p (act_told x answer)) (act_low p.ring q)

  pub doing_absorbed_low : (p : Process) (free : Option ℕ) (answer : ℕ) (x : Doing Outcome) → UsesScript s d p.script →
      doing_absorbed (low_shared c s) d p free answer x ≡ doing_absorbed s d p free answer x
  doing_absorbed_low p free answer Fresh h =
      ap (plan_absorbed (low_shared c s) d p free answer) (plan_low s c d d_c p h) ∙ plan_absorbed_low p free answer (plan s d p)
  doing_absorbed_low p free answer _ h = refl

  pub op_low : (o : Option (ℕ × Running)) → OfChosen (OnScript s d) o →
      option_map (λ (x : ℕ × Running). next_op (low_shared c s) d x.1) o ≡ option_map (λ (x : ℕ × Running). next_op s d x.1) o
  op_low None h = refl
  op_low (Some x) h = ap Some (running_op_low x.1.process x.1.doing h)

  pub after_low : (v : VirtualProcessor) (answer : ℕ) (o : Option (ℕ × Running)) → OfChosen (OnScript s d) o →
      vp_chosen (low_shared c s) d v answer o ≡ vp_chosen s d v answer o
  after_low v answer None h = refl
  after_low v answer (Some x) h =
      ap (vp_absorbed s v x.0) (doing_absorbed_low x.1.process (free_slot v) answer x.1.doing h)

  pub effect_low : (v : VirtualProcessor) (answer : ℕ) (o : Option (ℕ × Running)) → OfChosen (OnScript s d) o →
      effect_chosen (low_shared c s) d v answer o ≡ effect_chosen s d v answer o
  effect_low v answer None h = refl
  effect_low v answer (Some x) h =
      ap (λ (y : Absorbed). effect_slot x.0 y.effect) (doing_absorbed_low x.1.process (free_slot v) answer x.1.doing h)

  module _ (words : ℕ → Words) (here : ClassPart) (p : ℕ) (on : OfChosen (OnScript s d) (chosen (here.vp p))) where
    vp_op_low : vp_op (low_shared c s) d (here.vp p) ≡ vp_op s d (here.vp p)
    vp_op_low = op_low (chosen (here.vp p)) on

    done_low : (o : Option WordOp) → part_done (low_shared c s) words d here p o ≡ part_done s words d here p o
    done_low None = refl
    done_low (Some op) = ap (λ (v : VirtualProcessor). record { words = words_after here.words op; vp = put here.vp p v })
        (after_low (here.vp p) (answer_to words d op) (chosen (here.vp p)) on)

    ends_low : (o : Option WordOp) → part_ends (low_shared c s) words d here p o ≡ part_ends s words d here p o
    ends_low None = refl
    ends_low (Some op) = effect_low (here.vp p) (answer_to words d op) (chosen (here.vp p)) on

    pub part_step_low : part_step (low_shared c s) words d here p ≡ part_step s words d here p
    part_step_low = ap (part_done (low_shared c s) words d here p) vp_op_low ∙ done_low (vp_op s d (here.vp p))

    pub part_effect_low : part_effect (low_shared c s) words d here p ≡ part_effect s words d here p
    part_effect_low = ap (part_ends (low_shared c s) words d here p) vp_op_low ∙ ends_low (vp_op s d (here.vp p))

-- what a step is given of the words: only those of classes at or below d matter
module _ (s : Shared) (d : ℕ) (words words' : ℕ → Words) (same : (x : ℕ) → flows s x d ≡ true → words x ≡ words' x) (own : words d ≡ words' d) where
  answer_same : (op : WordOp) → OpFits s d op → answer_to words d op ≡ answer_to words' d op
  answer_same WordOp.Nothing h = refl
  answer_same (WordOp.Load class w) h = ap (λ x. word_at x w) (same class h.1)
  answer_same (WordOp.Store w v) h = refl
  answer_same (WordOp.Add w v) h = ap (λ x. word_at x w) own

  abbrev OpFitsSome : Option WordOp → Type 0
  OpFitsSome None = Unit {0}
  OpFitsSome (Some op) = OpFits s d op

  module _ (here : ClassPart) (p : ℕ) (looks : OfChosen (LooksDown s d) (chosen (here.vp p))) where
    op_below : (o : Option (ℕ × Running)) → OfChosen (LooksDown s d) o → OpFitsSome (option_map (λ (x : ℕ × Running). next_op s d x.1) o)
    op_below None h = tt
    op_below (Some x) h = h

    done_words : (o : Option WordOp) → OpFitsSome o → part_done s words d here p o ≡ part_done s words' d here p o
    done_words None h = refl
    done_words (Some op) h = ap (λ (a : ℕ). part_with a) (answer_same op h)
      where
        part_with : ℕ → ClassPart
        part_with a = record { words = words_after here.words op; vp = put here.vp p (vp_after s d (here.vp p) a) }

    ends_words : (o : Option WordOp) → OpFitsSome o → part_ends s words d here p o ≡ part_ends s words' d here p o
    ends_words None h = refl
    ends_words (Some op) h = ap (vp_effect s d (here.vp p)) (answer_same op h)

    pub part_step_words : part_step s words d here p ≡ part_step s words' d here p
    part_step_words = done_words (vp_op s d (here.vp p)) (op_below (chosen (here.vp p)) looks)

    pub part_effect_words : part_effect s words d here p ≡ part_effect s words' d here p
    part_effect_words = ends_words (vp_op s d (here.vp p)) (op_below (chosen (here.vp p)) looks)
