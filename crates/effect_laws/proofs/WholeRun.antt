-- After every list of events the machine of words stands for what the other machine is after its order of effect.
use Rattle.std.proofs.Common.{Bool, ℕ, ◌+◌, ◌-◌, ◌^◌, ◌<◌, true, false, List, [], ◌∷◌, ◌++◌, ◌≡◌, refl, sym, subst, Option, Some, None, arith, map, length}
use Rattle.std.specs.Prelude.{◌==◌, if◌then◌else◌}
use Rattle.std.specs.Option.{option_map}
use Rattle.std.proofs.lemmas.Bool.{eqb-true}
use Rattle.lists.specs.Lists.{put}
use Rattle.words_layout.specs.Words.{Words, GuardedWords, WordOp, answer_to}
use Rattle.words_layout.specs.declared.op.Event.{Event}
use Rattle.class_model.specs.Config.{Shared}
use Rattle.class_model.specs.Process.{ProcName}
use Rattle.class_model.specs.State.{State, process_at}
use Rattle.class_model.specs.Process.{Process}
use Rattle.class_model.specs.Step.{step as a_step}
use Rattle.class_model.specs.Run.{steps}
use Rattle.process.specs.Running.{Running, absorb, next_op}
use Rattle.machine.specs.Machine.{Machine, ClassPart, chosen, free_slot, effect_chosen, effect_slot, part_step, part_effect, effect_at, order_of_effect, words_of, step, run}
use Rattle.effect_laws.proofs.Slots.{IsChosen, chosen-is, part_taken, part_step-taken}
use Rattle.effect_laws.proofs.Committed.{Committed, commit_by}
use Rattle.effect_laws.proofs.Interleaving.{committed_after}
use Rattle.effect_laws.proofs.PrivateSame.{named_same}
use Rattle.effect_laws.proofs.Refinement.{Agrees, Laws, follows, name_of, agrees_after}

-- the slot that takes effect, by the process that is chosen
abbrev effect_taken : Shared → (ℕ → Words) → ℕ → ClassPart → ℕ → Option (ℕ × Running) → List ℕ
effect_taken s words d here p None = []
effect_taken s words d here p (Some x) = effect_slot x.0 (absorb s d x.1 (free_slot (here.vp p)) (answer_to words d (next_op s d x.1))).effect

part_effect-taken : (s : Shared) (words : ℕ → Words) (d : ℕ) (here : ClassPart) (p : ℕ) →
    part_effect s words d here p ≡ effect_taken s words d here p (chosen (here.vp p))
part_effect-taken s words d here p = by_chosen (chosen (here.vp p))
  where
    ends : Option (ℕ × Running) → Option WordOp → List ℕ
    ends o None = []
    ends o (Some op) = effect_chosen s d (here.vp p) (answer_to words d op) o

    by_chosen : (o : Option (ℕ × Running)) → ends o (option_map (λ (x : ℕ × Running). next_op s d x.1) o) ≡ effect_taken s words d here p o
    by_chosen None = refl
    by_chosen (Some x) = refl

-- the other machine's steps for the slots that take effect
abbrev a_after : ℕ → ℕ → List ℕ → State → State
a_after p d slots a = steps a (map (λ slot. record { processor = p; class = d; slot = slot }) slots)

follows-steps : (p d i : ℕ) (takes : Bool) (a : State) → a_after p d (effect_slot i takes) a ≡ follows takes a (name_of p d i)
follows-steps p d i true a = refl
follows-steps p d i false a = refl

put-same : (m : ℕ → ClassPart) (d : ℕ) → put m d (m d) ≡ m
put-same m d = λ k y. (same y) k
  where
    same : (y : ℕ) → put m d (m d) y ≡ m y
    same y = elim (y == d) as (λ b. (y == d) ≡ b → (if b then m d else m y) ≡ m y) [ true ↦ λ e. rw (eqb-true y d e) refl | false ↦ λ e. refl ] refl

-- the two machines, side by side
pub record Together (s : Shared) (n : ℕ) (m : ℕ → ClassPart) (a : State) : Type 0 where
  pub committed : ℕ → GuardedWords
  pub keeps : Committed s n m committed
  pub agrees : Agrees s m committed a

-- what is known of the other machine's states, by a bound on its steps, and that the gates' laws follow
module _ (s : Shared) (Good : ℕ → State → Type 0) (good_step : (n : ℕ) (a : State) (name : ProcName) → Good n a → Good (n + 1) (a_step a name))
    (good_more : (n : ℕ) (a : State) → Good n a → Good (n + 1) a)
    (laws : (m : ℕ → ClassPart) (n : ℕ) (committed : ℕ → GuardedWords) (a : State) → n < 2 ^ 64 - 1 → Good n a → Committed s n m committed → Agrees s m committed a →
    (d p i : ℕ) (q : Process) → process_at a (name_of p d i) ≡ Some q → Laws s m committed a d q) where
  more : (n : ℕ) (m : ℕ → ClassPart) (committed : ℕ → GuardedWords) → Committed s n m committed → Committed s (n + 1) m committed
  more n m committed k = record {
    turns = λ d g. record { turns = (k.turns d g).turns; started = omega (arith, (k.turns d g).started); tickets = omega (arith, (k.turns d g).tickets) };
    four = k.four;
    idle = k.idle;
    slots = k.slots;
  }

  good_follows : (n p d i : ℕ) (takes : Bool) (a : State) → Good n a → Good (n + 1) (follows takes a (name_of p d i))
  good_follows n p d i true a good = good_step n a (name_of p d i) good
  good_follows n p d i false a good = good_more n a good

  -- the two machines together, and the other one's state good
  abbrev pub Side : ℕ → (ℕ → ClassPart) → State → Type 0
  Side n m a = Together s n m a × Good n a

  taken : (n : ℕ) (m : ℕ → ClassPart) (a : State) → n < 2 ^ 64 - 1 → Side n m a → (d p : ℕ) (o : Option (ℕ × Running)) → chosen ((m d).vp p) ≡ o →
      Side (n + 1) (put m d (part_taken s (λ y. (m y).words) d (m d) p o)) (a_after p d (effect_taken s (λ y. (m y).words) d (m d) p o) a)
  taken n m a small side d p None e = let t : Together s n m a = side.0 in (
    subst (λ z. Together s (n + 1) z a) (sym (put-same m d)) (record { committed = t.committed; keeps = more n m t.committed t.keeps; agrees = t.agrees }),
    good_more n a side.1,
  )
  taken n m a small side d p (Some x) e =
      let t : Together s n m a = side.0 in
      let is : IsChosen ((m d).vp p) x.0 x.1 = chosen-is ((m d).vp p) x.0 x.1 e in
      let takes : Bool = (absorb s d x.1 (free_slot ((m d).vp p)) (answer_to (λ y. (m y).words) d (next_op s d x.1))).effect in
      let here : Laws s m t.committed a d x.1.process = laws m n t.committed a small side.1 t.keeps t.agrees d p x.0 x.1.process (named_same a d p x.0 (m d) x.1 (t.agrees.processes d) is) in (
        record {
          committed = put t.committed d (commit_by x.1.doing (m d).words.guarded (t.committed d));
          keeps = committed_after s n m t.committed t.keeps small d p x.0 x.1.process here.fair x.1.doing is;
          agrees = subst (Agrees s _ _) (sym (follows-steps p d x.0 takes a))
              (agrees_after s n m t.committed t.keeps small a t.agrees d p x.0 x.1.process here x.1.doing is);
        },
        subst (Good (n + 1)) (sym (follows-steps p d x.0 takes a)) (good_follows n p d x.0 takes a side.1),
      )

  -- one event
  pub together_step : (n : ℕ) (m : Machine) (a : State) → m.shared ≡ s → n < 2 ^ 64 - 1 → Side n m.part a → (e : Event) →
      Side (n + 1) (step m e).part (steps a (effect_at m e))
  together_step n m a shared small side e = subst (λ z. Side (n + 1) (put m.part e.class (part_step z (words_of m) e.class (m.part e.class) e.processor)) (a_after e.processor e.class (part_effect z (words_of m) e.class (m.part e.class) e.processor) a))
      (sym shared) here
    where
      here : Side (n + 1) (put m.part e.class (part_step s (words_of m) e.class (m.part e.class) e.processor)) (a_after e.processor e.class (part_effect s (words_of m) e.class (m.part e.class) e.processor) a)
      here = subst (λ z. Side (n + 1) (put m.part e.class z) (a_after e.processor e.class (part_effect s (words_of m) e.class (m.part e.class) e.processor) a))
          (sym (part_step-taken s (words_of m) e.class (m.part e.class) e.processor))
          (subst (λ z. Side (n + 1) (put m.part e.class (part_taken s (words_of m) e.class (m.part e.class) e.processor (chosen ((m.part e.class).vp e.processor)))) (a_after e.processor e.class z a))
          (sym (part_effect-taken s (words_of m) e.class (m.part e.class) e.processor))
          (taken n m.part a small side e.class e.processor (chosen ((m.part e.class).vp e.processor)) refl))

  steps-append : (a : State) (xs ys : List ProcName) → steps a (xs ++ ys) ≡ steps (steps a xs) ys
  steps-append a [] ys = refl
  steps-append a (x ∷ xs) ys = steps-append (a_step a x) xs ys

  -- every list of events
  pub together_run : (events : List Event) (n : ℕ) (m : Machine) (a : State) → m.shared ≡ s → n + length events < 2 ^ 64 - 1 → Side n m.part a →
      Side (n + length events) (run m events).part (steps a (order_of_effect m events))
  together_run [] n m a shared small side = let e : n + 0 ≡ n = omega arith in subst (λ z. Side z m.part a) (sym e) side
  together_run (e ∷ events) n m a shared small side =
      let len : n + length (e ∷ events) ≡ (n + 1) + length events = omega arith in
      let small' : (n + 1) + length events < 2 ^ 64 - 1 = omega (arith, small) in
      let now : n < 2 ^ 64 - 1 = omega (arith, small) in
      subst (λ z. Side z (run (step m e) events).part (steps a (effect_at m e ++ order_of_effect (step m e) events))) (sym len)
      (subst (Side ((n + 1) + length events) (run (step m e) events).part) (sym (steps-append a (effect_at m e) (order_of_effect (step m e) events)))
      (together_run events (n + 1) (step m e) (steps a (effect_at m e)) shared small' (together_step n m a shared now side e)))
