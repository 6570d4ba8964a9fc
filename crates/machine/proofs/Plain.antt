-- On words in memory a machine runs as the step machine that it stands for.
use Rattle.machine.proofs.Events.{same_length}
use Rattle.machine.specs.Plain.{OnWords, IsLaid}
use Rattle.std.proofs.Common.{ℕ, suc, ◌*◌, ◌<◌, Bool, true, false, List, [], ◌∷◌, ◌++◌, map, length, ◌≡◌, ◌⊎◌, inl, inr, refl, sym, ap, ◌∙◌, subst, Option, Some, None, MatchOption, arith}
use Rattle.std.specs.Prelude.{◌==◌, if◌then◌else◌, slice_set, All}
use Rattle.std.proofs.lemmas.Bool.{cases_eq, eq-eqb, ne_eqb}
use Rattle.std.proofs.lemmas.List.{length-set, get_or-set_same, get_or-set_other}
use Rattle.lists.specs.Lists.{put}
use Rattle.words_layout.specs.Words.{WordOp, answer_to}
use Rattle.words_layout.specs.Named.{words_in, op_at}
use Rattle.words_layout.specs.Ops.{Performed, list_after}
use Rattle.words_layout.specs.declared.op.Op.{Op}
use Rattle.words_layout.specs.declared.op.Op.TheVariants as O
use Rattle.words_layout.specs.declared.op.Event.{Event}
use Rattle.words_layout.proofs.ByName.{operations_go_by_name}
use Rattle.class_model.specs.Config.{Shared, classes}
use Rattle.class_model.specs.Process.{ProcName}
use Rattle.machine.specs.Machine.{Machine, ClassPart, vp_op, vp_after, vp_effect, part_done, part_step, part_ends, effect_at, step, run, order_of_effect}
use Rattle.machine.specs.Processing.{Processing, vp_of}
use Rattle.machine.specs.Banks.{no_processing, bank_at, vp_in, vp_at, with_vp, State, machine_of}
use Rattle.machine.specs.Steps.{IsMachine, InRange, Rests, Performs, EventBy, RunsBy, named, listed}

-- ---- the virtual processors of changed banks

module _ (banks : List (List Processing)) (p c : ℕ) (v : Processing) where
  vp_here : p < length banks → c < length (bank_at banks p) → vp_at (with_vp banks p c v) p c ≡ v
  vp_here inside below =
      ap (λ (bank : List Processing). vp_in bank c) (get_or-set_same banks p (slice_set (bank_at banks p) c v) [] inside) ∙
      get_or-set_same (bank_at banks p) c v no_processing below

  vp_beside : p < length banks → (k : ℕ) → (k ≡ c → ⊥) → vp_at (with_vp banks p c v) p k ≡ vp_at banks p k
  vp_beside inside k apart =
      ap (λ (bank : List Processing). vp_in bank k) (get_or-set_same banks p (slice_set (bank_at banks p) c v) [] inside) ∙
      get_or-set_other (bank_at banks p) c k v no_processing apart

  vp_elsewhere : (q k : ℕ) → (q ≡ p → ⊥) → vp_at (with_vp banks p c v) q k ≡ vp_at banks q k
  vp_elsewhere q k apart = ap (λ (bank : List Processing). vp_in bank k) (get_or-set_other banks p q (slice_set (bank_at banks p) c v) [] apart)

-- ---- tables with one place changed

put_here : {X : Type 0} (f : ℕ → X) (k : ℕ) (x : X) → put f k x k ≡ x
put_here {X} f k x = at (k == k) (eq-eqb k k refl)
  where
    at : (b : Bool) → b ≡ true → (if b then x else f k) ≡ x
    at true e = refl
    at false e = absurd (cc)

put_beside : {X : Type 0} (f : ℕ → X) (k : ℕ) (x : X) (q : ℕ) → (q ≡ k → ⊥) → put f k x q ≡ f q
put_beside {X} f k x q apart = at (q == k) (ne_eqb q k apart)
  where
    at : (b : Bool) → b ≡ false → (if b then x else f q) ≡ f q
    at true e = absurd (cc)
    at false e = refl

pub is_laid : (m : State (List ℕ)) (layout : ℕ) → length m.words ≡ 34869 * classes m.shared → IsMachine layout m.banks m.shared → IsLaid m
is_laid m layout long h = record { long = long; width = λ p lt. (h.each p lt).width; order = λ p c lt below. (h.each p lt).order c below }

-- ---- one event

-- what an event does, for the operation of its step
record Does (m n : State (List ℕ)) (e : Event) (after : Processing) (effect : Option ℕ) (o : Option WordOp) : Type 0 where
  own : words_in n.words e.class ≡ (part_done m.shared (words_in m.words) e.class ((machine_of m).part e.class) e.processor o).words
  others : (k : ℕ) → (k ≡ e.class → ⊥) → words_in n.words k ≡ words_in m.words k
  vp : vp_of m.shared after ≡ (part_done m.shared (words_in m.words) e.class ((machine_of m).part e.class) e.processor o).vp e.processor
  rest : (q : ℕ) → (q ≡ e.processor → ⊥) → (part_done m.shared (words_in m.words) e.class ((machine_of m).part e.class) e.processor o).vp q ≡ ((machine_of m).part e.class).vp q
  effect_is : listed effect ≡ part_ends m.shared (words_in m.words) e.class ((machine_of m).part e.class) e.processor o
  long : length n.words ≡ length m.words
  class : after.class ≡ (vp_at m.banks e.processor e.class).class

longs : (before : List ℕ) (op : Op) → length (list_after before op) ≡ length before
longs before O.Nothing = refl
longs before (O.Load a) = refl
longs before (O.Store a x) = length-set before a.0 x
longs before (O.Add a x) = length-set before a.0 _

does : (m n : State (List ℕ)) (e : Event) (after : Processing) (effect : Option ℕ) → IsLaid m → e.class < classes m.shared → (vp_at m.banks e.processor e.class).class ≡ e.class → (o : Option WordOp) →
    MatchOption o (Rests (vp_at m.banks e.processor e.class) m.words after n.words effect) (λ op. Performs OnWords m.shared (vp_at m.banks e.processor e.class) m.words after n.words effect op) →
    Does m n e after effect o
does m n e after effect laid below class None h = record {
  own = ap (λ (w : List ℕ). words_in w e.class) h.words_are;
  others = λ k apart. ap (λ (w : List ℕ). words_in w k) h.words_are;
  vp = ap (vp_of m.shared) h.processing;
  rest = λ q apart. refl;
  effect_is = ap listed h.no_effect;
  long = ap length h.words_are;
  class = ap (λ (u : Processing). u.class) h.processing;
}
does m n e after effect laid below class (Some op) h =
    let v : Processing = vp_at m.banks e.processor e.class in
    let performed : Performed m.words (op_at e.class op) h.answer n.words = subst (λ (d : ℕ). Performed m.words (op_at d op) h.answer n.words) class h.performed in
    let by = operations_go_by_name (classes m.shared) e.class op m.words h.answer n.words laid.long below h.in_limits performed in record {
      own = by.own;
      others = by.others;
      vp = h.absorbed.absorbed ∙ ap (λ (d : ℕ). vp_after m.shared d (vp_of m.shared v) h.answer) class ∙ ap (vp_after m.shared e.class (vp_of m.shared v)) by.answered ∙
          sym (put_here ((machine_of m).part e.class).vp e.processor (vp_after m.shared e.class (vp_of m.shared v) (answer_to (words_in m.words) e.class op)));
      rest = λ q apart. put_beside ((machine_of m).part e.class).vp e.processor (vp_after m.shared e.class (vp_of m.shared v) (answer_to (words_in m.words) e.class op)) q apart;
      effect_is = h.absorbed.effect_is ∙ ap (λ (d : ℕ). vp_effect m.shared d (vp_of m.shared v) h.answer) class ∙ ap (vp_effect m.shared e.class (vp_of m.shared v)) by.answered;
      long = ap length performed.done ∙ longs m.words (op_at e.class op);
      class = h.absorbed.class;
    }

module _ (m n : State (List ℕ)) (e : Event) (effect : Option ℕ) (laid : IsLaid m) (there : InRange m e) (h : EventBy OnWords e m n effect) where
  class_is : (vp_at m.banks e.processor e.class).class ≡ e.class
  class_is = laid.order e.processor e.class there.0 there.1

  wide : e.class < length (bank_at m.banks e.processor)
  wide = subst (λ (k : ℕ). e.class < k) (sym (laid.width e.processor there.0)) there.1

  -- the part of the class after the step
  abbrev stepped : ClassPart
  stepped = part_step m.shared (words_in m.words) e.class ((machine_of m).part e.class) e.processor

  done : Does m n e h.after effect (vp_op m.shared e.class (vp_of m.shared (vp_at m.banks e.processor e.class)))
  done = does m n e h.after effect laid there.1 class_is (vp_op m.shared e.class (vp_of m.shared (vp_at m.banks e.processor e.class)))
      (subst (λ (d : ℕ). MatchOption (vp_op m.shared d (vp_of m.shared (vp_at m.banks e.processor e.class)))
      (Rests (vp_at m.banks e.processor e.class) m.words h.after n.words effect) (λ op. Performs OnWords m.shared (vp_at m.banks e.processor e.class) m.words h.after n.words effect op)) class_is h.step)

  -- the part of a class, by the banks with one virtual processor changed
  abbrev changed : ℕ → ClassPart
  changed k = record { words = words_in n.words k; vp = λ q. vp_of m.shared (vp_at (with_vp m.banks e.processor e.class h.after) q k) }

  own_vp : (q : ℕ) → (q ≡ e.processor) ⊎ (q ≡ e.processor → ⊥) → (changed e.class).vp q ≡ stepped.vp q
  own_vp q (inl same) = subst (λ (j : ℕ). (changed e.class).vp j ≡ stepped.vp j) (sym same) (ap (vp_of m.shared) (vp_here m.banks e.processor e.class h.after there.0 wide) ∙ done.vp)
  own_vp q (inr apart) = ap (vp_of m.shared) (vp_elsewhere m.banks e.processor e.class h.after q e.class apart) ∙ sym (done.rest q apart)

  own_part : changed e.class ≡ stepped
  own_part = λ j. record { words = done.own j; vp = λ q. (own_vp q (cases_eq q e.processor)) j }

  other_vp : (k q : ℕ) → (k ≡ e.class → ⊥) → (q ≡ e.processor) ⊎ (q ≡ e.processor → ⊥) → (changed k).vp q ≡ ((machine_of m).part k).vp q
  other_vp k q apart (inl same) = subst (λ (j : ℕ). (changed k).vp j ≡ ((machine_of m).part k).vp j) (sym same) (ap (vp_of m.shared) (vp_beside m.banks e.processor e.class h.after there.0 k apart))
  other_vp k q apart (inr away) = ap (vp_of m.shared) (vp_elsewhere m.banks e.processor e.class h.after q k away)

  other_part : (k : ℕ) → (k ≡ e.class → ⊥) → changed k ≡ (machine_of m).part k
  other_part k apart = λ j. record { words = done.others k apart j; vp = λ q. (other_vp k q apart (cases_eq q e.processor)) j }

  part_either : (k : ℕ) → (k ≡ e.class) ⊎ (k ≡ e.class → ⊥) → changed k ≡ put (machine_of m).part e.class stepped k
  part_either k (inl same) = subst (λ (j : ℕ). changed j ≡ put (machine_of m).part e.class stepped j) (sym same) (own_part ∙ sym (put_here (machine_of m).part e.class stepped))
  part_either k (inr apart) = other_part k apart ∙ sym (put_beside (machine_of m).part e.class stepped k apart)

  part_is : (k : ℕ) → (machine_of n).part k ≡ put (machine_of m).part e.class stepped k
  part_is k = (λ j. record { words = words_in n.words k; vp = λ q. vp_of (h.shared j) (vp_at (h.banks j) q k) }) ∙ part_either k (cases_eq k e.class)

  -- an event on words in memory is the step of the step machine, and its effect is the same
  pub step_is : machine_of n ≡ step (machine_of m) e
  step_is = λ j. record { shared = h.shared j; part = λ k. (part_is k) j }

  pub effect_there : named e effect ≡ effect_at (machine_of m) e
  effect_there = ap (map (λ slot. record { processor = e.processor; class = e.class; slot = slot })) done.effect_is

  -- ---- it stays laid

  width_after : (p : ℕ) → p < length n.banks → (p ≡ e.processor) ⊎ (p ≡ e.processor → ⊥) → length (bank_at (with_vp m.banks e.processor e.class h.after) p) ≡ classes m.shared
  width_after p lt (inl same) = subst (λ (j : ℕ). length (bank_at (with_vp m.banks e.processor e.class h.after) j) ≡ classes m.shared) (sym same)
      (ap length (get_or-set_same m.banks e.processor (slice_set (bank_at m.banks e.processor) e.class h.after) [] there.0) ∙ (length-set (bank_at m.banks e.processor) e.class h.after ∙ laid.width e.processor there.0))
  width_after p lt (inr apart) = ap length (get_or-set_other m.banks e.processor p (slice_set (bank_at m.banks e.processor) e.class h.after) [] apart) ∙
      laid.width p (subst (λ (k : ℕ). p < k) (same_length OnWords e m n effect h) lt)

  order_after : (p c : ℕ) → p < length n.banks → c < classes m.shared → (p ≡ e.processor) ⊎ (p ≡ e.processor → ⊥) → (c ≡ e.class) ⊎ (c ≡ e.class → ⊥) →
      (vp_at (with_vp m.banks e.processor e.class h.after) p c).class ≡ c
  order_after p c lt below (inl same) (inl this) = subst (λ (k : ℕ). (vp_at (with_vp m.banks e.processor e.class h.after) p k).class ≡ k) (sym this)
      (subst (λ (j : ℕ). (vp_at (with_vp m.banks e.processor e.class h.after) j e.class).class ≡ e.class) (sym same)
      (ap (λ (u : Processing). u.class) (vp_here m.banks e.processor e.class h.after there.0 wide) ∙ (done.class ∙ class_is)))
  order_after p c lt below (inl same) (inr apart) = subst (λ (j : ℕ). (vp_at (with_vp m.banks e.processor e.class h.after) j c).class ≡ c) (sym same)
      (ap (λ (u : Processing). u.class) (vp_beside m.banks e.processor e.class h.after there.0 c apart) ∙ laid.order e.processor c there.0 below)
  order_after p c lt below (inr away) either = ap (λ (u : Processing). u.class) (vp_elsewhere m.banks e.processor e.class h.after p c away) ∙
      laid.order p c (subst (λ (k : ℕ). p < k) (same_length OnWords e m n effect h) lt) below

  -- the banks and what no step changes, as they are written
  written : (P : List (List Processing) → Shared → Type 0) → P (with_vp m.banks e.processor e.class h.after) m.shared → P n.banks n.shared
  written P x = subst (λ (b : List (List Processing)). P b n.shared) (sym h.banks) (subst (P (with_vp m.banks e.processor e.class h.after)) (sym h.shared) x)

  pub laid_after : IsLaid n
  laid_after = record {
    long = written (λ b s. length n.words ≡ 34869 * classes s) (done.long ∙ laid.long);
    width = λ p lt. written (λ b s. length (bank_at b p) ≡ classes s) (width_after p lt (cases_eq p e.processor));
    order = λ p c lt below. subst (λ (b : List (List Processing)). (vp_at b p c).class ≡ c) (sym h.banks)
        (order_after p c lt (subst (λ (s : Shared). c < classes s) h.shared below) (cases_eq p e.processor) (cases_eq c e.class));
  }

  pub range_after : (x : Event) → InRange m x → InRange n x
  range_after x r = (subst (λ (k : ℕ). x.processor < k) (sym (same_length OnWords e m n effect h)) r.0, subst (λ (s : Shared). x.class < classes s) (sym h.shared) r.1)

-- ---- a list of events

pub run_is : (events : List Event) (m n : State (List ℕ)) (names : List ProcName) → IsLaid m → All (λ e. InRange m e) events → RunsBy OnWords events m n names →
    (machine_of n ≡ run (machine_of m) events) × (names ≡ order_of_effect (machine_of m) events)
run_is [] m n names laid there h = (ap machine_of h.0, h.1)
run_is (e ∷ events) m n names laid there h =
    let here : InRange m e = there 0 e (omega arith) in
    let one = step_is m h.0 e h.1 laid here h.3 in
    let rest = run_is events h.0 n h.2 (laid_after m h.0 e h.1 laid here h.3) (λ k x lt. range_after m h.0 e h.1 laid here h.3 _ (there (suc k) x (omega arith))) h.4 in (
      rest.0 ∙ ap (λ (x : Machine). run x events) one,
      h.5 ∙ ap (λ (x : List ProcName). x ++ h.2) (effect_there m h.0 e h.1 laid here h.3) ∙
          ap (λ (x : List ProcName). effect_at (machine_of m) e ++ x) (rest.1 ∙ ap (λ (x : Machine). order_of_effect x events) one),
    )

pub event_is : (e : Event) (m n : State (List ℕ)) (effect : Option ℕ) → IsLaid m → InRange m e → EventBy OnWords e m n effect →
    (machine_of n ≡ step (machine_of m) e) × (named e effect ≡ effect_at (machine_of m) e) × IsLaid n
event_is e m n effect laid there h = (step_is m n e effect laid there h, effect_there m n e effect laid there h, laid_after m n e effect laid there h)

pub ruleset laws = (run_is)
