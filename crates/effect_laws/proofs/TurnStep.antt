-- Each event keeps the turns of each guard of each class.
use Rattle.std.proofs.Common.{ℕ, ◌+◌, ◌-◌, ◌%◌, ◌^◌, ◌≤◌, ◌<◌, Bool, true, false, ◌≡◌, refl, sym, ap, subst, ◌∙◌, Option, Some, None, arith, ◌⊎◌, inl, inr}
use Rattle.std.specs.Prelude.{◌==◌, if◌then◌else◌}
use Rattle.std.proofs.lemmas.Bool.{eqb-true}
use Rattle.words_layout.specs.Segments.{same_seg}
use Rattle.words_layout.specs.declared.segment.SegId.{SegId}
use Rattle.words_layout.specs.Words.{Guard, OfClass, OfSegment, Words, WordOp, words_after, answer_to}
use Rattle.words_layout.proofs.Names.{same_seg-true}
use Rattle.policy.specs.Outcome.{Outcome, Printed}
use Rattle.turns.specs.Bodies.{Loads, Inner, Outer}
use Rattle.turns.specs.Doing.{Doing, Fresh, LookSecond, LookBody, OuterSecond, OuterThird, OuterBody, InnerSecond, InnerThird, InnerBody, Leaving, Told, going, poll, done, left, act_op, act_told, doing_op, doing_told, look_op, look_told, outer_op, outer_told, inner_op, inner_told}
use Rattle.turns.specs.Stage.{Stage, Outside, Begun, Waits, Has, stage, at_class, at_segment, within_stage}
use Rattle.class_model.specs.Config.{Shared}
use Rattle.class_model.specs.Process.{Process}
use Rattle.class_model.specs.Plan.{Plan, Own, Begin, Ask, Request, MakeKnown, Create, Delete, SwapIn, SwapOut, Fetch, Update, Read, Advance, Ticket, Out, plan}
use Rattle.process.specs.Running.{Running, act, plan_op, running_op, next_op, Absorbed, absorb, made_of, begin_in, plan_absorbed, doing_absorbed}
use Rattle.machine.specs.Machine.{ClassPart, VirtualProcessor, free_slot}
use Rattle.effect_laws.specs.Turns.{Held, one_holding, holding}
use Rattle.effect_laws.proofs.Turns.{TicketOk, Turns, turns_after}
use Rattle.effect_laws.proofs.Slots.{IsChosen, FitsMade, part_after, slots-after, heft, weight, count_inside, weight-after}

-- what a step may do to the numbers of a guard's turns: started, finished, tickets, before and after
pub record StepOk (s c t s' c' t' : ℕ) (old new : Stage) : Type 0 where
  pub c_step : (c' ≡ c) ⊎ ((c' ≡ c + 1) × Held old c)
  pub t_step : t ≤ t'
  pub t_most : t' ≤ t + 1
  pub s_step : s ≤ s'
  pub s_most : s' ≤ s + 1
  pub balance : s' + c + heft old ≡ c' + s + heft new
  pub drawn : t' + c + one_holding old ≡ c' + t + one_holding new
  pub order : c' ≤ t'
  pub new_ok : TicketOk c' t' new
  pub new_held : (u : ℕ) → Held new u → Held old u ⊎ (t ≤ u)

-- a number below the limit goes up by one without wrapping
one_more : (n : ℕ) → n < 2 ^ 64 - 1 → (n + 1) % 2 ^ 64 ≡ n + 1
one_more n h = omega arith

module _ (s c t : ℕ) (order : c ≤ t) (s_small : s < 2 ^ 64 - 1) (t_small : t < 2 ^ 64 - 1) where
  quiet : (old new : Stage) → heft old ≡ heft new → one_holding old ≡ one_holding new → TicketOk c t new → ((u : ℕ) → Held new u → Held old u ⊎ (t ≤ u)) → StepOk s c t s c t old new
  quiet old new eh oh ok held = record {
    c_step = inl refl;
    t_step = omega arith;
    t_most = omega arith;
    s_step = omega arith;
    s_most = omega arith;
    balance = omega (arith, eh);
    drawn = omega (arith, oh);
    order = order;
    new_ok = ok;
    new_held = held;
  }

  same : (x : Stage) → TicketOk c t x → StepOk s c t s c t x x
  same x ok = quiet x x refl refl ok (λ u h. inl h)

  begins : StepOk s c t ((s + 1) % 2 ^ 64) c t Outside Begun
  begins = let e : (s + 1) % 2 ^ 64 ≡ s + 1 = one_more s s_small in record {
    c_step = inl refl;
    t_step = omega arith;
    t_most = omega arith;
    s_step = omega (arith, e);
    s_most = omega (arith, e);
    balance = omega (arith, e);
    drawn = omega arith;
    order = order;
    new_ok = tt;
    new_held = λ u h. absurd h;
  }

  takes : StepOk s c t s c ((t + 1) % 2 ^ 64) Begun (Waits t)
  takes = let e : (t + 1) % 2 ^ 64 ≡ t + 1 = one_more t t_small in record {
    c_step = inl refl;
    t_step = omega (arith, e);
    t_most = omega (arith, e);
    s_step = omega arith;
    s_most = omega arith;
    balance = omega arith;
    drawn = omega (arith, e);
    order = omega (arith, e, order);
    new_ok = (order, omega (arith, e));
    new_held = λ u h. inr (omega (arith, h));
  }

  arrives : (u : ℕ) → TicketOk c t (Waits u) → c ≡ u → StepOk s c t s c t (Waits u) (Has u)
  arrives u ok e = quiet (Waits u) (Has u) refl refl (sym e, ok.1) (λ v h. inl h)

  finishes : (u : ℕ) → TicketOk c t (Has u) → StepOk s c t s ((c + 1) % 2 ^ 64) t (Has u) Outside
  finishes u ok = let e : (c + 1) % 2 ^ 64 ≡ c + 1 = one_more c (omega (arith, ok.0, ok.1)) in record {
    c_step = inr (e, ok.0);
    t_step = omega arith;
    t_most = omega arith;
    s_step = omega arith;
    s_most = omega arith;
    balance = omega (arith, e);
    drawn = omega (arith, e);
    order = omega (arith, e, ok.0, ok.1);
    new_ok = tt;
    new_held = λ v h. absurd h;
  }

-- by whether two segments are the same
pub seg_cases : (v u : SegId) (P : Bool → Type 0) → (v ≡ u → P true) → (same_seg v u ≡ false → P false) → P (same_seg v u)
seg_cases v u P a b = elim (same_seg v u) as (λ x. same_seg v u ≡ x → P x) [ true ↦ λ e. a (same_seg-true v u e) | false ↦ λ e. b e ] refl

-- what a step does to the numbers of a guard's turns
abbrev pub After : Guard → Words → WordOp → Stage → Stage → Type 0
After g w op old new = let w' : Words = words_after w op in
    StepOk (w.started g) (w.finished g) (w.tickets g) (w'.started g) (w'.finished g) (w'.tickets g) old new

abbrev pub OkAt : Guard → Words → Stage → Type 0
OkAt g w x = TicketOk (w.finished g) (w.tickets g) x

-- the stage that an instruction is in after an answer
abbrev pub stage_told : Guard → Told Outcome → Stage
stage_told g told = stage g told.doing

-- seen from the class
module _ (d : ℕ) (w : Words) (words : ℕ → Words) (own : words d ≡ w)
    (order : w.finished OfClass ≤ w.tickets OfClass) (s_small : w.started OfClass < 2 ^ 64 - 1) (t_small : w.tickets OfClass < 2 ^ 64 - 1) where
  c_still : (x : Stage) → OkAt OfClass w x → After OfClass w WordOp.Nothing x x
  c_still x ok = same (w.started OfClass) (w.finished OfClass) (w.tickets OfClass) order s_small t_small x ok

  c_choice : (b : Bool) (x y : Doing Outcome) → (z : Stage) → OkAt OfClass w z → stage OfClass x ≡ z → stage OfClass y ≡ z →
      After OfClass w WordOp.Nothing z (stage_told OfClass (if b then going x else poll y))
  c_choice true x y z ok e f = rw e (c_still z ok)
  c_choice false x y z ok e f = rw f (c_still z ok)

  c_third : (t : ℕ) (body : Outer Outcome) → OkAt OfClass w (Waits t) → (n : ℕ) → n ≡ w.finished OfClass → (b : Bool) → (n == t) ≡ b →
      After OfClass w WordOp.Nothing (Waits t) (stage_told OfClass (if b then going (OuterBody t body) else poll (OuterThird t body)))
  c_third t body ok n e true f = arrives (w.started OfClass) (w.finished OfClass) (w.tickets OfClass) order s_small t_small t ok (sym e ∙ eqb-true n t f)
  c_third t body ok n e false f = c_still (Waits t) ok

  c_outer : (t answer : ℕ) (rest : Outer Outcome) → OkAt OfClass w (Has t) → After OfClass w (outer_op d rest) (Has t) (stage_told OfClass (outer_told t rest answer))
  c_outer t answer (Outer.Load q f) ok = c_still (Has t) ok
  c_outer t answer (Outer.Store q v rest) ok = c_still (Has t) ok
  c_outer t answer (Outer.Enter u body) ok = c_still (Has t) ok
  c_outer t answer (Outer.Shows o) ok = finishes (w.started OfClass) (w.finished OfClass) (w.tickets OfClass) order s_small t_small t ok

  c_left : (within : Option ℕ) (o : Outcome) → stage_told OfClass (left within o) ≡ within_stage within
  c_left None o = refl
  c_left (Some t) o = refl

  c_inner : (within : Option ℕ) (u : SegId) (t answer : ℕ) (rest : Inner Outcome) → OkAt OfClass w (within_stage within) →
      After OfClass w (inner_op d u rest) (within_stage within) (stage_told OfClass (inner_told within u t rest answer))
  c_inner within u t answer (Inner.Load q f) ok = c_still (within_stage within) ok
  c_inner within u t answer (Inner.Store q v rest) ok = c_still (within_stage within) ok
  c_inner within u t answer (Inner.Add q v f) ok = c_still (within_stage within) ok
  c_inner within u t answer (Inner.Shows o) ok = rw (c_left within o) (c_still (within_stage within) ok)

  c_look : (x : ℕ) (h : Guard) (k answer : ℕ) (rest : Loads Outcome) → After OfClass w (look_op x h rest) Outside (stage_told OfClass (look_told x h k rest answer))
  c_look x h k answer (Loads.Load q f) = c_still Outside tt
  c_look x h k answer (Loads.Shows o) = by_test (answer == k)
    where
      by_test : (b : Bool) → After OfClass w WordOp.Nothing Outside (stage_told OfClass (if b then done o else poll Fresh))
      by_test true = c_still Outside tt
      by_test false = c_still Outside tt

  pub class_told : (x : Doing Outcome) → OkAt OfClass w (stage OfClass x) →
      After OfClass w (doing_op d x) (stage OfClass x) (stage_told OfClass (doing_told x (answer_to words d (doing_op d x))))
  class_told Fresh ok = c_still Outside tt
  class_told (LookSecond x h k body) ok = c_choice (answer_to words d (WordOp.Load x (Rattle.words_layout.specs.Words.Finished h)) == k) (LookBody x h k body) Fresh Outside tt refl refl
  class_told (LookBody x h k rest) ok = c_look x h k (answer_to words d (look_op x h rest)) rest
  class_told (OuterSecond body) ok = subst (λ (n : ℕ). After OfClass w (doing_op d (OuterSecond body)) Begun (Waits n)) (sym (ap (λ (y : Words). y.tickets OfClass) own))
      (takes (w.started OfClass) (w.finished OfClass) (w.tickets OfClass) order s_small t_small)
  class_told (OuterThird t body) ok = c_third t body ok ((words d).finished OfClass) (ap (λ (y : Words). y.finished OfClass) own) ((words d).finished OfClass == t) refl
  class_told (OuterBody t rest) ok = c_outer t (answer_to words d (outer_op d rest)) rest ok
  class_told (InnerSecond within u body) ok = c_still (within_stage within) ok
  class_told (InnerThird within u t body) ok = c_choice ((words d).finished (OfSegment u) == t) (InnerBody within u t body) (InnerThird within u t body) (within_stage within) ok refl refl
  class_told (InnerBody within u t rest) ok = c_inner within u t (answer_to words d (inner_op d u rest)) rest ok
  class_told (Leaving t) ok = finishes (w.started OfClass) (w.finished OfClass) (w.tickets OfClass) order s_small t_small t ok

-- seen from a segment
module _ (v : SegId) (d : ℕ) (w : Words) (words : ℕ → Words) (own : words d ≡ w)
    (order : w.finished (OfSegment v) ≤ w.tickets (OfSegment v)) (s_small : w.started (OfSegment v) < 2 ^ 64 - 1) (t_small : w.tickets (OfSegment v) < 2 ^ 64 - 1) where
  s_still : (x : Stage) → OkAt (OfSegment v) w x → After (OfSegment v) w WordOp.Nothing x x
  s_still x ok = same (w.started (OfSegment v)) (w.finished (OfSegment v)) (w.tickets (OfSegment v)) order s_small t_small x ok

  -- a step of a turn of segment u, given what it is where u is v
  abbrev Seen : SegId → Stage → Stage → (s' c' t' : ℕ) → Bool → Type 0
  Seen u old new s' c' t' b = OkAt (OfSegment v) w (if b then old else Outside) →
      StepOk (w.started (OfSegment v)) (w.finished (OfSegment v)) (w.tickets (OfSegment v))
      (if b then s' else w.started (OfSegment v)) (if b then c' else w.finished (OfSegment v)) (if b then t' else w.tickets (OfSegment v))
      (if b then old else Outside) (if b then new else Outside)

  seen_from : (u : SegId) (old new : Stage) (s' c' t' : ℕ) → (v ≡ u → Seen u old new s' c' t' true) → Seen u old new s' c' t' (same_seg v u)
  seen_from u old new s' c' t' here = seg_cases v u (Seen u old new s' c' t') here (λ e ok. s_still Outside tt)

  s_begins : (u : SegId) → After (OfSegment v) w (WordOp.Add (Rattle.words_layout.specs.Words.Started (OfSegment u)) 1) Outside (if same_seg v u then Begun else Outside)
  s_begins u = seg_cases v u (λ b. StepOk (w.started (OfSegment v)) (w.finished (OfSegment v)) (w.tickets (OfSegment v))
      (if b then (w.started (OfSegment u) + 1) % 2 ^ 64 else w.started (OfSegment v)) (w.finished (OfSegment v)) (w.tickets (OfSegment v)) Outside (if b then Begun else Outside))
      (λ e. rw (← e) (begins (w.started (OfSegment v)) (w.finished (OfSegment v)) (w.tickets (OfSegment v)) order s_small t_small))
      (λ e. s_still Outside tt)

  s_takes : (u : SegId) (n : ℕ) → n ≡ w.tickets (OfSegment u) →
      After (OfSegment v) w (WordOp.Add (Rattle.words_layout.specs.Words.Tickets (OfSegment u)) 1) (if same_seg v u then Begun else Outside) (if same_seg v u then Waits n else Outside)
  s_takes u n e = seg_cases v u (λ b. StepOk (w.started (OfSegment v)) (w.finished (OfSegment v)) (w.tickets (OfSegment v))
      (w.started (OfSegment v)) (w.finished (OfSegment v)) (if b then (w.tickets (OfSegment u) + 1) % 2 ^ 64 else w.tickets (OfSegment v)) (if b then Begun else Outside) (if b then Waits n else Outside))
      (λ f. rw e (rw (← f) (takes (w.started (OfSegment v)) (w.finished (OfSegment v)) (w.tickets (OfSegment v)) order s_small t_small)))
      (λ f. s_still Outside tt)

  s_choice : (b : Bool) (x y : Doing Outcome) → (z : Stage) → OkAt (OfSegment v) w z → stage (OfSegment v) x ≡ z → stage (OfSegment v) y ≡ z →
      After (OfSegment v) w WordOp.Nothing z (stage_told (OfSegment v) (if b then going x else poll y))
  s_choice true x y z ok e f = rw e (s_still z ok)
  s_choice false x y z ok e f = rw f (s_still z ok)

  s_third : (within : Option ℕ) (u : SegId) (t : ℕ) (body : Inner Outcome) (n : ℕ) → n ≡ w.finished (OfSegment u) → (b : Bool) → (n == t) ≡ b →
      OkAt (OfSegment v) w (if same_seg v u then Waits t else Outside) →
      After (OfSegment v) w WordOp.Nothing (if same_seg v u then Waits t else Outside)
      (stage_told (OfSegment v) (if b then going (InnerBody within u t body) else poll (InnerThird within u t body)))
  s_third within u t body n e false f ok = s_still (if same_seg v u then Waits t else Outside) ok
  s_third within u t body n e true f ok = seg_cases v u (λ b. OkAt (OfSegment v) w (if b then Waits t else Outside) →
      After (OfSegment v) w WordOp.Nothing (if b then Waits t else Outside) (if b then Has t else Outside))
      (λ h k. arrives (w.started (OfSegment v)) (w.finished (OfSegment v)) (w.tickets (OfSegment v)) order s_small t_small t k
      (ap (λ (y : SegId). w.finished (OfSegment y)) h ∙ sym e ∙ eqb-true n t f))
      (λ h k. s_still Outside tt) ok

  s_outer : (t answer : ℕ) (rest : Outer Outcome) → After (OfSegment v) w (outer_op d rest) Outside (stage_told (OfSegment v) (outer_told t rest answer))
  s_outer t answer (Outer.Load q f) = s_still Outside tt
  s_outer t answer (Outer.Store q x rest) = s_still Outside tt
  s_outer t answer (Outer.Enter u body) = s_begins u
  s_outer t answer (Outer.Shows o) = s_still Outside tt

  s_left : (within : Option ℕ) (o : Outcome) → stage_told (OfSegment v) (left within o) ≡ Outside
  s_left None o = refl
  s_left (Some t) o = refl

  s_finishes : (u : SegId) (t : ℕ) → OkAt (OfSegment v) w (if same_seg v u then Has t else Outside) →
      After (OfSegment v) w (WordOp.Add (Rattle.words_layout.specs.Words.Finished (OfSegment u)) 1) (if same_seg v u then Has t else Outside) Outside
  s_finishes u t ok = seg_cases v u (λ b. OkAt (OfSegment v) w (if b then Has t else Outside) → StepOk (w.started (OfSegment v)) (w.finished (OfSegment v)) (w.tickets (OfSegment v))
      (w.started (OfSegment v)) (if b then (w.finished (OfSegment u) + 1) % 2 ^ 64 else w.finished (OfSegment v)) (w.tickets (OfSegment v)) (if b then Has t else Outside) Outside)
      (λ e k. rw (← e) (finishes (w.started (OfSegment v)) (w.finished (OfSegment v)) (w.tickets (OfSegment v)) order s_small t_small t k))
      (λ e k. s_still Outside tt) ok

  s_inner : (within : Option ℕ) (u : SegId) (t answer : ℕ) (rest : Inner Outcome) → OkAt (OfSegment v) w (if same_seg v u then Has t else Outside) →
      After (OfSegment v) w (inner_op d u rest) (if same_seg v u then Has t else Outside) (stage_told (OfSegment v) (inner_told within u t rest answer))
  s_inner within u t answer (Inner.Load q f) ok = s_still (if same_seg v u then Has t else Outside) ok
  s_inner within u t answer (Inner.Store q x rest) ok = s_still (if same_seg v u then Has t else Outside) ok
  s_inner within u t answer (Inner.Add q x f) ok = s_still (if same_seg v u then Has t else Outside) ok
  s_inner within u t answer (Inner.Shows o) ok = rw (s_left within o) (s_finishes u t ok)

  s_look : (x : ℕ) (h : Guard) (k answer : ℕ) (rest : Loads Outcome) → After (OfSegment v) w (look_op x h rest) Outside (stage_told (OfSegment v) (look_told x h k rest answer))
  s_look x h k answer (Loads.Load q f) = s_still Outside tt
  s_look x h k answer (Loads.Shows o) = by_test (answer == k)
    where
      by_test : (b : Bool) → After (OfSegment v) w WordOp.Nothing Outside (stage_told (OfSegment v) (if b then done o else poll Fresh))
      by_test true = s_still Outside tt
      by_test false = s_still Outside tt

  pub segment_told : (x : Doing Outcome) → OkAt (OfSegment v) w (stage (OfSegment v) x) →
      After (OfSegment v) w (doing_op d x) (stage (OfSegment v) x) (stage_told (OfSegment v) (doing_told x (answer_to words d (doing_op d x))))
  segment_told Fresh ok = s_still Outside tt
  segment_told (LookSecond x h k body) ok = s_choice (answer_to words d (WordOp.Load x (Rattle.words_layout.specs.Words.Finished h)) == k) (LookBody x h k body) Fresh Outside tt refl refl
  segment_told (LookBody x h k rest) ok = s_look x h k (answer_to words d (look_op x h rest)) rest
  segment_told (OuterSecond body) ok = s_still Outside tt
  segment_told (OuterThird t body) ok = s_choice ((words d).finished OfClass == t) (OuterBody t body) (OuterThird t body) Outside tt refl refl
  segment_told (OuterBody t rest) ok = s_outer t (answer_to words d (outer_op d rest)) rest
  segment_told (InnerSecond within u body) ok = s_takes u ((words d).tickets (OfSegment u)) (ap (λ (y : Words). y.tickets (OfSegment u)) own)
  segment_told (InnerThird within u t body) ok = s_third within u t body ((words d).finished (OfSegment u)) (ap (λ (y : Words). y.finished (OfSegment u)) own) ((words d).finished (OfSegment u) == t) refl ok
  segment_told (InnerBody within u t rest) ok = s_inner within u t (answer_to words d (inner_op d u rest)) rest ok
  segment_told (Leaving t) ok = s_still Outside tt

module _ (g : Guard) (s : Shared) (d : ℕ) (w : Words) (words : ℕ → Words) (own : words d ≡ w)
    (order : w.finished g ≤ w.tickets g) (s_small : w.started g < 2 ^ 64 - 1) (t_small : w.tickets g < 2 ^ 64 - 1) where
  g_still : After g w WordOp.Nothing Outside Outside
  g_still = same (w.started g) (w.finished g) (w.tickets g) order s_small t_small Outside tt

  module _ (p : Process) (free : Option ℕ) where
    class_begins : (h : Guard) → w.finished h ≤ w.tickets h → w.started h < 2 ^ 64 - 1 → w.tickets h < 2 ^ 64 - 1 →
        After h w (WordOp.Add (Rattle.words_layout.specs.Words.Started OfClass) 1) Outside (at_class h Begun)
    class_begins OfClass a b c = begins (w.started OfClass) (w.finished OfClass) (w.tickets OfClass) a b c
    class_begins (OfSegment v) a b c = same (w.started (OfSegment v)) (w.finished (OfSegment v)) (w.tickets (OfSegment v)) a b c Outside tt

    segment_begins : (u : SegId) (h : Guard) → w.finished h ≤ w.tickets h → w.started h < 2 ^ 64 - 1 → w.tickets h < 2 ^ 64 - 1 →
        After h w (WordOp.Add (Rattle.words_layout.specs.Words.Started (OfSegment u)) 1) Outside (at_segment h None u Begun)
    segment_begins u OfClass a b c = same (w.started OfClass) (w.finished OfClass) (w.tickets OfClass) a b c Outside tt
    segment_begins u (OfSegment v) a b c = s_begins v d w words own a b c u

    -- an instruction that begins
    ask_ok : (answer : ℕ) (q : Request) → After g w (act_op (act s d p.ring q)) Outside (stage g (plan_absorbed s d p free answer (Ask q)).running.doing)
    ask_ok answer (MakeKnown k e mode) = g_still
    ask_ok answer (Fetch k offset count pad) = g_still
    ask_ok answer (Create k e class b size) = class_begins g order s_small t_small
    ask_ok answer (Delete k e) = class_begins g order s_small t_small
    ask_ok answer (SwapIn k) = class_begins g order s_small t_small
    ask_ok answer (SwapOut k) = class_begins g order s_small t_small
    ask_ok answer (Update k offset ws) = segment_begins k.seg g order s_small t_small
    ask_ok answer (Read k wanted t) = g_still
    ask_ok answer (Advance k) = g_still
    ask_ok answer (Ticket k) = g_still
    ask_ok answer (Out value) = g_still

    begin_outside : (child : Process) (o : Option ℕ) → stage g (begin_in p child o).running.doing ≡ Outside
    begin_outside child None = refl
    begin_outside child (Some slot) = refl

    fresh_ok : (answer : ℕ) (x : Plan) → After g w (plan_op s d p.ring x) Outside (stage g (plan_absorbed s d p free answer x).running.doing)
    fresh_ok answer (Own after) = g_still
    fresh_ok answer (Begin child) = rw (begin_outside child free) g_still
    fresh_ok answer (Ask q) = ask_ok answer q

    told_ok : (h : Guard) → w.finished h ≤ w.tickets h → w.started h < 2 ^ 64 - 1 → w.tickets h < 2 ^ 64 - 1 → (x : Doing Outcome) → OkAt h w (stage h x) →
        After h w (doing_op d x) (stage h x) (stage_told h (doing_told x (answer_to words d (doing_op d x))))
    told_ok OfClass a b c x ok = class_told d w words own a b c x ok
    told_ok (OfSegment v) a b c x ok = segment_told v d w words own a b c x ok

    -- the step of an instruction keeps the numbers of the guard
    pub doing_ok : (x : Doing Outcome) → OkAt g w (stage g x) →
        After g w (running_op s d p x) (stage g x) (stage g (doing_absorbed s d p free (answer_to words d (running_op s d p x)) x).running.doing)
    doing_ok Fresh ok = fresh_ok _ (plan s d p)
    doing_ok (LookSecond a b c e) ok = told_ok g order s_small t_small (LookSecond a b c e) ok
    doing_ok (LookBody a b c e) ok = told_ok g order s_small t_small (LookBody a b c e) ok
    doing_ok (OuterSecond a) ok = told_ok g order s_small t_small (OuterSecond a) ok
    doing_ok (OuterThird a b) ok = told_ok g order s_small t_small (OuterThird a b) ok
    doing_ok (OuterBody a b) ok = told_ok g order s_small t_small (OuterBody a b) ok
    doing_ok (InnerSecond a b c) ok = told_ok g order s_small t_small (InnerSecond a b c) ok
    doing_ok (InnerThird a b c e) ok = told_ok g order s_small t_small (InnerThird a b c e) ok
    doing_ok (InnerBody a b c e) ok = told_ok g order s_small t_small (InnerBody a b c e) ok
    doing_ok (Leaving a) ok = told_ok g order s_small t_small (Leaving a) ok

made_of_fits : (v : VirtualProcessor) (o : Option Outcome) → FitsMade v (made_of o)
made_of_fits v (Some (Printed place value)) = tt
made_of_fits v _ = tt

pub absorb_fits : (s : Shared) (d : ℕ) (v : VirtualProcessor) (p : Process) (answer : ℕ) (x : Doing Outcome) → FitsMade v (doing_absorbed s d p (free_slot v) answer x).made
absorb_fits s d v p answer Fresh = by_plan (plan s d p)
  where
    begun : (child : Process) (o : Option ℕ) → free_slot v ≡ o → FitsMade v (begin_in p child o).made
    begun child None e = tt
    begun child (Some slot) e = e

    by_plan : (y : Plan) → FitsMade v (plan_absorbed s d p (free_slot v) answer y).made
    by_plan (Own after) = tt
    by_plan (Begin child) = begun child (free_slot v) refl
    by_plan (Ask q) = made_of_fits v (act_told (act s d p.ring q) answer).takes
absorb_fits s d v p answer x = made_of_fits v (doing_told x answer).takes

-- the turns of a guard of a class, and that the numbers fit
pub record TurnsUpTo (n : ℕ) (g : Guard) (part : ClassPart) : Type 0 where
  pub turns : Turns g (count_inside g) (holding g) part
  pub started : part.words.started g ≤ n
  pub tickets : part.words.tickets g ≤ n

module _ (g : Guard) (s : Shared) (d n : ℕ) (words : ℕ → Words) (here : ClassPart) (own : words d ≡ here.words) (p : ℕ) (small : p < 4) (n_small : n < 2 ^ 64 - 1) (turns : TurnsUpTo n g here)
    (i : ℕ) (r : Running) (is : IsChosen (here.vp p) i r) where
  abbrev op : WordOp
  op = next_op s d r

  abbrev x : Absorbed
  x = absorb s d r (free_slot (here.vp p)) (answer_to words d op)

  pub step_ok : After g here.words op (stage g r.doing) (stage g x.running.doing)
  step_ok =
      let s_small : here.words.started g < 2 ^ 64 - 1 = omega (arith, turns.started, n_small) in
      let t_small : here.words.tickets g < 2 ^ 64 - 1 = omega (arith, turns.tickets, n_small) in
      let slot_ok : OkAt g here.words (stage g r.doing) = (rw is.there at (turns.turns.slots p i)) in
      doing_ok g s d here.words words own turns.turns.order s_small t_small r.process (free_slot (here.vp p)) r.doing slot_ok

  pub chosen_keeps : TurnsUpTo (n + 1) g (part_after s (words_after here.words op) here p i x)
  chosen_keeps =
      let ok : After g here.words op (stage g r.doing) (stage g x.running.doing) = step_ok in
      let made : FitsMade (here.vp p) x.made = absorb_fits s d (here.vp p) r.process (answer_to words d op) r.doing in
      let after : ClassPart = part_after s (words_after here.words op) here p i x in
      let count : count_inside g after + weight g (Some r) ≡ count_inside g here + weight g (Some x.running) =
      weight-after heft refl g s (words_after here.words op) here p i r x small is.there made in
      let held : holding g after + one_holding (stage g r.doing) ≡ holding g here + one_holding (stage g x.running.doing) =
      weight-after one_holding refl g s (words_after here.words op) here p i r x small is.there made in
      record {
        turns = turns_after g (count_inside g) (holding g) here after p i r x.running is.there (slots-after s (words_after here.words op) here p i r x is.there made)
            turns.turns ok.c_step ok.t_step (omega (arith, count, ok.balance, turns.turns.starts)) (omega (arith, held, ok.drawn, turns.turns.drawn)) ok.order ok.new_ok ok.new_held;
        started = omega (arith, ok.s_most, turns.started);
        tickets = omega (arith, ok.t_most, turns.tickets);
      }
