-- A process that fits names only words within the limits, and loads only from classes at or below its own.
use Rattle.std.proofs.Common.{ℕ, ◌<◌, true, ◌≡◌, refl}
use Rattle.std.specs.Prelude.{nat_lt}
use Rattle.std.proofs.lemmas.Bool.{and_from, lt-ltb}
use Rattle.labels.proofs.Tables.{class_reflexive}
use Rattle.words_layout.specs.Words.{Guard, OfClass, OfSegment, Word, WordOp, Finished, Guarded}
use Rattle.words_layout.specs.Limits.{identity_in_limits, word_in_limits, op_in_limits}
use Rattle.words_layout.specs.declared.segment.SegId.{SegId}
use Rattle.policy.specs.Outcome.{Outcome}
use Rattle.turns.specs.Bodies.{Loads, Inner, Outer}
use Rattle.turns.specs.Doing.{Doing, Fresh, LookSecond, LookBody, OuterSecond, OuterThird, OuterBody, InnerSecond, InnerThird, InnerBody, Leaving, Act, Once, Look, ClassTurn, SegmentTurn, act_op, look_op, outer_op, inner_op}
use Rattle.class_model.specs.Config.{Shared, classes}
use Rattle.class_model.specs.Process.{Process}
use Rattle.class_model.specs.Plan.{Plan, Own, Begin, Ask, plan}
use Rattle.process.specs.Running.{Running, act, plan_op, running_op, next_op}
use Rattle.process.specs.Fits.{IsSound, Fits, LookFits, OuterFits, InnerFits, OpFits}
use Rattle.process.proofs.Told.{ActFits}
use Rattle.process.proofs.Planning.{PlanFits, plan_fits}
use Rattle.process.proofs.Keeping.{begun_anew}

-- the layout of the table's classes has the word of an operation that fits
pub fitting_within : (s : Shared) (d : ℕ) (op : WordOp) → OpFits s d op → op_in_limits (classes s) op ≡ true
fitting_within s d WordOp.Nothing h = refl
fitting_within s d (WordOp.Load class word) h = and_from (nat_lt class (classes s)) (word_in_limits word) (lt-ltb class (classes s) h.0) h.2
fitting_within s d (WordOp.Store word v) h = h
fitting_within s d (WordOp.Add word v) h = h

module _ (s : Shared) (good : IsSound s) (d : ℕ) where
  act_loads : (p : Process) (act : Act Outcome) → ActFits s d p act → OpFits s d (act_op act)
  act_loads p (Once op told) h = h.0
  act_loads p (Look class g body) h = (h.class, h.flows_up, h.guard)
  act_loads p (ClassTurn body) h = refl
  act_loads p (SegmentTurn u body) h = h.0

  plan_loads : (p : Process) (x : Plan) → PlanFits s d p x → OpFits s d (plan_op s d p.ring x)
  plan_loads p (Own after) h = tt
  plan_loads p (Begin child) h = tt
  plan_loads p (Ask request) h = act_loads p (act s d p.ring request) h.0

  look_loads : (x : ℕ) (g : Guard) (rest : Loads Outcome) → LookFits s d x g rest → OpFits s d (look_op x g rest)
  look_loads x g (Loads.Load w onward) h = (h.class, h.flows_up, h.shows.0)
  look_loads x g (Loads.Shows shown) h = (h.class, h.flows_up, h.guard)

  module _ (below : d < classes s) where
    -- a word of the own class
    own_loads : (word : Word) → word_in_limits word ≡ true → OpFits s d (WordOp.Load d word)
    own_loads word h = (below, class_reflexive s.table d, h)

    outer_loads : (rest : Outer Outcome) → OuterFits s d rest → OpFits s d (outer_op d rest)
    outer_loads (Outer.Load w onward) h = own_loads (Guarded w) h.0
    outer_loads (Outer.Store w v rest) h = h.0
    outer_loads (Outer.Enter u body) h = h.0
    outer_loads (Outer.Shows shown) h = refl

    inner_loads : (u : SegId) (rest : Inner Outcome) → identity_in_limits u ≡ true → InnerFits s d rest → OpFits s d (inner_op d u rest)
    inner_loads u (Inner.Load w onward) g h = own_loads (Guarded w) h.0
    inner_loads u (Inner.Store w v rest) g h = h.0
    inner_loads u (Inner.Add w v onward) g h = h.0
    inner_loads u (Inner.Shows shown) g h = g

  doing_loads : (p : Process) (x : Doing Outcome) → Fits s d (record { process = p; doing = x }) → OpFits s d (running_op s d p x)
  doing_loads p Fresh f = plan_loads p (plan s d p) (plan_fits s good d p (begun_anew s d p Fresh f))
  doing_loads p (LookSecond x g k body) f = (f.doing.class, f.doing.flows_up, f.doing.guard)
  doing_loads p (LookBody x g k rest) f = look_loads x g rest f.doing
  doing_loads p (OuterSecond body) f = refl
  doing_loads p (OuterThird t body) f = own_loads f.class (Finished OfClass) refl
  doing_loads p (OuterBody t rest) f = outer_loads f.class rest f.doing
  doing_loads p (InnerSecond within u body) f = f.doing.0
  doing_loads p (InnerThird within u t body) f = own_loads f.class (Finished (OfSegment u)) f.doing.0
  doing_loads p (InnerBody within u t rest) f = inner_loads f.class u rest f.doing.0 f.doing.1
  doing_loads p (Leaving t) f = refl

  -- the word that its next operation names is within the limits; one that it loads is of a class that is there, at or below its own
  pub op_fits : (r : Running) → Fits s d r → OpFits s d (next_op s d r)
  op_fits r f = doing_loads r.process r.doing f

  -- so the layout of the table's classes has it
  pub op_within : (r : Running) → Fits s d r → op_in_limits (classes s) (next_op s d r) ≡ true
  op_within r f = fitting_within s d (next_op s d r) (op_fits r f)
