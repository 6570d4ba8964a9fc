-- A step keeps what fits, whatever it is answered, and a process that it begins fits.
use Rattle.std.proofs.Common.{ℕ, ◌<◌, ◌≡◌, ap, subst, Option, Some, None}
use Rattle.policy.specs.Outcome.{Outcome, Printed}
use Rattle.turns.specs.Doing.{Doing, Fresh, doing_told, act_told}
use Rattle.class_model.specs.Config.{Shared, classes}
use Rattle.class_model.specs.Process.{Process, new_process}
use Rattle.class_model.specs.Plan.{Plan, Own, Begin, Ask, plan}
use Rattle.process.specs.Running.{Running, Child, made_of, act, begin_in, plan_absorbed, doing_absorbed, absorb}
use Rattle.class_model.specs.Shared.{UsesScript}
use Rattle.process.specs.Fits.{IsSound, Fits, MadeFits}
use Rattle.process.proofs.Told.{fresh, after_fits, after_makes, doing_tells, act_tells, replied}
use Rattle.process.proofs.Planning.{PlanFits, plan_fits, new_fits}

-- between two instructions
pub begun_anew : (s : Shared) (d : ℕ) (p : Process) (x : Doing Outcome) → Fits s d (record { process = p; doing = x }) → Fits s d (fresh p)
begun_anew s d p x f = record { class = f.class; place = f.place; returns = f.returns; known = f.known; doing = tt; goes_on = tt }

module _ (s : Shared) (good : IsSound s) (d : ℕ) where
  module _ (p : Process) (f : Fits s d (fresh p)) (free : Option ℕ) (answer : ℕ) where
    planned_after : (x : Plan) → PlanFits s d p x → Fits s d (plan_absorbed s d p free answer x).running
    planned_after (Own after) h = h
    planned_after (Begin child) h = begun free
      where
        begun : (o : Option ℕ) → Fits s d (begin_in p child o).running
        begun None = replied s d p f h.1 27 0
        begun (Some slot) = replied s d p f h.1 0 slot
    planned_after (Ask request) h = after_fits s d p (act_told (act s d p.ring request) answer) f (act_tells s d p (act s d p.ring request) answer h.0 h.1)

    planned_makes : (x : Plan) → PlanFits s d p x → MadeFits s d (plan_absorbed s d p free answer x).made
    planned_makes (Own after) h = tt
    planned_makes (Begin child) h = begun free
      where
        begun : (o : Option ℕ) → MadeFits s d (begin_in p child o).made
        begun None = tt
        begun (Some slot) = h.0
    planned_makes (Ask request) h = after_makes s d p (act_told (act s d p.ring request) answer) (act_tells s d p (act s d p.ring request) answer h.0 h.1)

  doing_after : (p : Process) (free : Option ℕ) (answer : ℕ) (x : Doing Outcome) → Fits s d (record { process = p; doing = x }) → Fits s d (doing_absorbed s d p free answer x).running
  doing_after p free answer Fresh f = planned_after p f free answer (plan s d p) (plan_fits s good d p f)
  doing_after p free answer x f = after_fits s d p (doing_told x answer) (begun_anew s d p x f) (doing_tells s d p x answer f.doing f.goes_on)

  doing_makes : (p : Process) (free : Option ℕ) (answer : ℕ) (x : Doing Outcome) → Fits s d (record { process = p; doing = x }) → MadeFits s d (doing_absorbed s d p free answer x).made
  doing_makes p free answer Fresh f = planned_makes p f free answer (plan s d p) (plan_fits s good d p f)
  doing_makes p free answer x f = after_makes s d p (doing_told x answer) (doing_tells s d p x answer f.doing f.goes_on)

  -- a step keeps what fits
  pub fits_after : (r : Running) (free : Option ℕ) (answer : ℕ) → Fits s d r → Fits s d (absorb s d r free answer).running
  fits_after r free answer f = doing_after r.process free answer r.doing f

  -- and what it gives beside fits
  pub made_fits : (r : Running) (free : Option ℕ) (answer : ℕ) → Fits s d r → MadeFits s d (absorb s d r free answer).made
  made_fits r free answer f = doing_makes r.process free answer r.doing f

  -- so a process that it begins fits
  pub child_fits : (r : Running) (free : Option ℕ) (answer : ℕ) → Fits s d r → (slot : ℕ) (c : Process) → (absorb s d r free answer).made ≡ Child slot c → Fits s d (fresh c)
  child_fits r free answer f slot c e = subst (MadeFits s d) e (made_fits r free answer f)

  -- a process at the start of a script that is there and at or below its class fits
  pub opening_fits : (n ring start : ℕ) → d < classes s → UsesScript s d n → Fits s d (fresh (new_process d n ring start))
  opening_fits n ring start below h = new_fits s good d n ring start below h

-- ---- the slot of a new process

made_slot : (o : Option Outcome) (slot : ℕ) (c : Process) → made_of o ≡ Child slot c → ⊥
made_slot None slot c e = cc
made_slot (Some (Printed place value)) slot c e = cc
made_slot (Some _) slot c e = cc

begun_slot : (p child : Process) (free : Option ℕ) (slot : ℕ) (c : Process) → (begin_in p child free).made ≡ Child slot c → free ≡ Some slot
begun_slot p child None slot c e = absurd (cc)
begun_slot p child (Some n) slot c e = let same : n ≡ slot = cc in ap Some same

module _ (s : Shared) (d : ℕ) (free : Option ℕ) (answer slot : ℕ) (c : Process) where
  planned_slot : (p : Process) (x : Plan) → (plan_absorbed s d p free answer x).made ≡ Child slot c → free ≡ Some slot
  planned_slot p (Own after) e = absurd (cc)
  planned_slot p (Begin child) e = begun_slot p child free slot c e
  planned_slot p (Ask request) e = absurd (made_slot (act_told (act s d p.ring request) answer).takes slot c e)

  doing_slot : (p : Process) (x : Doing Outcome) → (doing_absorbed s d p free answer x).made ≡ Child slot c → free ≡ Some slot
  doing_slot p Fresh e = planned_slot p (plan s d p) e
  doing_slot p x e = absurd (made_slot (doing_told x answer).takes slot c e)

  -- a new process stands in the slot that was free
  pub child_in_free : (r : Running) → (absorb s d r free answer).made ≡ Child slot c → free ≡ Some slot
  child_in_free r e = doing_slot r.process r.doing e
