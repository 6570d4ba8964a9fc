-- The segment of which a process asks is one that it knows.
use Rattle.std.proofs.Common.{ℕ, ◌≡◌, refl, subst, Bool, true, false, List, Option, Some, None}
use Rattle.std.specs.Prelude.{if◌then◌else◌, slice_index_or}
use Rattle.policy.specs.Known.{Known, usable, signals}
use Rattle.policy.specs.Verdict.{first_broken}
use Rattle.policy.specs.declared.rule.Rule.{Rule}
use Rattle.script_lang.specs.declared.instr.Instr.{Instr}
use Rattle.script_lang.specs.declared.instr.Instr.TheVariants as I
use Rattle.class_model.specs.Config.{Shared, Script, flows, instr_at}
use Rattle.class_model.specs.Process.{Process, reg, known_at, usable_at, free_known}
use Rattle.class_model.specs.Plan.{Plan, Own, Begin, Ask, plan, plan_of, of_known, tried, spawned, Request, MakeKnown, Create, Delete, SwapIn, SwapOut, Fetch, Update, Read, Advance, Ticket, Out}
use Rattle.class_model.specs.Next.{request_of}
use Rattle.class_model.specs.declared.request.Request.{Request as Asked}
use Rattle.class_model.specs.declared.request.Request.TheVariants as A
use Rattle.process.specs.Running.{Running}
use Rattle.process.specs.Fits.{Fits}
use Rattle.process.specs.Asking.{AskedFits}

-- known under some number
abbrev Knows : Process → Known → Type 0
Knows p k = (i : ℕ) × (known_at p i ≡ Some k)

-- the segment of a request is known
abbrev pub IsOfKnown : Process → Request → Type 0
IsOfKnown p (MakeKnown k e mode) = Knows p k
IsOfKnown p (Create k e class b size) = Knows p k
IsOfKnown p (Delete k e) = Knows p k
IsOfKnown p (SwapIn k) = Knows p k
IsOfKnown p (SwapOut k) = Knows p k
IsOfKnown p (Fetch k offset count pad) = Knows p k
IsOfKnown p (Update k offset words) = Knows p k
IsOfKnown p (Read k wanted t) = Knows p k
IsOfKnown p (Advance k) = Knows p k
IsOfKnown p (Ticket k) = Knows p k
IsOfKnown p (Out value) = Unit {0}

-- likewise of a plan
abbrev pub PlanKnows : Process → Plan → Type 0
PlanKnows p (Ask request) = IsOfKnown p request
PlanKnows p _ = Unit {0}

by_signal : (j k : Known) (b : Bool) → (if b then None else Some j) ≡ Some k → Some j ≡ Some k
by_signal j k true e = cc
by_signal j k false e = e

usable_same : (o : Option Known) (k : Known) → usable o ≡ Some k → o ≡ Some k
usable_same None k e = cc
usable_same (Some j) k e = by_signal j k (signals j.rights) e

tried_knows : (p : Process) (o : Option Rule) (r : Request) → IsOfKnown p r → PlanKnows p (tried p o (Ask r))
tried_knows p None r h = h
tried_knows p (Some rule) r h = tt

of_knows : (p : Process) (o : Option Known) (tests : Known → List (Bool × Rule)) (request : Known → Request) → ((k : Known) → o ≡ Some k → IsOfKnown p (request k)) →
    PlanKnows p (of_known p o tests request)
of_knows p None tests request h = tt
of_knows p (Some k) tests request h = tried_knows p (first_broken (tests k)) (request k) (h k refl)

spawn_knows : (s : Shared) (d : ℕ) (p : Process) (n start : ℕ) (o : Option Script) → PlanKnows p (spawned s d p n start o)
spawn_knows s d p n start None = tt
spawn_knows s d p n start (Some script) = at (flows s script.class d)
  where
    at : (b : Bool) → PlanKnows p (if b then Begin (Rattle.class_model.specs.Process.new_process d n p.ring start) else Own (Rattle.class_model.specs.Process.refused p Rattle.policy.specs.declared.rule.Rule.TheVariants.NoScript))
    at true = tt
    at false = tt

module _ (s : Shared) (d : ℕ) (p : Process) where
  used : (a : ℕ) (k : Known) → usable_at p (reg p a) ≡ Some k → Knows p k
  used a k e = (reg p a, usable_same (known_at p (reg p a)) k e)

  plan_knows : (i : Instr) → PlanKnows p (plan_of s d p i)
  plan_knows (I.MakeKnown a b c) = of_knows p (usable_at p (reg p a)) _ (λ k. MakeKnown k (reg p b) (reg p c)) (used a)
  plan_knows (I.Create a b c x e) = of_knows p (usable_at p (reg p a)) _ (λ k. Create k (reg p b) (reg p c) (Rattle.policy.specs.Private.brackets_of (reg p x)) (reg p e)) (used a)
  plan_knows (I.Delete a b) = of_knows p (usable_at p (reg p a)) _ (λ k. Delete k (reg p b)) (used a)
  plan_knows (I.SwapIn a) = of_knows p (usable_at p (reg p a)) _ (λ k. SwapIn k) (used a)
  plan_knows (I.SwapOut a) = of_knows p (usable_at p (reg p a)) _ (λ k. SwapOut k) (used a)
  plan_knows (I.Fetch a b c x) = of_knows p (usable_at p (reg p a)) _ (λ k. Fetch k (reg p b) (reg p c) (reg p x)) (used a)
  plan_knows (I.Update a b c x) = of_knows p (usable_at p (reg p a)) _ (λ k. Update k (reg p b) (Rattle.lists.specs.Lists.part_of p.pad (reg p x) (reg p c))) (used a)
  plan_knows (I.Read a) = of_knows p (usable_at p (reg p a)) _ (λ k. Read k 0 (Rattle.class_model.specs.Process.tally_of p)) (used a)
  plan_knows (I.Await a b) = of_knows p (usable_at p (reg p a)) _ (λ k. Read k (reg p b) (Rattle.class_model.specs.Process.tally_of p)) (used a)
  plan_knows (I.Advance a) = of_knows p (known_at p (reg p a)) _ (λ k. Advance k) (λ k e. (reg p a, e))
  plan_knows (I.Ticket a) = of_knows p (usable_at p (reg p a)) _ (λ k. Ticket k) (used a)
  plan_knows (I.Spawn n b) = spawn_knows s d p n (reg p b) (slice_index_or s.scripts n None)
  plan_knows _ = tt

  asked_knows : (r : Request) → plan s d p ≡ Ask r → IsOfKnown p r
  asked_knows r e = subst (PlanKnows p) e (plan_knows (instr_at s p.script p.place))

-- so it fits
asked_fits_by : (s : Shared) (d : ℕ) (r : Running) → Fits s d r → (request : Asked) → IsOfKnown r.process (request_of r.process request) → AskedFits s d request
asked_fits_by s d r f (A.MakeKnown k e mode) h = f.known h.0 k h.1
asked_fits_by s d r f (A.Create k e class b size) h = f.known h.0 k h.1
asked_fits_by s d r f (A.Delete k e) h = f.known h.0 k h.1
asked_fits_by s d r f (A.SwapIn k) h = f.known h.0 k h.1
asked_fits_by s d r f (A.SwapOut k) h = f.known h.0 k h.1
asked_fits_by s d r f (A.Fetch k offset count pad) h = f.known h.0 k h.1
asked_fits_by s d r f (A.Update k offset count pad) h = f.known h.0 k h.1
asked_fits_by s d r f (A.Read k wanted tally) h = f.known h.0 k h.1
asked_fits_by s d r f (A.Advance k) h = f.known h.0 k h.1
asked_fits_by s d r f (A.Ticket k) h = f.known h.0 k h.1
asked_fits_by s d r f (A.Out value) h = tt

pub asked_fits : (s : Shared) (d : ℕ) (r : Running) (request : Asked) → Fits s d r → plan s d r.process ≡ Ask (request_of r.process request) → AskedFits s d request
asked_fits s d r request f e = asked_fits_by s d r f request (asked_knows s d r.process (request_of r.process request) e)
