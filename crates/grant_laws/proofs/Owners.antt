-- What changes a segment or the entries of a mentor is asked by a process of its class.
use Rattle.std.proofs.Common.{ℕ, Bool, true, false, [], ◌∷◌, ◌≡◌, refl, subst, Option, Some, None}
use Rattle.std.specs.Prelude.{◌==◌, if◌then◌else◌, take}
use Rattle.policy.specs.Known.{Known, modifies}
use Rattle.policy.specs.Outcome.{Outcome}
use Rattle.policy.specs.Verdict.{◌⇒◌}
use Rattle.policy.specs.declared.rule.Rule.TheVariants.{BadSize}
use Rattle.policy.specs.Private.{bounds_test, entry_test}
use Rattle.class_model.specs.Process.{Process, ProcName, known_at, usable_at}
use Rattle.class_model.specs.Plan.{Plan, Own, Begin, Ask, Request, MakeKnown, Create, Delete, SwapIn, SwapOut, Fetch, Update, Read, Advance, Ticket, Out, plan}
use Rattle.class_model.specs.State.{State, process_at}
use Rattle.class_model.specs.Step.{Deed, deed_of, deed_by, effect}
use Rattle.class_model.specs.Run.{history, opening}
use Rattle.effect_laws.proofs.CreateTests.{changes, may_create}
use Rattle.effect_laws.proofs.GateLaws.{usable_known}
use Rattle.effect_laws.proofs.Good.{Good}
use Rattle.effect_laws.proofs.Planned.{Planned, planned}
use Rattle.content_laws.proofs.History.{At, at_place}
use Rattle.grant_laws.specs.Grants.{IsOwn, ChangesAreOwn}

module _ (m : ℕ) (a : State) (good : Good m a) (n : ProcName) (p : Process) (there : process_at a n ≡ Some p) where
  own_class : (i : ℕ) (x : Known) → usable_at p i ≡ Some x → modifies x.rights ≡ true → x.class ≡ n.class
  own_class i x e w = ((good.processes n p there).known i x (usable_known (known_at p i) x e)).fits.modified w

  by_request : (q : Request) (o : Outcome) → Planned a.shared p q → IsOwn n.class (Some (q, o))
  by_request (Create x e class b size) o pl = own_class pl.0 x pl.2 (may_create a.shared.table p.ring e class size pl.1 x pl.4).0
  by_request (Delete x e) o pl = own_class pl.0 x pl.1 (changes p.ring x (entry_test e ∷ []) pl.2).0
  by_request (SwapIn x) o pl = own_class pl.0 x pl.1 (changes p.ring x ((x.size == 0 ⇒ BadSize) ∷ []) pl.2).0
  by_request (SwapOut x) o pl = own_class pl.0 x pl.1 (changes p.ring x [] pl.2).0
  by_request (Update x offset words) o pl = own_class pl.0 x pl.3 (changes p.ring x (bounds_test x offset pl.1 pl.2 ∷ []) pl.5).0
  by_request (MakeKnown x e mode) o pl = tt
  by_request (Fetch x offset count pad) o pl = tt
  by_request (Read x wanted t) o pl = tt
  by_request (Advance x) o pl = tt
  by_request (Ticket x) o pl = tt
  by_request (Out value) o pl = tt

  by_plan : (y : Plan) → plan a.shared n.class p ≡ y → IsOwn n.class (deed_of a n p y).asked
  by_plan (Own after) e = tt
  by_plan (Begin child) e = tt
  by_plan (Ask q) e = by_request q (effect a n.class p.ring q).outcome (planned a.shared n.class p q e)

  by_live : (b : Bool) (x : Deed) → (if b then Some (deed_of a n p (plan a.shared n.class p)) else None) ≡ Some x → IsOwn n.class x.asked
  by_live true x e = let same : deed_of a n p (plan a.shared n.class p) ≡ x = cc in subst (λ (x : Deed). IsOwn n.class x.asked) same (by_plan (plan a.shared n.class p) refl)
  by_live false x e = absurd (cc)

pub changes_are_own : ChangesAreOwn
changes_are_own k names valid i h e = by_process (process_at h.before h.who) refl place.made
  where
    place : At k (take i (history (opening k) names)) h
    place = (at_place k names valid i h e).0

    by_process : (o : Option Process) → process_at h.before h.who ≡ o → deed_by h.before h.who o ≡ Some h.deed → IsOwn h.who.class h.deed.asked
    by_process None f g = absurd (cc)
    by_process (Some p) f g = by_live place.steps h.before place.stands.good h.who p f p.live h.deed g
