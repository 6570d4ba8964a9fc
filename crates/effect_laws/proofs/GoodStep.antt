-- Each step of the machine of whole instructions leaves a good state.
use Rattle.std.proofs.Common.{ℕ, ◌+◌, Bool, true, false, List, ◌≡◌, refl, ap, subst, ◌∙◌, Option, Some, None, inl, inr, arith}
use Rattle.std.specs.Prelude.{◌==◌, if◌then◌else◌, slice_index_or, slice_set, is_none}
use Rattle.std.specs.List.{position}
use Rattle.lists.specs.Lists.{put}
use Rattle.policy.specs.declared.rule.Rule.TheVariants.{NoSlot}
use Rattle.policy.specs.Outcome.{Outcome, Value, Refused}
use Rattle.class_model.specs.Process.{Process, ProcName, refused, answered, settled}
use Rattle.class_model.specs.Plan.{Plan, Own, Begin, Ask, Request, MakeKnown, Create, Delete, SwapIn, SwapOut, Fetch, Update, Read, Advance, Ticket, Out, plan}
use Rattle.class_model.specs.State.{State, Part, with_process, with_part, process_at}
use Rattle.class_model.specs.Step.{deed_of, deed_by, done, step, effect, begun}
use Rattle.process.specs.Fits.{Fits, PlaceFits}
use Rattle.process.proofs.Planning.{PlanFits, plan_fits}
use Rattle.effect_laws.proofs.Good.{Given, ProcessGood, Good, at_rest}
use Rattle.effect_laws.proofs.Planned.{planned}
use Rattle.effect_laws.proofs.Committed.{put-here}
use Rattle.effect_laws.proofs.Growing.{Grows, keeps_all, grow_cell, grow_process, good_with, good_more, set-read, by_put}
use Rattle.effect_laws.proofs.GoodSettled.{settled_good, own_good, begun_good}
use Rattle.effect_laws.proofs.GoodEffects.{EffectGood, make_known_effect_good, delete_effect_good, swap_in_effect_good, swap_out_effect_good, fetch_effect_good, update_effect_good, read_effect_good, advance_effect_good, ticket_effect_good, out_effect_good}
use Rattle.effect_laws.proofs.GoodCreate.{create_effect_good}

-- the part with other processes
abbrev with_slots : Part → (ℕ → List (Option Process)) → Part
with_slots part slots = record part { slots = slots }

-- other processes, all good
good_slots : (n : ℕ) (a : State) (good : Good n a) (d : ℕ) (slots : ℕ → List (Option Process)) →
    ((p i : ℕ) (q : Process) → slice_index_or (slots p) i None ≡ Some q → ProcessGood good.given a d q) → Good n (with_part a d (with_slots (a.part d) slots))
good_slots n a good d slots h = good_with n n (omega arith) a good d (with_slots (a.part d) slots) good.given grows (good.serials d)
    (λ u. grow_cell good.given good.given a (put a.part d (with_slots (a.part d) slots)) grows n n (omega arith) d u ((a.part d).cell u) (good.cells d u))
    (λ p i q e. grow_process good.given good.given a (put a.part d (with_slots (a.part d) slots)) grows d q (h p i q e)) (good.used d) (good.components d)
  where
    grows : Grows good.given good.given a (put a.part d (with_slots (a.part d) slots))
    grows = keeps_all good.given a d (with_slots (a.part d) slots) (omega arith)

-- a process in a slot, and the others as they were
slot_read : (t : Given) (a : State) (d : ℕ) (slots : ℕ → List (Option Process)) (p i : ℕ) (q : Process) → ProcessGood t a d q →
    ((x j : ℕ) (r : Process) → slice_index_or (slots x) j None ≡ Some r → ProcessGood t a d r) →
    (x j : ℕ) (r : Process) → slice_index_or (put slots p (slice_set (slots p) i (Some q)) x) j None ≡ Some r → ProcessGood t a d r
slot_read t a d slots p i q pg others x j r = by_put (λ x (z : List (Option Process)). slice_index_or z j None ≡ Some r → ProcessGood t a d r) slots p (slice_set (slots p) i (Some q)) x
    (λ h. elim (set-read (slots p) i j (Some q) r h) [
      | inl e ↦ (let same : q ≡ r = cc in subst (ProcessGood t a d) same pg)
      | inr e ↦ others p j r e
    ])
    (λ e. others x j r)

-- a part that is put in the place of another
put_twice : (a : State) (d : ℕ) (X Y : Part) → with_part (with_part a d X) d Y ≡ with_part a d Y
put_twice a d X Y = λ k. record { shared = a.shared; part = λ c. same c k }
  where
    same : (c : ℕ) → put (put a.part d X) d Y c ≡ put a.part d Y c
    same c = elim (c == d) as (λ b. (if b then Y else (if b then X else a.part c)) ≡ (if b then Y else a.part c)) [ true ↦ refl | false ↦ refl ]

module _ (n : ℕ) (a : State) (good : Good n a) (name : ProcName) (p : Process) (there : process_at a name ≡ Some p) where
  abbrev d : ℕ
  d = name.class

  pg : ProcessGood good.given a name.class p
  pg = good.processes name p there

  others : (x j : ℕ) (r : Process) → slice_index_or ((a.part name.class).slots x) j None ≡ Some r → ProcessGood good.given a name.class r
  others x j r h = good.processes (record { processor = x; class = name.class; slot = j }) r h

  planned_fits : PlanFits a.shared name.class p (plan a.shared name.class p)
  planned_fits = plan_fits a.shared good.sound name.class p pg.fits

  -- one process, settled by an outcome by which it learns nothing
  answered_good : (o : Outcome) → PlaceFits a.shared name.class p.script (p.place + 1) → Rattle.process.specs.Fits.OutcomeFits a.shared name.class o →
      Rattle.effect_laws.proofs.GoodSettled.LearnsGood good.given a name.class o → ProcessGood good.given a name.class (settled p o)
  answered_good o next fits h = settled_good good.given a name.class p pg o next fits h

  begun_state : (child : Process) → plan a.shared name.class p ≡ Begin child → Fits a.shared name.class (at_rest child) → PlaceFits a.shared name.class p.script (p.place + 1) →
      (o : Option ℕ) → Good n (with_part a name.class (begun (a.part name.class) name p child o))
  begun_state child e fits next None = good_slots n a good name.class _
      (slot_read good.given a name.class (a.part name.class).slots name.processor name.slot (refused p NoSlot) (answered_good (Refused NoSlot) next tt tt) others)
  begun_state child e fits next (Some slot) = good_slots n a good name.class _
      (slot_read good.given a name.class (with_process (a.part name.class) name.processor name.slot (answered p slot)).slots name.processor slot child
      (begun_good good.given a name.class p pg good.root child e fits)
      (slot_read good.given a name.class (a.part name.class).slots name.processor name.slot (answered p slot) (answered_good (Value slot) next tt tt) others))

  effect_good : (q : Request) → plan a.shared name.class p ≡ Ask q → EffectGood n a name.class (effect a name.class p.ring q)
  effect_good (MakeKnown k e mode) h = make_known_effect_good n a good name.class p pg k e mode (planned a.shared name.class p _ h)
  effect_good (Create k e class b size) h = create_effect_good n a good name.class p pg k e class b size (planned a.shared name.class p _ h)
  effect_good (Delete k e) h = delete_effect_good n a good name.class p pg k e
  effect_good (SwapIn k) h = swap_in_effect_good n a good name.class p pg k (planned a.shared name.class p _ h)
  effect_good (SwapOut k) h = swap_out_effect_good n a good name.class p pg k
  effect_good (Fetch k offset count pad) h = fetch_effect_good n a good name.class p pg k offset count pad
  effect_good (Update k offset words) h = update_effect_good n a good name.class p pg k offset words
  effect_good (Read k wanted t) h = read_effect_good n a good name.class p pg k wanted t
  effect_good (Advance k) h = advance_effect_good n a good name.class p pg k
  effect_good (Ticket k) h = ticket_effect_good n a good name.class p pg k
  effect_good (Out value) h = out_effect_good n a good name.class p pg value

  -- the process behind its request
  asked_state : (q : Request) → plan a.shared name.class p ≡ Ask q → PlaceFits a.shared name.class p.script (p.place + 1) →
      Good (n + 1) (with_part a name.class (with_process (effect a name.class p.ring q).part name.processor name.slot (settled p (effect a name.class p.ring q).outcome)))
  asked_state q e next = subst (Good (n + 1)) (ap (λ (z : Part). with_part (with_part a name.class E) name.class (with_process z name.processor name.slot (settled p o))) (put-here a.part name.class E)
      ∙ put_twice a name.class E (with_process E name.processor name.slot (settled p o)))
      (good_slots (n + 1) (with_part a name.class E) g name.class _
      (slot_read g.given (with_part a name.class E) name.class ((with_part a name.class E).part name.class).slots name.processor name.slot (settled p o) now
      (λ x j r h. g.processes (record { processor = x; class = name.class; slot = j }) r h)))
    where
      E : Part
      E = (effect a name.class p.ring q).part

      o : Outcome
      o = (effect a name.class p.ring q).outcome

      ok : EffectGood n a name.class (effect a name.class p.ring q)
      ok = effect_good q e

      g : Good (n + 1) (with_part a name.class (effect a name.class p.ring q).part)
      g = ok.good

      same_slots : ((put a.part name.class (effect a name.class p.ring q).part name.class).slots) ≡ (a.part name.class).slots
      same_slots = ap (λ (z : Part). z.slots) (put-here a.part name.class (effect a name.class p.ring q).part) ∙ ok.slots

      still : process_at (with_part a name.class (effect a name.class p.ring q).part) name ≡ Some p
      still = ap (λ (f : ℕ → List (Option Process)). slice_index_or (f name.processor) name.slot None) same_slots ∙ there

      now : ProcessGood g.given (with_part a name.class (effect a name.class p.ring q).part) name.class (settled p (effect a name.class p.ring q).outcome)
      now = settled_good g.given (with_part a name.class (effect a name.class p.ring q).part) name.class p (g.processes name p still) (effect a name.class p.ring q).outcome next ok.fits ok.learns

  by_plan : (y : Plan) → plan a.shared name.class p ≡ y → Good (n + 1) (with_part a name.class (deed_of a name p y).part)
  by_plan (Own after) e = good_more n _ (good_slots n a good name.class _
      (slot_read good.given a name.class (a.part name.class).slots name.processor name.slot after (own_good good.given a name.class p pg after e (subst (PlanFits a.shared name.class p) e planned_fits)) others))
  by_plan (Begin child) e = let fits = subst (PlanFits a.shared name.class p) e planned_fits in
      good_more n _ (begun_state child e fits.0 fits.1 (position (λ q. is_none q) ((a.part name.class).slots name.processor)))
  by_plan (Ask q) e = let fits = subst (PlanFits a.shared name.class p) e planned_fits in asked_state q e fits.1

  by_live : (b : Bool) → Good (n + 1) (done a name.class (if b then Some (deed_of a name p (plan a.shared name.class p)) else None))
  by_live true = by_plan (plan a.shared name.class p) refl
  by_live false = good_more n a good

pub good_step : (n : ℕ) (a : State) (name : ProcName) → Good n a → Good (n + 1) (step a name)
good_step n a name good = by_process (process_at a name) refl
  where
    by_process : (o : Option Process) → process_at a name ≡ o → Good (n + 1) (done a name.class (deed_by a name o))
    by_process None e = good_more n a good
    by_process (Some p) e = by_live n a good name p e p.live
