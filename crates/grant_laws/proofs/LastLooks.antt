-- The last look of a read counts exactly where what its looks saw is at least what is wanted.
use Rattle.std.proofs.Common.{ℕ, ◌+◌, ◌%◌, ◌^◌, ◌<◌, ◌≤◌, Bool, true, false, List, ◌≡◌, refl, ap, subst, ◌∙◌, Option, Some, None, arith, length}
use Rattle.std.specs.Prelude.{if◌then◌else◌, nat_lt, reverse, take, slice_index}
use Rattle.std.proofs.lemmas.Bool.{ltb-false, ltb-true}
use Rattle.std.proofs.lemmas.List.{take_all, length-take}
use Rattle.std.proofs.Math.Nat.{mod-eq_of_lt}
use Rattle.labels.specs.Label.{ClassEntry}
use Rattle.policy.specs.Known.{Known}
use Rattle.policy.specs.Outcome.{Outcome, Looked, Counted, Tally, components}
use Rattle.class_model.specs.Config.{Config}
use Rattle.class_model.specs.Process.{Process, ProcName, known_at}
use Rattle.class_model.specs.Plan.{Plan, Own, Begin, Ask, Request, MakeKnown, Create, Delete, SwapIn, SwapOut, Fetch, Update, Read, Advance, Ticket, Out, plan}
use Rattle.class_model.specs.State.{State, process_at, component_at}
use Rattle.class_model.specs.Step.{Deed, deed_of, deed_by, effect}
use Rattle.class_model.specs.Run.{Happened, history, opening}
use Rattle.class_model.specs.Access.{all_given}
use Rattle.class_model.specs.Content.{advances_in, looked_at}
use Rattle.effect_laws.proofs.GateLaws.{usable_known}
use Rattle.effect_laws.proofs.Planned.{Planned, planned}
use Rattle.content_laws.proofs.Tallies.{looked_few}
use Rattle.content_laws.proofs.Looks.{some_component, summed, seen_inside}
use Rattle.content_laws.proofs.Steps.{of_given}
use Rattle.content_laws.proofs.History.{Stands, At, at_place}
use Rattle.grant_laws.specs.Grants.{IsCounted, ReadsAreCounted}

module _ (k : Config) (past : List Happened) (m : ℕ) (a : State) (z : Stands k m past a) (few : length past < 2 ^ 64) (n : ProcName) (p : Process) (there : process_at a n ≡ Some p) where
  module _ (i : ℕ) (x : Known) (wanted : ℕ) (t : Tally) (e : known_at p i ≡ Some x) (asks : plan a.shared n.class p ≡ Ask (Read x wanted t)) where
    some : 0 < length (components a.shared.table x.class)
    some = some_component a.shared.table z.good.sound.table x.class (((z.good.processes n p there).known i x e).fits.class)

    told : (c : ℕ) → component_at a c x.class x.seg ≡ advances_in c x.seg past
    told c = z.shown.components c x.class x.seg (of_given (all_given k past) x (z.told.processes n p there i x e).given)

    abbrev sum : ℕ
    sum = (t.sum + component_at a (slice_index (components a.shared.table x.class) t.seen) x.class x.seg) % 2 ^ 64

    abbrev seen : ℕ
    seen = looked_at x.seg n (reverse (components a.shared.table x.class)) (reverse past)

    is_sum : length (components a.shared.table x.class) ≤ t.seen + 1 → sum ≡ seen
    is_sum last =
        let inside = seen_inside past a n p (z.looks n p there) x wanted t asks some told in
        let whole : take (t.seen + 1) (components a.shared.table x.class) ≡ components a.shared.table x.class = take_all (t.seen + 1) (components a.shared.table x.class) last in
        let bound = looked_few a.shared.table x.class x.seg n past in
        let small : looked_at x.seg n (reverse (components a.shared.table x.class)) (reverse past) < 2 ^ 64 = omega (arith, bound, few) in
        summed past a n p (z.looks n p there) x wanted t asks some told
        ∙ ap (λ l. looked_at x.seg n (reverse l) (reverse past) % 2 ^ 64) whole ∙ mod-eq_of_lt small

    abbrev Tells : Outcome → Type 0
    Tells o = (t.seen + 1 < length (components a.shared.table x.class) → (t' : Tally) × (o ≡ Looked (Some t'))) ×
        (length (components a.shared.table x.class) ≤ t.seen + 1 → (wanted ≤ seen → o ≡ Counted seen) × (seen < wanted → o ≡ Looked None))

    by_tests : (b c : Bool) → nat_lt (t.seen + 1) (length (components a.shared.table x.class)) ≡ b → nat_lt sum wanted ≡ c →
        Tells (if b then Looked (Some (record { seen = t.seen + 1; sum = sum })) else (if c then Looked None else Counted sum))
    by_tests true c f g = ((λ h. (record { seen = t.seen + 1; sum = sum }, refl)), (λ h. (let l = ltb-true (t.seen + 1) _ f in absurd (omega (arith, h, l)))))
    by_tests false true f g = (
      (λ h. (let l = ltb-false (t.seen + 1) _ f in absurd (omega (arith, h, l)))),
      (λ h. ((λ w. (let l = ltb-true sum wanted g in let s = is_sum h in absurd (omega (arith, w, l, s)))), (λ w. refl))),
    )
    by_tests false false f g = (
      (λ h. (let l = ltb-false (t.seen + 1) _ f in absurd (omega (arith, h, l)))),
      (λ h. ((λ w. ap (λ n. Counted n) (is_sum h)), (λ w. (let l = ltb-false sum wanted g in let s = is_sum h in absurd (omega (arith, w, l, s)))))),
    )

    read_counted : IsCounted k past n (Some (Read x wanted t, (effect a n.class p.ring (Read x wanted t)).outcome))
    read_counted = subst (λ (l : List ClassEntry). IsCounted (record k { table = l }) past n (Some (Read x wanted t, (effect a n.class p.ring (Read x wanted t)).outcome))) z.table (by_tests _ _ refl refl)

  by_request : (q : Request) → plan a.shared n.class p ≡ Ask q → Planned a.shared p q → IsCounted k past n (Some (q, (effect a n.class p.ring q).outcome))
  by_request (Read x wanted t) e pl = read_counted pl.0 x wanted t (usable_known (known_at p pl.0) x pl.1) e
  by_request (MakeKnown x i mode) e pl = tt
  by_request (Create x i class b size) e pl = tt
  by_request (Delete x i) e pl = tt
  by_request (SwapIn x) e pl = tt
  by_request (SwapOut x) e pl = tt
  by_request (Fetch x offset count pad) e pl = tt
  by_request (Update x offset words) e pl = tt
  by_request (Advance x) e pl = tt
  by_request (Ticket x) e pl = tt
  by_request (Out value) e pl = tt

  by_plan : (y : Plan) → plan a.shared n.class p ≡ y → IsCounted k past n (deed_of a n p y).asked
  by_plan (Own after) e = tt
  by_plan (Begin child) e = tt
  by_plan (Ask q) e = by_request q e (planned a.shared n.class p q e)

  by_live : (b : Bool) (x : Deed) → (if b then Some (deed_of a n p (plan a.shared n.class p)) else None) ≡ Some x → IsCounted k past n x.asked
  by_live true x e = let same : deed_of a n p (plan a.shared n.class p) ≡ x = cc in subst (λ (x : Deed). IsCounted k past n x.asked) same (by_plan (plan a.shared n.class p) refl)
  by_live false x e = absurd (cc)

pub reads_are_counted : ReadsAreCounted
reads_are_counted k names valid few i h e =
    let run : List Happened = history (opening k) names in
    let found = at_place k names valid i h e in
    let place : At k (take i run) h = found.0 in
    let inside : i < length names = found.1 in
    let front = length-take i run in
    by_process place.stands (omega (arith, few, inside, front)) (process_at h.before h.who) refl place.made
  where
    by_process : {m : ℕ} → Stands k m (take i (history (opening k) names)) h.before → length (take i (history (opening k) names)) < 2 ^ 64 → (o : Option Process) → process_at h.before h.who ≡ o → deed_by h.before h.who o ≡ Some h.deed →
        IsCounted k (take i (history (opening k) names)) h.who h.deed.asked
    by_process z few None f g = absurd (cc)
    by_process {m} z few (Some p) f g = by_live k (take i (history (opening k) names)) m h.before z few h.who p f p.live h.deed g
