-- Each identity is given once at most.
use Rattle.std.proofs.Common.{ℕ, ◌+◌, ◌<◌, Bool, true, false, not, List, [], ◌∷◌, ◌++◌, ◌≡◌, refl, sym, ap, subst, ◌∙◌, Option, Some, None, ◌⊎◌, inl, inr, append_assoc, map, arith}
use Rattle.std.specs.Prelude.{if◌then◌else◌, cond, nat_le, is_some}
use Rattle.std.specs.List.{list_all}
use Rattle.std.proofs.lemmas.Bool.{and_parts, and_from, both_ways, false_from_ne_true}
use Rattle.std.proofs.lemmas.List.{append-nil}
use Rattle.words_layout.specs.Segments.{seg, same_seg}
use Rattle.words_layout.specs.declared.segment.SegId.{SegId}
use Rattle.words_layout.proofs.Names.{same_seg-true, same_seg-refl}
use Rattle.policy.specs.Known.{Known}
use Rattle.policy.specs.Outcome.{Value}
use Rattle.policy.specs.Verdict.{first_broken, ◌⇒◌}
use Rattle.policy.specs.declared.rule.Rule.{Rule}
use Rattle.policy.specs.declared.rule.Rule.TheVariants.{Gone, EntryTaken, SerialsUsed}
use Rattle.rings.specs.Brackets.{Brackets}
use Rattle.class_model.specs.Config.{Config, SegRecord}
use Rattle.class_model.specs.Process.{Process, ProcName}
use Rattle.class_model.specs.Plan.{Plan, Own, Begin, Ask, Request, MakeKnown, Create, Delete, SwapIn, SwapOut, Fetch, Update, Read, Advance, Ticket, Out, plan}
use Rattle.class_model.specs.State.{State, Part, entry_at, is_deleted, process_at}
use Rattle.class_model.specs.Step.{Deed, chosen, deed, deed_of, deed_by, done, effect}
use Rattle.class_model.specs.Run.{Happened, happened, history, opening}
use Rattle.class_model.specs.Valid.{IsConfig, record_ok}
use Rattle.class_model.specs.Access.{Given, given_record, given_to, all_given}
use Rattle.flow_laws.proofs.FlowLaws.{records_ok}
use Rattle.report_laws.proofs.Paged.{segs_apart}
use Rattle.report_laws.proofs.Recorded.{valid_records}
use Rattle.access_laws.proofs.Told.{Told}
use Rattle.access_laws.proofs.Effects.{given_by}
use Rattle.access_laws.proofs.Steps.{given_deed}
use Rattle.access_laws.proofs.Opening.{given_first}
use Rattle.content_laws.specs.Contents.{given_once, IdentitiesAreGivenOnce}
use Rattle.content_laws.proofs.Steps.{StepShown, step_shown}
use Rattle.report_laws.proofs.Recorded.{record_stands}
use Rattle.content_laws.proofs.History.{Stands, opening_stands, stands_step, given_push}

-- nothing, or one identity that was not given before
abbrev New : List Given → List Given → Type 0
New all more = (more ≡ []) ⊎ ((g : Given) × (more ≡ g ∷ []) × (given_to all g.seg ≡ None))

seg_flip_true : (u v : SegId) → same_seg u v ≡ true → same_seg v u ≡ true
seg_flip_true u v h = subst (λ z. same_seg v z ≡ true) (sym (same_seg-true u v h)) (same_seg-refl v)

not_by : (b : Bool) → b ≡ false → not b ≡ true
not_by b e = rw e refl

-- one more at the end that was not given
all_push : (g x : Given) (all : List Given) → list_all (λ (x : Given). not (same_seg x.seg g.seg)) all ≡ true → same_seg x.seg g.seg ≡ false → list_all (λ (x : Given). not (same_seg x.seg g.seg)) (all ++ x ∷ []) ≡ true
all_push g x [] h e = and_from _ _ (not_by (same_seg x.seg g.seg) e) refl
all_push g x (y ∷ all) h e = let parts : (not (same_seg y.seg g.seg) ≡ true) × (list_all (λ (x : Given). not (same_seg x.seg g.seg)) all ≡ true) = and_parts _ _ h in
    and_from _ _ parts.0 (all_push g x all parts.1 e)

once_push : (all : List Given) (x : Given) → given_once all ≡ true → given_to all x.seg ≡ None → given_once (all ++ x ∷ []) ≡ true
once_push [] x h e = refl
once_push (g ∷ all) x h e =
    let parts : (list_all (λ (x : Given). not (same_seg x.seg g.seg)) all ≡ true) × (given_once all ≡ true) = and_parts _ _ h in
    let found = apart (same_seg g.seg x.seg) refl e in
    and_from _ _ (all_push g x all parts.0 (false_from_ne_true _ (λ z. both_ways (same_seg g.seg x.seg) found.0 (seg_flip_true x.seg g.seg z)))) (once_push all x parts.1 found.1)
  where
    apart : (b : Bool) → same_seg g.seg x.seg ≡ b → cond b (Some g) (given_to all x.seg) ≡ None → (same_seg g.seg x.seg ≡ false) × (given_to all x.seg ≡ None)
    apart true f h = absurd (cc (h))
    apart false f h = (f, h)

once_new : (all more : List Given) → given_once all ≡ true → New all more → given_once (all ++ more) ≡ true
once_new all more h (inl e) = rw e (rw (append-nil all) h)
once_new all more h (inr n) = subst (λ l. given_once (all ++ l) ≡ true) (sym n.1) (once_push all n.0 h n.2)

-- ---- steps

module _ (all : List Given) (a : State) (t : Told all a) (n : ProcName) where
  fresh : given_to all (seg n.class (a.part n.class).next_serial) ≡ None
  fresh = by_found (given_to all (seg n.class (a.part n.class).next_serial)) refl
    where
      by_found : (o : Option Given) → given_to all (seg n.class (a.part n.class).next_serial) ≡ o → o ≡ None
      by_found None e = refl
      by_found (Some g) e = (let low : (a.part n.class).next_serial < (a.part n.class).next_serial = t.serials (seg n.class (a.part n.class).next_serial) g e in absurd (omega arith))

  create_new : (x : Known) (e class : ℕ) (b : Brackets) (size : ℕ) (r : Option Rule) (X : Part) →
      New all (given_by n.class (Create x e class b size) (chosen (a.part n.class) r (record { part = X; outcome = Value (a.part n.class).next_serial })).outcome)
  create_new x e class b size None X = inr (record { seg = seg n.class (a.part n.class).next_serial; class = class; brackets = b; size = size }, refl, fresh)
  create_new x e class b size (Some rule) X = inl refl

  request_new : (ring : ℕ) (q : Request) → New all (given_by n.class q (effect a n.class ring q).outcome)
  request_new ring (Create x e class b size) = let cell = (a.part n.class).cell x.seg in
      create_new x e class b size (first_broken ((is_deleted cell ⇒ Gone) ∷ (is_some (entry_at cell e) ⇒ EntryTaken) ∷ (nat_le 64 (a.part n.class).next_serial ⇒ SerialsUsed) ∷ [])) _
  request_new ring (MakeKnown x e mode) = inl refl
  request_new ring (Delete x e) = inl refl
  request_new ring (SwapIn x) = inl refl
  request_new ring (SwapOut x) = inl refl
  request_new ring (Fetch x offset count pad) = inl refl
  request_new ring (Update x offset words) = inl refl
  request_new ring (Read x wanted y) = inl refl
  request_new ring (Advance x) = inl refl
  request_new ring (Ticket x) = inl refl
  request_new ring (Out value) = inl refl

  plan_new : (p : Process) (y : Plan) → New all (given_deed n.class (Some (deed_of a n p y)))
  plan_new p (Own after) = inl refl
  plan_new p (Begin child) = inl refl
  plan_new p (Ask q) = request_new p.ring q

  process_new : (o : Option Process) → New all (given_deed n.class (deed_by a n o))
  process_new None = inl refl
  process_new (Some p) = by_live p.live
    where
      by_live : (b : Bool) → New all (given_deed n.class (if b then Some (deed_of a n p (plan a.shared n.class p)) else None))
      by_live true = plan_new p (plan a.shared n.class p)
      by_live false = inl refl

-- ---- the opening

records_once : (rs : List SegRecord) → segs_apart rs ≡ true → given_once (map given_record rs) ≡ true
records_once [] h = refl
records_once (r ∷ rs) h =
    let parts : (list_all (λ (y : SegRecord). not (same_seg y.seg r.seg)) rs ≡ true) × (segs_apart rs ≡ true) = and_parts _ _ h in
    and_from _ _ (all_map rs parts.0) (records_once rs parts.1)
  where
    all_map : (xs : List SegRecord) → list_all (λ (y : SegRecord). not (same_seg y.seg r.seg)) xs ≡ true → list_all (λ (x : Given). not (same_seg x.seg r.seg)) (map given_record xs) ≡ true
    all_map [] h = refl
    all_map (x ∷ xs) h = let parts : (not (same_seg x.seg r.seg) ≡ true) × (list_all (λ (y : SegRecord). not (same_seg y.seg r.seg)) xs ≡ true) = and_parts _ _ h in and_from _ _ parts.0 (all_map xs parts.1)

no_roots : (k : Config) (rs : List SegRecord) → list_all (record_ok k) rs ≡ true → list_all (λ (x : Given). not (same_seg x.seg (seg 0 0))) (map given_record rs) ≡ true
no_roots k [] h = refl
no_roots k (r ∷ rs) h = let parts : (record_ok k r ≡ true) × (list_all (record_ok k) rs ≡ true) = and_parts _ _ h in and_from _ _ (record_stands k r parts.0).other (no_roots k rs parts.1)

first_once : (k : Config) → IsConfig k → given_once (given_first k) ≡ true
first_once k valid = and_from _ _ (no_roots k k.records (records_ok k valid)) (records_once k.records (valid_records k valid).apart)

-- ---- runs

module _ (k : Config) where
  abbrev AllOnce : List ProcName → Type 0
  AllOnce names = (m : ℕ) (past : List Happened) (a : State) → Stands k m past a → given_once (all_given k past) ≡ true → given_once (all_given k (past ++ history a names)) ≡ true

  one_once : (name : ProcName) (names : List ProcName) → AllOnce names → AllOnce (name ∷ names)
  one_once name names rest m past a z h = by_deed (deed a name) refl
    where
      by_deed : (o : Option Deed) → deed a name ≡ o → given_once (all_given k (past ++ happened a name o (history (done a name.class o) names))) ≡ true
      by_deed None e = rest m past a z h
      by_deed (Some x) e =
          let w : StepShown k past a name x = step_shown k past m a z.table z.good z.told z.shown z.looks name x e in
          let new : New (all_given k past) (given_deed name.class (Some x)) = subst (λ o. New (all_given k past) (given_deed name.class o)) e (process_new (all_given k past) a z.told name (process_at a name)) in
          let now : given_once (all_given k (past ++ record { who = name; before = a; deed = x } ∷ [])) ≡ true =
          ap given_once (given_push k past (record { who = name; before = a; deed = x })) ∙ once_new (all_given k past) _ h new in
          subst (λ l. given_once (all_given k l) ≡ true) (append_assoc past (record { who = name; before = a; deed = x } ∷ []) (history (done a name.class (Some x)) names))
          (rest (m + 1) (past ++ record { who = name; before = a; deed = x } ∷ []) (done a name.class (Some x)) (stands_step k m past a z name x e w) now)

  each_once : (names : List ProcName) → AllOnce names
  each_once [] m past a z h = subst (λ l. given_once (all_given k l) ≡ true) (sym (append-nil past)) h
  each_once (name ∷ names) m past a z h = one_once name names (each_once names) m past a z h

pub identities_are_given_once : IdentitiesAreGivenOnce
identities_are_given_once k names valid = each_once k names 0 [] (opening k) (opening_stands k valid) (ap given_once (append-nil (given_first k)) ∙ first_once k valid)
