-- Along a run each effect is granted exactly where its condition holds.
use Rattle.std.proofs.Common.{ℕ, zero, suc, ◌<◌, Bool, true, false, List, [], ◌∷◌, ◌++◌, ◌≡◌, refl, sym, subst, Option, Some, None, arith, append_assoc}
use Rattle.std.specs.Prelude.{◌==◌, ◌||◌, not, if◌then◌else◌, nat_lt, is_none, reverse, slice_get, take}
use Rattle.std.specs.List.{position}
use Rattle.std.specs.Option.{option_map_or}
use Rattle.std.proofs.lemmas.Bool.{ltb-false}
use Rattle.std.proofs.lemmas.List.{append-nil}
use Rattle.policy.specs.Outcome.{Outcome}
use Rattle.policy.specs.Verdict.{◌⇒◌}
use Rattle.policy.specs.declared.rule.Rule.{Rule}
use Rattle.policy.specs.declared.rule.Rule.TheVariants.{BadMode, KstFull}
use Rattle.policy.specs.Private.{ring_read_test, entry_test}
use Rattle.class_model.specs.Config.{Config}
use Rattle.class_model.specs.Process.{Process, ProcName, settled, free_known}
use Rattle.class_model.specs.Plan.{Plan, Own, Begin, Ask, Request, MakeKnown, Create, Delete, SwapIn, SwapOut, Fetch, Update, Read, Advance, Ticket, Out, plan}
use Rattle.class_model.specs.State.{State, process_at, with_part, with_process}
use Rattle.class_model.specs.Step.{Deed, Effect, deed, deed_of, deed_by, done, effect, begun}
use Rattle.class_model.specs.Run.{Happened, happened, history, opening}
use Rattle.class_model.specs.Access.{ring_of}
use Rattle.effect_laws.proofs.CreateTests.{passed_head, changes, entry_small}
use Rattle.effect_laws.proofs.Planned.{Planned, planned}
use Rattle.content_laws.proofs.Tallies.{reverse_push}
use Rattle.grant_laws.specs.Grants.{granted}
use Rattle.grant_laws.proofs.Kept.{Kept, opening_kept, kept_with}
use Rattle.grant_laws.proofs.Effects.{Small, effect_kept, unchanged, slots_kept}
use Rattle.grant_laws.proofs.Grants.{may, effect_right}

-- entries below 8
below_eight : (e : ℕ) → nat_lt 7 e ≡ false → e < 8
below_eight e h = let f = ltb-false 7 e h in omega (arith, f)

small_of : (a : State) (p : Process) (q : Request) → Planned a.shared p q → Small q
small_of a p (MakeKnown x e mode) pl =
    let more : List (Bool × Rule) = (not (mode == 1 || mode == 2 || mode == 3) ⇒ BadMode) ∷ (is_none (free_known p) ⇒ KstFull) ∷ [] in
    below_eight e (passed_head (entry_test e) more (passed_head (ring_read_test p.ring x) (entry_test e ∷ more) pl.2).1).0
small_of a p (Create x e class b size) pl = entry_small a.shared.table p.ring e class size pl.1 x pl.4
small_of a p (Delete x e) pl = below_eight e (passed_head (entry_test e) [] (changes p.ring x (entry_test e ∷ []) pl.2).1).0
small_of a p (SwapIn x) pl = tt
small_of a p (SwapOut x) pl = tt
small_of a p (Fetch x offset count pad) pl = tt
small_of a p (Update x offset words) pl = tt
small_of a p (Read x wanted t) pl = tt
small_of a p (Advance x) pl = tt
small_of a p (Ticket x) pl = tt
small_of a p (Out value) pl = tt

-- the request of an effect is granted where its condition holds
abbrev pub AskedRight : Config → List Happened → ℕ → ℕ → Option (Request × Outcome) → Type 0
AskedRight k latest d ring (Some (q, o)) = granted o ≡ may k latest d ring q
AskedRight k latest d ring None = Unit {0}

-- all that a step comes to
pub record StepKept (k : Config) (latest : List Happened) (a : State) (n : ProcName) (x : Deed) : Type 0 where
  pub right : AskedRight k latest n.class (option_map_or (λ (p : Process). p.ring) (process_at a n) 0) x.asked
  pub kept : Kept k (record { who = n; before = a; deed = x } ∷ latest) (with_part a n.class x.part)

module _ (k : Config) (latest : List Happened) (a : State) (s : Kept k latest a) (n : ProcName) (p : Process) (there : process_at a n ≡ Some p) where
  own_kept : (slots : ℕ → List (Option Process)) → StepKept k latest a n (record { part = record (a.part n.class) { slots = slots }; asked = None })
  own_kept slots = record {
    right = tt;
    kept = kept_with k latest a s _ (record (a.part n.class) { slots = slots })
        (slots_kept k latest a s n.class None (a.part n.class) (unchanged k latest a s n.class None refl refl (λ u. refl) (λ u. refl) (λ u. refl)) slots);
  }

  begun_kept : (child : Process) (o : Option ℕ) → StepKept k latest a n (record { part = begun (a.part n.class) n p child o; asked = None })
  begun_kept child None = own_kept _
  begun_kept child (Some slot) = own_kept _

  by_plan : (y : Plan) → plan a.shared n.class p ≡ y → StepKept k latest a n (deed_of a n p y)
  by_plan (Own after) e = own_kept _
  by_plan (Begin child) e = begun_kept child (position (λ q. is_none q) ((a.part n.class).slots n.processor))
  by_plan (Ask q) e =
      let z : Effect = effect a n.class p.ring q in
      let small = small_of a p q (planned a.shared n.class p q e) in
      record {
        right = subst (λ o. AskedRight k latest n.class (option_map_or (λ (p : Process). p.ring) o 0) (Some (q, z.outcome))) (sym there) (effect_right k latest a s n.class p.ring q small);
        kept = kept_with k latest a s _ _ (slots_kept k latest a s n.class _ z.part (effect_kept k latest a s n.class q p.ring small) (with_process z.part n.processor n.slot (settled p z.outcome)).slots);
      }

  by_live : (b : Bool) (x : Deed) → (if b then Some (deed_of a n p (plan a.shared n.class p)) else None) ≡ Some x → StepKept k latest a n x
  by_live true x e = let same : deed_of a n p (plan a.shared n.class p) ≡ x = cc in subst (StepKept k latest a n) same (by_plan (plan a.shared n.class p) refl)
  by_live false x e = absurd (cc)

step_kept : (k : Config) (latest : List Happened) (a : State) (s : Kept k latest a) (n : ProcName) (x : Deed) → deed a n ≡ Some x → StepKept k latest a n x
step_kept k latest a s n x e = by_process (process_at a n) refl e
  where
    by_process : (o : Option Process) → process_at a n ≡ o → deed_by a n o ≡ Some x → StepKept k latest a n x
    by_process None f h = absurd (cc)
    by_process (Some p) f h = by_live k latest a s n p f p.live x h

-- an effect after these
abbrev pub Right : Config → List Happened → Happened → Type 0
Right k past h = AskedRight k (reverse past) h.who.class (ring_of h) h.deed.asked

module _ (k : Config) where
  abbrev AllRight : List ProcName → Type 0
  AllRight names = (past : List Happened) (a : State) → Kept k (reverse past) a → (i : ℕ) (h : Happened) → slice_get (history a names) i ≡ Some h → Right k (past ++ take i (history a names)) h

  one_right : (name : ProcName) (names : List ProcName) → AllRight names → AllRight (name ∷ names)
  one_right name names rest past a s i h = by_deed (deed a name) refl i
    where
      by_deed : (o : Option Deed) → deed a name ≡ o → (i : ℕ) → slice_get (happened a name o (history (done a name.class o) names)) i ≡ Some h →
          Right k (past ++ take i (happened a name o (history (done a name.class o) names))) h
      by_deed None e i f = rest past a s i h f
      by_deed (Some x) e zero f =
          let first : Happened = record { who = name; before = a; deed = x } in
          let same : first ≡ h = cc (f) in
          subst (λ h. Right k (past ++ []) h) same (subst (λ l. Right k l first) (sym (append-nil past)) (step_kept k (reverse past) a s name x e).right)
      by_deed (Some x) e (suc i) f =
          let first : Happened = record { who = name; before = a; deed = x } in
          let next : Kept k (reverse (past ++ first ∷ [])) (done a name.class (Some x)) = subst (λ l. Kept k l (done a name.class (Some x))) (sym (reverse_push past first)) (step_kept k (reverse past) a s name x e).kept in
          subst (λ l. Right k l h) (append_assoc past (first ∷ []) (take i (history (done a name.class (Some x)) names))) (rest (past ++ first ∷ []) (done a name.class (Some x)) next i h f)

  each_right : (names : List ProcName) → AllRight names
  each_right [] past a s i h e = absurd (cc (e))
  each_right (name ∷ names) past a s i h e = one_right name names (each_right names) past a s i h e

pub granted_where : (k : Config) (names : List ProcName) (i : ℕ) (h : Happened) (q : Request) (o : Outcome) → slice_get (history (opening k) names) i ≡ Some h → h.deed.asked ≡ Some (q, o) →
    granted o ≡ may k (reverse (take i (history (opening k) names))) h.who.class (ring_of h) q
granted_where k names i h q o e f = subst (AskedRight k (reverse (take i (history (opening k) names))) h.who.class (ring_of h)) f (each_right k names [] (opening k) (opening_kept k) i h e)
