-- What a process does by itself, or begins, is good.
use Rattle.std.proofs.Common.{ℕ, zero, suc, ◌+◌, Bool, true, false, List, [], ◌∷◌, ◌≡◌, refl, sym, ap, subst, ◌∙◌, Option, Some, None, inl, inr, length}
use Rattle.std.specs.Prelude.{if◌then◌else◌, nat_le, slice_index_or, replicate}
use Rattle.std.proofs.lemmas.List.{length-set}
use Rattle.rings.specs.Brackets.{call_ring}
use Rattle.policy.specs.Known.{Known}
use Rattle.policy.specs.Verdict.{first_broken}
use Rattle.policy.specs.declared.rule.Rule.{Rule}
use Rattle.policy.specs.declared.rule.Rule.TheVariants.{NoScript, StackFull}
use Rattle.script_lang.specs.declared.instr.Instr.{Instr}
use Rattle.script_lang.specs.declared.instr.Instr.TheVariants as I
use Rattle.class_model.specs.Config.{Shared, Script, Gate, flows}
use Rattle.class_model.specs.Process.{Process, Return, reg, known_at, usable_at, new_process, root_known, refused, answered}
use Rattle.class_model.specs.Plan.{Own, Begin, Ask, Request, plan_of, of_known, tried, called, call, returned, spawned, forgotten}
use Rattle.effect_laws.proofs.Growing.{set-read}

-- what a process knows, another knew, and its pad is as long
pub record Alike (p after : Process) : Type 0 where
  pub known : (j : ℕ) (k : Known) → known_at after j ≡ Some k → (i : ℕ) × (known_at p i ≡ Some k)
  pub pad : length after.pad ≡ length p.pad

own_is : (x y : Process) → Own x ≡ Own y → x ≡ y
own_is x y e = cc

module _ (s : Shared) (d : ℕ) (p : Process) where
  -- nothing of either changes
  as_is : (x after : Process) → x.known ≡ p.known → length x.pad ≡ length p.pad → Own x ≡ Own after → Alike p after
  as_is x after e f h = subst (Alike p) (own_is x after h) (record { known = λ j k g. (j, ap (λ (l : List (Option Known)). slice_index_or l j None) (sym e) ∙ g); pad = f })

  tried_own : (r : Option Rule) (request : Request) (after : Process) → tried p r (Ask request) ≡ Own after → Alike p after
  tried_own None request after h = absurd (cc)
  tried_own (Some rule) request after h = as_is (refused p rule) after refl refl h

  known_own : (o : Option Known) (tests : Known → List (Bool × Rule)) (request : Known → Request) (after : Process) → of_known p o tests request ≡ Own after → Alike p after
  known_own None tests request after h = as_is (refused p Rattle.policy.specs.declared.rule.Rule.TheVariants.UnknownSegno) after refl refl h
  known_own (Some k) tests request after h = tried_own (first_broken (tests k)) (request k) after h

  called_own : (g : Gate) (o : Option ℕ) (after : Process) → Own (called p g o) ≡ Own after → Alike p after
  called_own g None after h = as_is (called p g None) after refl refl h
  called_own g (Some ring) after h = by_test (nat_le 8 (length p.stack)) h
    where
      inside : Process
      inside = record (answered p ring) { script = g.script; place = 0; ring = ring; stack = record { script = p.script; place = p.place + 1; ring = p.ring } ∷ p.stack }

      by_test : (b : Bool) → Own (if b then refused p StackFull else inside) ≡ Own after → Alike p after
      by_test true h = as_is (refused p StackFull) after refl refl h
      by_test false h = as_is inside after refl refl h

  call_own : (o : Option Gate) (after : Process) → Own (call s d p o) ≡ Own after → Alike p after
  call_own None after h = as_is (refused p NoScript) after refl refl h
  call_own (Some g) after h = by_test (flows s g.class d) h
    where
      by_test : (b : Bool) → Own (if b then called p g (call_ring g.brackets p.ring) else refused p NoScript) ≡ Own after → Alike p after
      by_test true h = called_own g (call_ring g.brackets p.ring) after h
      by_test false h = as_is (refused p NoScript) after refl refl h

  returned_own : (stack : List Return) (after : Process) → Own (returned p stack) ≡ Own after → Alike p after
  returned_own [] after h = as_is (returned p []) after refl refl h
  returned_own (b ∷ stack) after h = as_is (returned p (b ∷ stack)) after refl refl h

  spawned_own : (n start : ℕ) (o : Option Script) (after : Process) → spawned s d p n start o ≡ Own after → Alike p after
  spawned_own n start None after h = as_is (refused p NoScript) after refl refl h
  spawned_own n start (Some x) after h = by_test (flows s x.class d) h
    where
      by_test : (b : Bool) → (if b then Begin (new_process d n p.ring start) else Own (refused p NoScript)) ≡ Own after → Alike p after
      by_test true h = absurd (cc)
      by_test false h = as_is (refused p NoScript) after refl refl h

  forgotten_own : (segno : ℕ) (o : Option Known) (after : Process) → Own (forgotten p segno o) ≡ Own after → Alike p after
  forgotten_own segno None after h = as_is (forgotten p segno None) after refl refl h
  forgotten_own segno (Some k) after h = subst (Alike p) (own_is (forgotten p segno (Some k)) after h) (record { known = known; pad = refl })
    where
      none_some : (let a : Option Known = None in a ≡ Some k) → ⊥
      none_some e = cc

      known : (j : ℕ) (x : Known) → known_at (forgotten p segno (Some k)) j ≡ Some x → (i : ℕ) × (known_at p i ≡ Some x)
      known j x h = elim (set-read p.known segno j None x h) [ inl e ↦ absurd (cc) | inr e ↦ (j, e) ]

  pub own_alike : (i : Instr) (after : Process) → plan_of s d p i ≡ Own after → Alike p after
  own_alike I.Halt after h = as_is _ after refl refl h
  own_alike (I.Set a n) after h = as_is _ after refl refl h
  own_alike (I.Copy a b) after h = as_is _ after refl refl h
  own_alike (I.Add a b) after h = as_is _ after refl refl h
  own_alike (I.Sub a b) after h = as_is _ after refl refl h
  own_alike (I.Jump to) after h = as_is _ after refl refl h
  own_alike (I.JumpZ a to) after h = as_is _ after refl refl h
  own_alike (I.JumpL a b to) after h = as_is _ after refl refl h
  own_alike (I.Get a b) after h = as_is _ after refl refl h
  own_alike (I.Put a b) after h = as_is _ after refl (length-set p.pad _ (reg p a)) h
  own_alike (I.Call g) after h = call_own (slice_index_or s.gates g None) after h
  own_alike I.Ret after h = returned_own p.stack after h
  own_alike (I.Spawn n b) after h = spawned_own n (reg p b) (slice_index_or s.scripts n None) after h
  own_alike (I.Terminate a) after h = forgotten_own (reg p a) (known_at p (reg p a)) after h
  own_alike (I.MakeKnown a b c) after h = known_own (usable_at p (reg p a)) _ _ after h
  own_alike (I.Create a b c x e) after h = known_own (usable_at p (reg p a)) _ _ after h
  own_alike (I.Delete a b) after h = known_own (usable_at p (reg p a)) _ _ after h
  own_alike (I.SwapIn a) after h = known_own (usable_at p (reg p a)) _ _ after h
  own_alike (I.SwapOut a) after h = known_own (usable_at p (reg p a)) _ _ after h
  own_alike (I.Fetch a b c x) after h = known_own (usable_at p (reg p a)) _ _ after h
  own_alike (I.Update a b c x) after h = known_own (usable_at p (reg p a)) _ _ after h
  own_alike (I.Read a) after h = known_own (usable_at p (reg p a)) _ _ after h
  own_alike (I.Await a b) after h = known_own (usable_at p (reg p a)) _ _ after h
  own_alike (I.Advance a) after h = known_own (known_at p (reg p a)) _ _ after h
  own_alike (I.Ticket a) after h = known_own (usable_at p (reg p a)) _ _ after h
  own_alike (I.Out a) after h = absurd (cc)

  -- a process that is begun is new
  abbrev IsNew : Process → Type 0
  IsNew child = (n start : ℕ) × (new_process d n p.ring start ≡ child)

  known_begins : (o : Option Known) (tests : Known → List (Bool × Rule)) (request : Known → Request) (child : Process) → of_known p o tests request ≡ Begin child → IsNew child
  known_begins None tests request child h = absurd (cc)
  known_begins (Some k) tests request child h = by_rule (first_broken (tests k)) h
    where
      by_rule : (r : Option Rule) → tried p r (Ask (request k)) ≡ Begin child → IsNew child
      by_rule None h = absurd (cc)
      by_rule (Some rule) h = absurd (cc)

  spawned_new : (n start : ℕ) (o : Option Script) (child : Process) → spawned s d p n start o ≡ Begin child → IsNew child
  spawned_new n start None child h = absurd (cc)
  spawned_new n start (Some x) child h = by_test (flows s x.class d) h
    where
      by_test : (b : Bool) → (if b then Begin (new_process d n p.ring start) else Own (refused p NoScript)) ≡ Begin child → IsNew child
      by_test true h = (let same : new_process d n p.ring start ≡ child = cc in (n, start, same))
      by_test false h = absurd (cc)

  pub begun_new : (i : Instr) (child : Process) → plan_of s d p i ≡ Begin child → IsNew child
  begun_new (I.Spawn n b) child h = spawned_new n (reg p b) (slice_index_or s.scripts n None) child h
  begun_new (I.MakeKnown a b c) child h = known_begins (usable_at p (reg p a)) _ _ child h
  begun_new (I.Create a b c x e) child h = known_begins (usable_at p (reg p a)) _ _ child h
  begun_new (I.Delete a b) child h = known_begins (usable_at p (reg p a)) _ _ child h
  begun_new (I.SwapIn a) child h = known_begins (usable_at p (reg p a)) _ _ child h
  begun_new (I.SwapOut a) child h = known_begins (usable_at p (reg p a)) _ _ child h
  begun_new (I.Fetch a b c x) child h = known_begins (usable_at p (reg p a)) _ _ child h
  begun_new (I.Update a b c x) child h = known_begins (usable_at p (reg p a)) _ _ child h
  begun_new (I.Read a) child h = known_begins (usable_at p (reg p a)) _ _ child h
  begun_new (I.Await a b) child h = known_begins (usable_at p (reg p a)) _ _ child h
  begun_new (I.Advance a) child h = known_begins (known_at p (reg p a)) _ _ child h
  begun_new (I.Ticket a) child h = known_begins (usable_at p (reg p a)) _ _ child h
  begun_new (I.Out a) child h = absurd (cc)
  begun_new _ child h = absurd (cc)

-- a new process knows the root alone
pub new_knows : (d n ring start j : ℕ) (k : Known) → known_at (new_process d n ring start) j ≡ Some k → root_known d ≡ k
new_knows d n ring start zero k h = cc
new_knows d n ring start (suc j) k h = absurd (nothing 15 j h)
  where
    nothing : (m i : ℕ) → slice_index_or (replicate m (let o : Option Known = None in o)) i None ≡ Some k → ⊥
    nothing zero i h = cc
    nothing (suc m) zero h = cc
    nothing (suc m) (suc i) h = nothing m i h
