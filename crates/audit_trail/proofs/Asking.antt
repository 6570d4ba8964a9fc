-- What an instruction that names a known segment asks of the state, and accesses.
use Rattle.std.proofs.Common.{ℕ, ◌≡◌, Bool, true, false, List, [], ◌∷◌, refl, sym, subst, Option, Some, None, ◌⊎◌, inl, inr}
use Rattle.std.specs.Prelude.{if◌then◌else◌, slice_index_or}
use Rattle.policy.specs.Known.{Known, usable, signals}
use Rattle.policy.specs.Outcome.{Outcome}
use Rattle.policy.specs.Verdict.{first_broken}
use Rattle.policy.specs.declared.rule.Rule.{Rule}
use Rattle.policy.specs.declared.rule.Rule.TheVariants.{NoScript}
use Rattle.script_lang.specs.declared.instr.Instr.{Instr}
use Rattle.script_lang.specs.declared.instr.Instr.TheVariants as I
use Rattle.class_model.specs.Access.{Access, of_seg, child_access, accesses}
use Rattle.class_model.specs.Config.{Shared, Script, flows}
use Rattle.class_model.specs.Process.{Process, reg, known_at, usable_at, refused, new_process}
use Rattle.class_model.specs.Plan.{Own, Begin, Ask, Request, plan_of, of_known, tried, spawned, Out}
use Rattle.class_model.specs.State.{State, entry_at}
use Rattle.audit_trail.specs.Instructions.{known_in}
use Rattle.audit_trail.specs.Dues.{operand}
use Rattle.audit_trail.specs.declared.instructions.Operand.{Operand}

-- what is usable is known
pub usable_known : (o : Option Known) (k : Known) → usable o ≡ Some k → o ≡ Some k
usable_known None k h = cc
usable_known (Some j) k h = by_test (signals j.rights) h
  where
    by_test : (b : Bool) → (if b then None else Some j) ≡ Some k → (let o : Option Known = Some j in o) ≡ Some k
    by_test true h = cc
    by_test false h = h

-- what of_known comes to where it asks
pub asked_of : (p : Process) (o : Option Known) (tests : Known → List (Bool × Rule)) (request : Known → Request) (q : Request) → of_known p o tests request ≡ Ask q →
    (k : Known) × (o ≡ Some k) × (first_broken (tests k) ≡ None) × (request k ≡ q)
asked_of p None tests request q h = cc
asked_of p (Some k) tests request q h = by_rule (first_broken (tests k)) refl h
  where
    by_rule : (r : Option Rule) → first_broken (tests k) ≡ r → tried p r (Ask (request k)) ≡ Ask q →
        (k' : Known) × ((let o : Option Known = Some k in o) ≡ Some k') × (first_broken (tests k') ≡ None) × (request k' ≡ q)
    by_rule None e h = let same : request k ≡ q = cc in (k, refl, e, same)
    by_rule (Some rule) e h = cc

-- what a request accesses beside its known segment
abbrev pub extra : State → ℕ → Process → Instr → Known → Outcome → List Access
extra st d p (I.Delete x y) k o = child_access d k (entry_at ((st.part d).cell k.seg) (reg p y)) o
extra st d p _ k o = []

module _ (st : State) (d : ℕ) (p : Process) where
  -- the request q of an instruction is of the known segment under the number in its operand's register
  pub record Names (i : Instr) (q : Request) : Type 0 where
    pub operand_is : Operand
    pub named : operand i ≡ Some operand_is
    pub known : Known
    pub there : known_at p (reg p operand_is.register) ≡ Some known
    pub known_is : known_in q ≡ Some known
    pub accessed : (o : Outcome) → accesses st d q o ≡ of_seg known operand_is.kind.0 ∷ extra st d p i known o

  -- it prints, and accesses nothing
  pub record Prints (i : Instr) (q : Request) : Type 0 where
    pub none : operand i ≡ None
    pub value : ℕ
    pub request_is : q ≡ Out value

  names : (i : Instr) (r kind : ℕ) → operand i ≡ Some (record { register = r; kind = record { 0 = kind } }) → (o : Option Known) →
      ((k : Known) → o ≡ Some k → known_at p (reg p r) ≡ Some k) → (tests : Known → List (Bool × Rule)) (request : Known → Request) (q : Request) →
      ((k : Known) → known_in (request k) ≡ Some k) → ((k : Known) (out : Outcome) → accesses st d (request k) out ≡ of_seg k kind ∷ extra st d p i k out) →
      of_known p o tests request ≡ Ask q → Names i q
  names i r kind named o is tests request q known_is accessed h =
      let z = asked_of p o tests request q h in record {
        operand_is = record { register = r; kind = record { 0 = kind } };
        named = named;
        known = z.0;
        there = is z.0 z.1;
        known_is = subst (λ (q : Request). known_in q ≡ Some z.0) z.3 (known_is z.0);
        accessed = subst (λ (q : Request). (out : Outcome) → accesses st d q out ≡ of_seg z.0 kind ∷ extra st d p i z.0 out) z.3 (accessed z.0);
      }

  usable_there : (r : ℕ) (k : Known) → usable_at p (reg p r) ≡ Some k → known_at p (reg p r) ≡ Some k
  usable_there r k e = usable_known (known_at p (reg p r)) k e

  not_spawned : (s : Shared) (n start : ℕ) (x : Option Script) (q : Request) → spawned s d p n start x ≡ Ask q → ⊥
  not_spawned s n start None q h = cc
  not_spawned s n start (Some x) q h = by_test (flows s x.class d) h
    where
      by_test : (b : Bool) → (if b then Begin (new_process d n p.ring start) else Own (refused p NoScript)) ≡ Ask q → ⊥
      by_test true h = cc
      by_test false h = cc

  pub named_by : (s : Shared) (i : Instr) (q : Request) → plan_of s d p i ≡ Ask q → Names i q ⊎ Prints i q
  named_by s (I.MakeKnown a b c) q h = inl (names (I.MakeKnown a b c) a 1 refl (usable_at p (reg p a)) (usable_there a) _ _ q (λ k. refl) (λ k out. refl) h)
  named_by s (I.Create a b c x e) q h = inl (names (I.Create a b c x e) a 3 refl (usable_at p (reg p a)) (usable_there a) _ _ q (λ k. refl) (λ k out. refl) h)
  named_by s (I.Delete a b) q h = inl (names (I.Delete a b) a 3 refl (usable_at p (reg p a)) (usable_there a) _ _ q (λ k. refl) (λ k out. refl) h)
  named_by s (I.SwapIn a) q h = inl (names (I.SwapIn a) a 3 refl (usable_at p (reg p a)) (usable_there a) _ _ q (λ k. refl) (λ k out. refl) h)
  named_by s (I.SwapOut a) q h = inl (names (I.SwapOut a) a 3 refl (usable_at p (reg p a)) (usable_there a) _ _ q (λ k. refl) (λ k out. refl) h)
  named_by s (I.Fetch a b c x) q h = inl (names (I.Fetch a b c x) a 1 refl (usable_at p (reg p a)) (usable_there a) _ _ q (λ k. refl) (λ k out. refl) h)
  named_by s (I.Update a b c x) q h = inl (names (I.Update a b c x) a 3 refl (usable_at p (reg p a)) (usable_there a) _ _ q (λ k. refl) (λ k out. refl) h)
  named_by s (I.Read a) q h = inl (names (I.Read a) a 1 refl (usable_at p (reg p a)) (usable_there a) _ _ q (λ k. refl) (λ k out. refl) h)
  named_by s (I.Await a b) q h = inl (names (I.Await a b) a 1 refl (usable_at p (reg p a)) (usable_there a) _ _ q (λ k. refl) (λ k out. refl) h)
  named_by s (I.Advance a) q h = inl (names (I.Advance a) a 2 refl (known_at p (reg p a)) (λ k e. e) _ _ q (λ k. refl) (λ k out. refl) h)
  named_by s (I.Ticket a) q h = inl (names (I.Ticket a) a 3 refl (usable_at p (reg p a)) (usable_there a) _ _ q (λ k. refl) (λ k out. refl) h)
  named_by s (I.Out a) q h = let same : Out (reg p a) ≡ q = cc in inr (record { none = refl; value = reg p a; request_is = sym same })
  named_by s (I.Spawn n b) q h = absurd (not_spawned s n (reg p b) (slice_index_or s.scripts n None) q h)
  named_by s _ q h = cc
