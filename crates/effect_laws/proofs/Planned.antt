-- What is known of a request that a process has come to ask: its segment is known to it, and its private tests have passed.
use Rattle.std.proofs.Common.{ℕ, Bool, true, false, List, ◌≡◌, refl, subst, Option, Some, None}
use Rattle.std.specs.Prelude.{slice_index_or, if◌then◌else◌, is_none}
use Rattle.lists.specs.Lists.{part_of}
use Rattle.policy.specs.Known.{Known}
use Rattle.policy.specs.Private.{read_tests, make_known_tests, brackets_of, create_tests, delete_tests, swap_in_tests, swap_out_tests, fetch_tests, update_tests, advance_tests, ticket_tests}
use Rattle.policy.specs.Verdict.{first_broken}
use Rattle.policy.specs.declared.rule.Rule.{Rule}
use Rattle.script_lang.specs.declared.instr.Instr.{Instr}
use Rattle.script_lang.specs.declared.instr.Instr.TheVariants as I
use Rattle.class_model.specs.Config.{Shared, Script, instr_at, flows}
use Rattle.class_model.specs.Process.{Process, reg, known_at, usable_at, tally_of, free_known}
use Rattle.class_model.specs.Plan.{Own, Begin, Ask, Request, plan, plan_of, of_known, tried, spawned, MakeKnown, Create, Delete, SwapIn, SwapOut, Fetch, Update, Read, Advance, Ticket, Out}

abbrev pub Passed : List (Bool × Rule) → Type 0
Passed tests = first_broken tests ≡ None

abbrev pub Planned : Shared → Process → Request → Type 0
Planned s p (MakeKnown k e mode) = (a : ℕ) × (usable_at p a ≡ Some k) × Passed (make_known_tests p.ring e mode (is_none (free_known p)) k)
Planned s p (Create k e class b size) = (a x : ℕ) × (usable_at p a ≡ Some k) × (b ≡ brackets_of x) × Passed (create_tests s.table p.ring e class x size k)
Planned s p (Delete k e) = (a : ℕ) × (usable_at p a ≡ Some k) × Passed (delete_tests p.ring e k)
Planned s p (SwapIn k) = (a : ℕ) × (usable_at p a ≡ Some k) × Passed (swap_in_tests p.ring k)
Planned s p (SwapOut k) = (a : ℕ) × (usable_at p a ≡ Some k) × Passed (swap_out_tests p.ring k)
Planned s p (Fetch k offset count pad) = (a : ℕ) × (usable_at p a ≡ Some k) × Passed (fetch_tests p.ring offset count pad k)
Planned s p (Update k offset words) =
    (a count pad : ℕ) × (usable_at p a ≡ Some k) × (words ≡ part_of p.pad pad count) × Passed (update_tests p.ring offset count pad k)
Planned s p (Read k wanted t) = (a : ℕ) × (usable_at p a ≡ Some k) × (t ≡ tally_of p) × Passed (read_tests p.ring k)
Planned s p (Advance k) = (a : ℕ) × (known_at p a ≡ Some k) × Passed (advance_tests p.ring k)
Planned s p (Ticket k) = (a : ℕ) × (usable_at p a ≡ Some k) × Passed (ticket_tests p.ring k)
Planned s p (Out value) = Unit {0}

module _ (s : Shared) (d : ℕ) (p : Process) where
  asks : (o : Option Known) (tests : Known → List (Bool × Rule)) (request : Known → Request) (q : Request) → of_known p o tests request ≡ Ask q →
      (k : Known) × (o ≡ Some k) × Passed (tests k) × (request k ≡ q)
  asks None tests request q h = cc
  asks (Some k) tests request q h = by_rule (first_broken (tests k)) refl h
    where
      by_rule : (r : Option Rule) → first_broken (tests k) ≡ r → tried p r (Ask (request k)) ≡ Ask q → (k' : Known) × ((let o : Option Known = Some k in o) ≡ Some k') × Passed (tests k') × (request k' ≡ q)
      by_rule None e h = let same : request k ≡ q = cc in (k, refl, e, same)
      by_rule (Some rule) e h = cc

  not_spawned : (n start : ℕ) (x : Option Script) (q : Request) → spawned s d p n start x ≡ Ask q → ⊥
  not_spawned n start None q h = cc
  not_spawned n start (Some x) q h = by_test (flows s x.class d) h
    where
      by_test : (b : Bool) → (if b then Begin (Rattle.class_model.specs.Process.new_process d n p.ring start) else Own (Rattle.class_model.specs.Process.refused p Rattle.policy.specs.declared.rule.Rule.TheVariants.NoScript)) ≡ Ask q → ⊥
      by_test true h = cc
      by_test false h = cc

  pub planned_by : (i : Instr) (q : Request) → plan_of s d p i ≡ Ask q → Planned s p q
  planned_by (I.MakeKnown a b c) q h = let r = asks (usable_at p (reg p a)) _ _ q h in subst (Planned s p) r.3 (reg p a, r.1, r.2)
  planned_by (I.Create a b c x e) q h = let r = asks (usable_at p (reg p a)) _ _ q h in subst (Planned s p) r.3 (reg p a, reg p x, r.1, refl, r.2)
  planned_by (I.Delete a b) q h = let r = asks (usable_at p (reg p a)) _ _ q h in subst (Planned s p) r.3 (reg p a, r.1, r.2)
  planned_by (I.SwapIn a) q h = let r = asks (usable_at p (reg p a)) _ _ q h in subst (Planned s p) r.3 (reg p a, r.1, r.2)
  planned_by (I.SwapOut a) q h = let r = asks (usable_at p (reg p a)) _ _ q h in subst (Planned s p) r.3 (reg p a, r.1, r.2)
  planned_by (I.Fetch a b c x) q h = let r = asks (usable_at p (reg p a)) _ _ q h in subst (Planned s p) r.3 (reg p a, r.1, r.2)
  planned_by (I.Update a b c x) q h = let r = asks (usable_at p (reg p a)) _ _ q h in subst (Planned s p) r.3 (reg p a, reg p c, reg p x, r.1, refl, r.2)
  planned_by (I.Read a) q h = let r = asks (usable_at p (reg p a)) _ _ q h in subst (Planned s p) r.3 (reg p a, r.1, refl, r.2)
  planned_by (I.Await a b) q h = let r = asks (usable_at p (reg p a)) _ _ q h in subst (Planned s p) r.3 (reg p a, r.1, refl, r.2)
  planned_by (I.Advance a) q h = let r = asks (known_at p (reg p a)) _ _ q h in subst (Planned s p) r.3 (reg p a, r.1, r.2)
  planned_by (I.Ticket a) q h = let r = asks (usable_at p (reg p a)) _ _ q h in subst (Planned s p) r.3 (reg p a, r.1, r.2)
  planned_by (I.Out a) q h = let same : Out (reg p a) ≡ q = cc in subst (Planned s p) same tt
  planned_by (I.Spawn n b) q h = absurd (not_spawned n (reg p b) (slice_index_or s.scripts n None) q h)
  planned_by _ q h = cc

  pub planned : (q : Request) → plan s d p ≡ Ask q → Planned s p q
  planned q h = planned_by (instr_at s p.script p.place) q h
