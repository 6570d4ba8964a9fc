-- What a step of a process comes to by its plan, and the cases of jumps and tests.
use Rattle.std.proofs.Common.{ℕ, ◌+◌, ◌<◌, ◌≤◌, Bool, true, false, List, ◌≡◌, refl, sym, ap, subst, Option, Some, None}
use Rattle.std.specs.Prelude.{◌==◌, nat_lt, slice_index_or}
use Rattle.std.proofs.lemmas.Bool.{eqb-true, eqb-false, ltb-true, ltb-false}
use Rattle.policy.specs.Known.{Known}
use Rattle.policy.specs.Outcome.{Outcome}
use Rattle.policy.specs.Verdict.{first_broken}
use Rattle.policy.specs.declared.rule.Rule.{Rule}
use Rattle.policy.specs.declared.rule.Rule.TheVariants.{UnknownSegno}
use Rattle.script_lang.specs.declared.instr.Instr.{Instr}
use Rattle.script_lang.specs.declared.instr.Instr.TheVariants as I
use Rattle.class_model.specs.Config.{Shared}
use Rattle.class_model.specs.Process.{Process, reg, settled, refused}
use Rattle.class_model.specs.Plan.{Plan, Own, Begin, Ask, Request, plan, plan_of, of_known, tried, jumped}
use Rattle.mailbox_laws.specs.Places.{Runs}
use Rattle.mailbox_laws.proofs.Registers.{instr_is}
use Rattle.mailbox_laws.proofs.Shows.{MayShow}

-- G holds of the process after each step by this plan, and of what it asked and was shown; and it begins no process
abbrev pub Goes : Shared → ℕ → Process → (Process → Option (Request × Outcome) → Type 0) → Plan → Type 0
Goes s d p G (Own q) = G q None
Goes s d p G (Begin child) = ⊥
Goes s d p G (Ask r) = (o : Outcome) → MayShow s.table d p.ring r o → G (settled p o) (Some (r, o))

module _ (s : Shared) (d : ℕ) (p : Process) (G : Process → Option (Request × Outcome) → Type 0) where
  -- by the instruction at its place
  pub goes_by : (instrs : List Instr) → Runs s instrs p → (place : ℕ) → p.place ≡ place → Goes s d p G (plan_of s d p (slice_index_or instrs place I.Halt)) → Goes s d p G (plan s d p)
  goes_by instrs r place at h = subst (Goes s d p G) (sym (ap (plan_of s d p) (instr_is s instrs p r place at))) h

  -- by a test of a known segment: refused, or with all tests passed
  pub goes_known : (o : Option Known) (tests : Known → List (Bool × Rule)) (request : Known → Request) → ((rule : Rule) → G (refused p rule) None) →
      ((k : Known) → o ≡ Some k → first_broken (tests k) ≡ None → (x : Outcome) → MayShow s.table d p.ring (request k) x → G (settled p x) (Some (request k, x))) →
      Goes s d p G (of_known p o tests request)
  goes_known None tests request bad good = bad UnknownSegno
  goes_known (Some k) tests request bad good = by_rule (first_broken (tests k)) refl
    where
      by_rule : (r : Option Rule) → first_broken (tests k) ≡ r → Goes s d p G (tried p r (Ask (request k)))
      by_rule None e = good k refl e
      by_rule (Some rule) e = bad rule

-- a jump where a register is 0
pub goes_zero : (p : Process) (a to : ℕ) (G : Process → Type 0) → (reg p a ≡ 0 → G (record p { place = to })) → ((reg p a ≡ 0 → ⊥) → G (record p { place = p.place + 1 })) → G (jumped p (reg p a == 0) to)
goes_zero p a to G jumps goes = by_test (reg p a == 0) refl
  where
    by_test : (b : Bool) → (reg p a == 0) ≡ b → G (jumped p b to)
    by_test true e = jumps (eqb-true (reg p a) 0 e)
    by_test false e = goes (eqb-false (reg p a) 0 e)

-- a jump where a register is below another one
pub goes_less : (p : Process) (a b to : ℕ) (G : Process → Type 0) → (reg p a < reg p b → G (record p { place = to })) → (reg p b ≤ reg p a → G (record p { place = p.place + 1 })) → G (jumped p (nat_lt (reg p a) (reg p b)) to)
goes_less p a b to G jumps goes = by_test (nat_lt (reg p a) (reg p b)) refl
  where
    by_test : (t : Bool) → nat_lt (reg p a) (reg p b) ≡ t → G (jumped p t to)
    by_test true e = jumps (ltb-true (reg p a) (reg p b) e)
    by_test false e = goes (ltb-false (reg p a) (reg p b) e)
