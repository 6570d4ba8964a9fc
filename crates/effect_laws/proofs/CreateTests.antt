-- What the private tests of create say where they all pass.
use Rattle.std.proofs.Common.{ℕ, ◌≤◌, ◌<◌, Bool, true, false, not, ◌||◌, List, [], ◌∷◌, ◌≡◌, refl, arith, length, None}
use Rattle.std.specs.Prelude.{◌==◌, if◌then◌else◌, nat_lt, nat_le, Some}
use Rattle.std.proofs.lemmas.Bool.{ltb-false, leb-false, eqb-false}
use Rattle.labels.specs.Label.{ClassEntry, at_or_below}
use Rattle.rings.specs.Brackets.{in_order, may_write}
use Rattle.policy.specs.Known.{Known, modifies}
use Rattle.policy.specs.Verdict.{first_broken, ◌⇒◌}
use Rattle.policy.specs.Private.{brackets_of, entry_test, create_tests}
use Rattle.policy.specs.declared.rule.Rule.{Rule}
use Rattle.policy.specs.declared.rule.Rule.TheVariants.{NotModify, RingWrite, BadClass, Compat, BadBrackets, BadSize}
use Rattle.effect_laws.proofs.Planned.{Passed}

-- tests that all pass
pub passed_head : (t : Bool × Rule) (ts : List (Bool × Rule)) → Passed (t ∷ ts) → (t.0 ≡ false) × Passed ts
passed_head t ts h = elim (t.0) as (λ b. t.0 ≡ b → (if b then Some t.1 else first_broken ts) ≡ None → (t.0 ≡ false) × Passed ts) [
  | true ↦ λ e k. cc
  | false ↦ λ e k. (e, k)
] refl h

pub or_false : (x y : Bool) → (x || y) ≡ false → (x ≡ false) × (y ≡ false)
or_false true y h = cc
or_false false y h = (refl, h)

pub not_false : (y : Bool) → not y ≡ false → y ≡ true
not_false true h = refl
not_false false h = cc

-- a change that passed its tests may be made
pub changes : (ring : ℕ) (k : Known) (more : List (Bool × Rule)) → Passed ((not (modifies k.rights) ⇒ NotModify) ∷ (not (may_write k.brackets ring) ⇒ RingWrite) ∷ more) →
    (modifies k.rights ≡ true) × Passed more
changes ring k more h =
    let first = passed_head (not (modifies k.rights) ⇒ NotModify) ((not (may_write k.brackets ring) ⇒ RingWrite) ∷ more) h in
    (not_false (modifies k.rights) first.0, (passed_head (not (may_write k.brackets ring) ⇒ RingWrite) more first.1).1)

module _ (table : List ClassEntry) (ring e class size x : ℕ) (k : Known) (tests : Passed (create_tests table ring e class x size k)) where
  abbrev t7 : List (Bool × Rule)
  t7 = (size == 0 || nat_lt 64 size ⇒ BadSize) ∷ []

  abbrev t6 : List (Bool × Rule)
  t6 = (nat_lt 511 x || not (in_order (brackets_of x)) ⇒ BadBrackets) ∷ t7

  abbrev t5 : List (Bool × Rule)
  t5 = (not (at_or_below table k.class class) ⇒ Compat) ∷ t6

  abbrev t4 : List (Bool × Rule)
  t4 = (nat_le (length table) class ⇒ BadClass) ∷ t5

  abbrev t3 : List (Bool × Rule)
  t3 = entry_test e ∷ t4

  pub may_create : (modifies k.rights ≡ true) × Passed t3
  may_create = changes ring k t3 tests

  p4 : Passed t4
  p4 = (passed_head (entry_test e) t4 may_create.1).1

  p5 : Passed t5
  p5 = (passed_head (nat_le (length table) class ⇒ BadClass) t5 p4).1

  p6 : Passed t6
  p6 = (passed_head (not (at_or_below table k.class class) ⇒ Compat) t6 p5).1

  pub entry_small : e < 8
  entry_small = let f : e ≤ 7 = ltb-false 7 e (passed_head (entry_test e) t4 may_create.1).0 in omega (arith, f)

  pub class_there : class < length table
  class_there = leb-false (length table) class (passed_head (nat_le (length table) class ⇒ BadClass) t5 p4).0

  pub compatible : at_or_below table k.class class ≡ true
  compatible = not_false (at_or_below table k.class class) (passed_head (not (at_or_below table k.class class) ⇒ Compat) t6 p5).0

  pub ordered : in_order (brackets_of x) ≡ true
  ordered = not_false (in_order (brackets_of x)) (or_false (nat_lt 511 x) (not (in_order (brackets_of x))) (passed_head (nat_lt 511 x || not (in_order (brackets_of x)) ⇒ BadBrackets) t7 p6).0).1

  sizes : (size == 0 ≡ false) × (nat_lt 64 size ≡ false)
  sizes = or_false (size == 0) (nat_lt 64 size) (passed_head (size == 0 || nat_lt 64 size ⇒ BadSize) [] (passed_head (nat_lt 511 x || not (in_order (brackets_of x)) ⇒ BadBrackets) t7 p6).1).0

  pub size_low : 1 ≤ size
  size_low = let some : size ≡ 0 → ⊥ = eqb-false size 0 sizes.0 in omega (arith, some)

  pub size_high : size ≤ 64
  size_high = ltb-false 64 size sizes.1
