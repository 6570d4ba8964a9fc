-- The verdict is Ok exactly where the policy permits what is wanted.
use Rattle.std.proofs.Common.{ℕ, Bool, true, false, not, List, [], ◌∷◌, ◌++◌, ◌≡◌, refl, ◌∙◌, Some, None, Result, Ok, Err, ◌↔◌}
use Rattle.std.specs.Prelude.{if◌then◌else◌, IsOk, MatchResult}
use Rattle.std.proofs.lemmas.Bool.{leb-true, le-leb}
use Rattle.labels.specs.Label.{Label, secrecy_at_least, integrity_at_least}
use Rattle.labels.proofs.OrderLaws.{secrecy_twin, integrity_twin}
use Rattle.rings.specs.Brackets.{Brackets, may_read, may_write}
use Rattle.policy.specs.Known.{observes, modifies}
use Rattle.policy.specs.Verdict.{◌⇒◌, first_broken, observe_tests, modify_tests, verdict}
use Rattle.policy.specs.Permitted.{MayObserve, MayModify, IsPermitted}
use Rattle.policy.specs.declared.rule.Rule.{Rule}

-- a rule that is broken in front is the first
pub front_broken : (xs ys : List (Bool × Rule)) (r : Rule) → first_broken xs ≡ Some r → first_broken (xs ++ ys) ≡ Some r
front_broken [] ys r e = cc
front_broken ((true, rule) ∷ xs) ys r e = e
front_broken ((false, rule) ∷ xs) ys r e = front_broken xs ys r e

-- where none is broken in front, the rest decides
pub front_passes : (xs ys : List (Bool × Rule)) → first_broken xs ≡ None → first_broken (xs ++ ys) ≡ first_broken ys
front_passes [] ys e = refl
front_passes ((true, rule) ∷ xs) ys e = cc
front_passes ((false, rule) ∷ xs) ys e = front_passes xs ys e

-- where none is broken in all, none is in either part
both_pass : (xs ys : List (Bool × Rule)) → first_broken (xs ++ ys) ≡ None → (first_broken xs ≡ None) × (first_broken ys ≡ None)
both_pass [] ys e = (refl, e)
both_pass ((true, rule) ∷ xs) ys e = cc
both_pass ((false, rule) ∷ xs) ys e = both_pass xs ys e

three_pass : (x y z : Bool) (r s t : Rule) → first_broken ((not x ⇒ r) ∷ (not y ⇒ s) ∷ (not z ⇒ t) ∷ []) ≡ None → (x ≡ true) × (y ≡ true) × (z ≡ true)
three_pass true true true r s t e = (refl, refl, refl)
three_pass true true false r s t e = absurd (cc)
three_pass true false z r s t e = absurd (cc)
three_pass false y z r s t e = absurd (cc)

observing_passes : (s : Label) (ring : ℕ) (o : Label) (b : Brackets) → (first_broken (observe_tests s ring o b) ≡ None) ↔ MayObserve s ring o b
observing_passes s ring o b = (passed, passes)
  where
    passed : first_broken (observe_tests s ring o b) ≡ None → MayObserve s ring o b
    passed e =
        let p = three_pass (secrecy_at_least s o) (integrity_at_least o s) (may_read b ring) _ _ _ e in record {
          no_read_up = (secrecy_twin s o).0 p.0;
          no_read_down = (integrity_twin o s).0 p.1;
          ring_reads = leb-true ring b.r2 p.2;
        }

    passes : MayObserve s ring o b → first_broken (observe_tests s ring o b) ≡ None
    passes m =
        let up : secrecy_at_least s o ≡ true = (secrecy_twin s o).1 m.no_read_up in
        let down : integrity_at_least o s ≡ true = (integrity_twin o s).1 m.no_read_down in
        let reads : may_read b ring ≡ true = le-leb ring b.r2 m.ring_reads in
        rw (up, down, reads) refl

modifying_passes : (s : Label) (ring : ℕ) (o : Label) (b : Brackets) → (first_broken (modify_tests s ring o b) ≡ None) ↔ MayModify s ring o b
modifying_passes s ring o b = (passed, passes)
  where
    passed : first_broken (modify_tests s ring o b) ≡ None → MayModify s ring o b
    passed e =
        let p = three_pass (secrecy_at_least o s) (integrity_at_least s o) (may_write b ring) _ _ _ e in record {
          no_write_down = (secrecy_twin o s).0 p.0;
          no_write_up = (integrity_twin s o).0 p.1;
          ring_writes = leb-true ring b.r1 p.2;
        }

    passes : MayModify s ring o b → first_broken (modify_tests s ring o b) ≡ None
    passes m =
        let down : secrecy_at_least o s ≡ true = (secrecy_twin o s).1 m.no_write_down in
        let up : integrity_at_least s o ≡ true = (integrity_twin s o).1 m.no_write_up in
        let writes : may_write b ring ≡ true = le-leb ring b.r1 m.ring_writes in
        rw (down, up, writes) refl

asked : (wanted : Bool) (tests : List (Bool × Rule)) → first_broken (if wanted then tests else []) ≡ None → wanted ≡ true → first_broken tests ≡ None
asked true tests e w = e
asked false tests e w = cc

answered : (wanted : Bool) (tests : List (Bool × Rule)) → (wanted ≡ true → first_broken tests ≡ None) → first_broken (if wanted then tests else []) ≡ None
answered true tests h = h refl
answered false tests h = refl

-- no rule is broken exactly where what is wanted is permitted
pub passes_where_permitted : (s : Label) (ring : ℕ) (o : Label) (b : Brackets) (want : ℕ) → (verdict s ring o b want ≡ None) ↔ IsPermitted s ring o b want
passes_where_permitted s ring o b want = (passed, passes)
  where
    passed : verdict s ring o b want ≡ None → IsPermitted s ring o b want
    passed e =
        let p = both_pass (if observes want then observe_tests s ring o b else []) (if modifies want then modify_tests s ring o b else []) e in record {
          observing = λ w. (observing_passes s ring o b).0 (asked (observes want) (observe_tests s ring o b) p.0 w);
          modifying = λ w. (modifying_passes s ring o b).0 (asked (modifies want) (modify_tests s ring o b) p.1 w);
        }

    passes : IsPermitted s ring o b want → verdict s ring o b want ≡ None
    passes m =
        front_passes (if observes want then observe_tests s ring o b else []) (if modifies want then modify_tests s ring o b else [])
        (answered (observes want) (observe_tests s ring o b) (λ w. (observing_passes s ring o b).1 (m.observing w))) ∙
        answered (modifies want) (modify_tests s ring o b) (λ w. (modifying_passes s ring o b).1 (m.modifying w))

-- an answer that is the first broken rule is Ok exactly where what is wanted is permitted
pub ok_where_permitted : {T : Type 0} (r : Result T Rule) (s : Label) (ring : ℕ) (o : Label) (b : Brackets) (want : ℕ) →
    MatchResult r (λ _. verdict s ring o b want ≡ None) (λ rule. verdict s ring o b want ≡ Some rule) → IsOk r ↔ IsPermitted s ring o b want
ok_where_permitted (Ok x) s ring o b want h = (λ _. (passes_where_permitted s ring o b want).0 h, λ _. refl)
ok_where_permitted (Err rule) s ring o b want h =
    (λ e. absurd (cc), λ m. let none : verdict s ring o b want ≡ None = (passes_where_permitted s ring o b want).1 m in absurd (cc))
