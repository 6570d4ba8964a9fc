-- Dominating is a partial order, and its tests are those of the relation.
use Rattle.std.proofs.Common.{◌≡◌, ℕ, ◌≤◌, ◌&&◌, arith}
use Rattle.std.specs.Prelude.{◌↔◌, IsTrue, nat_le}
use Rattle.std.proofs.lemmas.Bool.{and_parts, and_from, leb-true, le-leb}
use Rattle.labels.specs.Label.{Label, includes, secrecy_at_least, integrity_at_least, dominates}
use Rattle.labels.specs.Order.{Includes, SecrecyDominates, IntegrityDominates, Dominates, IsLabel}
use Rattle.labels.proofs.Words.{same_set, includes_relation, relation_includes}
use Rattle.labels.proofs.Answer.{same_label}

pub reflexive : (a : Label) → Dominates a a
reflexive a = ((omega arith, λ k lt h. h), (omega arith, λ k lt h. h))

pub transitive : (a b c : Label) → Dominates a b → Dominates b c → Dominates a c
transitive a b c p q = ((omega (arith, p.0.0, q.0.0), λ k lt h. p.0.1 k lt (q.0.1 k lt h)), (omega (arith, p.1.0, q.1.0), λ k lt h. q.1.1 k lt (p.1.1 k lt h)))

pub antisymmetric : (a b : Label) → IsLabel a → IsLabel b → Dominates a b → Dominates b a → a ≡ b
antisymmetric a b x y p q =
    same_label a b (omega (arith, p.0.0, q.0.0)) (same_set a.secrecy_cats b.secrecy_cats x.secrecy_cats y.secrecy_cats p.0.1 q.0.1) (omega (arith, p.1.0, q.1.0)) (same_set a.integrity_cats b.integrity_cats x.integrity_cats y.integrity_cats q.1.1 p.1.1)

pub ruleset laws = (reflexive, transitive, antisymmetric)

-- ---- tests

-- a level and a set, compared
pub at_least : (low high a b : ℕ) → IsTrue (nat_le low high && includes a b) ↔ ((low ≤ high) × Includes a b)
at_least low high a b = (
  λ e. let both = and_parts (nat_le low high) (includes a b) e in (leb-true low high both.0, includes_relation a b both.1),
  λ h. and_from _ _ (le-leb low high h.0) (relation_includes a b h.1),
)

pub secrecy_twin : (a b : Label) → IsTrue (secrecy_at_least a b) ↔ SecrecyDominates a b
secrecy_twin a b = at_least b.secrecy_level a.secrecy_level a.secrecy_cats b.secrecy_cats

pub integrity_twin : (a b : Label) → IsTrue (integrity_at_least a b) ↔ IntegrityDominates a b
integrity_twin a b = at_least b.integrity_level a.integrity_level a.integrity_cats b.integrity_cats

pub dominates_twin : (a b : Label) → IsTrue (dominates a b) ↔ Dominates a b
dominates_twin a b = (
  λ e. let both = and_parts (secrecy_at_least a b) (integrity_at_least b a) e in ((secrecy_twin a b).0 both.0, (integrity_twin b a).0 both.1),
  λ h. and_from _ _ ((secrecy_twin a b).1 h.0) ((integrity_twin b a).1 h.1),
)

pub ruleset twins = (secrecy_twin, integrity_twin, dominates_twin)
