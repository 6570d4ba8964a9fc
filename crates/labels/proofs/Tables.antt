-- What is answered to a list of entries, and the order of the classes of a table.
use Rattle.std.proofs.Common.{◌≡◌, ℕ, ◌<◌, ◌≤◌, List, length, Result, Ok, Err, sym, ap, subst, ◌∙◌, arith, inl, inr}
use Rattle.std.specs.Prelude.{IsTrue}
use Rattle.std.proofs.lemmas.Bool.{cases_lt}
use Rattle.labels.specs.Label.{ClassEntry, label_of, at_or_below}
use Rattle.labels.specs.Table.{StoodBefore, IsAboveFirst, IsSound, IsTable, IsFirstAt, IsTableAnswer, AreSound, IsEntriesAnswer}
use Rattle.labels.specs.declared.fault.TableFault.{TableFault}
use Rattle.labels.specs.declared.fault.TableFault.TheVariants.{TooMany, Twice, NotLow}
use Rattle.labels.proofs.OrderLaws.{reflexive, transitive, antisymmetric, dominates_twin}

-- ---- the answer

first_at : (es : List ClassEntry) (i : ℕ) → length es ≤ 16 → i < length es → AreSound es i → IsFirstAt es i
first_at es i few within sound = record { few = few; within = within; before = λ j lt. (sound j lt).0 }

pub refused : (es : List ClassEntry) (f : TableFault) → length es ≤ 16 → IsEntriesAnswer es (Err f) → IsTableAnswer es (Err f)
refused es (TooMany given) few a = absurd a.3
refused es (Twice index) few a = subst (λ i. IsFirstAt es i × StoodBefore es i) (sym a.3.0) (first_at es a.0 few a.1 a.2, a.3.1)
refused es (NotLow index) few a = subst (λ i. IsFirstAt es i × ¬ StoodBefore es i × ¬ IsAboveFirst es i) (sym a.3.0) (first_at es a.0 few a.1 a.2, a.3.1, a.3.2)

-- something is wrong with entry i
abbrev IsFaulty : List ClassEntry → ℕ → Type 0
IsFaulty es i = ¬ IsSound es i

same_first : (es : List ClassEntry) (i j : ℕ) → IsFirstAt es i → IsFirstAt es j → IsFaulty es i → IsFaulty es j → i ≡ j
same_first es i j a b f g = elim (cases_lt i j) [
  | inl lt ↦ absurd (f (b.before i lt))
  | inr le ↦ elim (cases_lt j i) [ inl lt ↦ absurd (g (a.before j lt)) | inr ge ↦ omega (arith, le, ge) ]
]

twice_faulty : (es : List ClassEntry) (i : ℕ) → StoodBefore es i → IsFaulty es i
twice_faulty es i stood = λ sound. sound.0 stood

low_faulty : (es : List ClassEntry) (i : ℕ) → ¬ IsAboveFirst es i → IsFaulty es i
low_faulty es i low = λ sound. low sound.1

pub table_only : (es : List ClassEntry) (r s : Result (List ClassEntry) TableFault) → IsTableAnswer es r → IsTableAnswer es s → r ≡ s
table_only es (Ok t) (Ok u) a b = ap Ok (a.0 ∙ sym b.0)
table_only es (Ok t) (Err (TooMany n)) a b = absurd (omega (arith, a.1.few, b.1))
table_only es (Ok t) (Err (Twice j)) a b = absurd ((a.1.sound j b.0.within).0 b.1)
table_only es (Ok t) (Err (NotLow j)) a b = absurd (b.2 (a.1.sound j b.0.within).1)
table_only es (Err (TooMany n)) (Ok u) a b = absurd (omega (arith, b.1.few, a.1))
table_only es (Err (TooMany n)) (Err (TooMany m)) a b = ap (λ x. Err (TooMany x)) (a.0 ∙ sym b.0)
table_only es (Err (TooMany n)) (Err (Twice j)) a b = absurd (omega (arith, a.1, b.0.few))
table_only es (Err (TooMany n)) (Err (NotLow j)) a b = absurd (omega (arith, a.1, b.0.few))
table_only es (Err (Twice i)) (Ok u) a b = absurd ((b.1.sound i a.0.within).0 a.1)
table_only es (Err (Twice i)) (Err (TooMany m)) a b = absurd (omega (arith, b.1, a.0.few))
table_only es (Err (Twice i)) (Err (Twice j)) a b = ap (λ x. Err (Twice x)) (same_first es i j a.0 b.0 (twice_faulty es i a.1) (twice_faulty es j b.1))
table_only es (Err (Twice i)) (Err (NotLow j)) a b =
    let same = same_first es i j a.0 b.0 (twice_faulty es i a.1) (low_faulty es j b.2) in
    absurd (b.1 (subst (StoodBefore es) same a.1))
table_only es (Err (NotLow i)) (Ok u) a b = absurd (a.2 (b.1.sound i a.0.within).1)
table_only es (Err (NotLow i)) (Err (TooMany m)) a b = absurd (omega (arith, b.1, a.0.few))
table_only es (Err (NotLow i)) (Err (Twice j)) a b =
    let same = same_first es i j a.0 b.0 (low_faulty es i a.2) (twice_faulty es j b.1) in
    absurd (a.1 (subst (StoodBefore es) (sym same) b.1))
table_only es (Err (NotLow i)) (Err (NotLow j)) a b = ap (λ x. Err (NotLow x)) (same_first es i j a.0 b.0 (low_faulty es i a.2) (low_faulty es j b.2))

-- ---- the order of the classes

pub class_reflexive : (es : List ClassEntry) (c : ℕ) → IsTrue (at_or_below es c c)
class_reflexive es c = (dominates_twin (label_of es c) (label_of es c)).1 (reflexive (label_of es c))

pub class_transitive : (es : List ClassEntry) (c d e : ℕ) → IsTrue (at_or_below es c d) → IsTrue (at_or_below es d e) → IsTrue (at_or_below es c e)
class_transitive es c d e cd de =
    (dominates_twin (label_of es e) (label_of es c)).1 (transitive (label_of es e) (label_of es d) (label_of es c) ((dominates_twin (label_of es e) (label_of es d)).0 de) ((dominates_twin (label_of es d) (label_of es c)).0 cd))

same_labels : (es : List ClassEntry) → IsTable es → (c d : ℕ) → c < length es → d < length es → label_of es c ≡ label_of es d → c ≡ d
same_labels es t c d lt lu same = elim (cases_lt c d) [
  | inl less ↦ absurd ((t.sound d lu).0 (c, less, inr same))
  | inr le ↦ elim (cases_lt d c) [ inl more ↦ absurd ((t.sound c lt).0 (d, more, inr (sym same))) | inr ge ↦ omega (arith, le, ge) ]
]

pub class_antisymmetric : (es : List ClassEntry) → IsTable es → (c d : ℕ) → c < length es → d < length es → IsTrue (at_or_below es c d) → IsTrue (at_or_below es d c) → c ≡ d
class_antisymmetric es t c d lt lu cd dc =
    same_labels es t c d lt lu (antisymmetric (label_of es c) (label_of es d) (t.labels c lt) (t.labels d lu) ((dominates_twin (label_of es c) (label_of es d)).0 dc) ((dominates_twin (label_of es d) (label_of es c)).0 cd))

pub class_lowest : (es : List ClassEntry) → IsTable es → (c : ℕ) → c < length es → IsTrue (at_or_below es 0 c)
class_lowest es t c lt = (dominates_twin (label_of es c) (label_of es 0)).1 (t.sound c lt).1

pub ruleset classes = (class_reflexive, class_transitive, class_antisymmetric, class_lowest)
