-- The tests of a class line, and the relations of a table of classes.
use Rattle.std.proofs.Common.{◌≡◌, ℕ, zero, suc, ◌+◌, ◌-◌, ◌*◌, ◌%◌, ◌^◌, ◌<◌, ◌≤◌, Bool, true, false, not, cond, eqb, ltb, leb, ◌&&◌, ◌||◌, List, [], ◌∷◌, ◌++◌, length, get_or, min, Option, Some, None, Result, Ok, Err, refl, sym, ap, subst, ◌∙◌, arith, inl, inr, ◌⊎◌}
use Rattle.std.specs.Prelude.{bit_or}
use Rattle.std.specs.Option.{option_map}
use Rattle.std.specs.Result.{result_ok}
use Rattle.std.specs.List.{list_any}
use Rattle.std.specs.Str.{bytes_eq}
use Rattle.std.proofs.lemmas.Bool.{and_parts, and_from, eqb-true, eq-eqb, cases_lt, ltb-false}
use Rattle.std.proofs.lemmas.List.{length_push}
use Rattle.std.proofs.lemmas.Nat.{or_lt}
use Rattle.std.proofs.lemmas.Slice.Eq.{bytes_eq-Decides}
use Rattle.labels.specs.Label.{Label, ClassEntry, class_at, label_of, no_class, dominates}
use Rattle.labels.specs.Order.{Dominates, IsLabel}
use Rattle.labels.specs.Table.{IsSameEntry, StoodBefore, IsAboveFirst, IsSound, IsTable}
use Rattle.labels.specs.Reading.{label_of_text, read_label, label_of_form, label_of_halves, label_with, seen_form, form_of, rising, with_category, start as no_categories}
use Rattle.labels.specs.declared.half.Half.{Half}
use Rattle.labels.specs.declared.half.Rising.{Rising}
use Rattle.labels.specs.declared.fault.LabelFault.{LabelFault}
use Rattle.labels.specs.declared.fault.LabelFault.TheVariants.{Level}
use Rattle.labels.proofs.OrderLaws.{dominates_twin, reflexive}
use Rattle.labels.proofs.Answer.{same_label as equal_label}
use Rattle.config_text.specs.Rules.{Text, same_label, stood_before, is_low}
use Rattle.config_text.proofs.WordFacts.{not_false, or_false}

-- ---- a label that is read is one

category_low : (c : Rising) (n : ℕ) (d : Rising) → c.word < 2 ^ 32 → with_category c n ≡ Some d → d.word < 2 ^ 32
category_low c n d low e =
    elim (leb c.next n && ltb n 32) as (λ b. cond b (Some (record { word = bit_or c.word (1 * 2 ^ n % 2 ^ 32); next = n + 1 })) None ≡ Some d → d.word < 2 ^ 32) [
      | true ↦ λ some.
          let same : record { word = bit_or c.word (1 * 2 ^ n % 2 ^ 32); next = n + 1 } ≡ d = cc in
          subst (λ (x : Rising). x.word < 2 ^ 32) same (or_lt 32 c.word (1 * 2 ^ n % 2 ^ 32) low (omega arith))
      | false ↦ λ none. absurd cc
    ] e

rising_low : (ns : List ℕ) (o : Option Rising) (w : ℕ) → ((c : Rising) → o ≡ Some c → c.word < 2 ^ 32) → rising o ns ≡ Some w → w < 2 ^ 32
rising_low [] None w low e = absurd cc
rising_low [] (Some c) w low e = let same : c.word ≡ w = cc in subst (λ x. x < 2 ^ 32) same (low c refl)
rising_low (n ∷ ns) None w low e = absurd cc
rising_low (n ∷ ns) (Some c) w low e = rising_low ns (with_category c n) w (λ d is. category_low c n d (low c refl) is) e

start_low : (c : Rising) → Some no_categories ≡ Some c → c.word < 2 ^ 32
start_low c e = let same : no_categories ≡ c = cc in subst (λ (x : Rising). x.word < 2 ^ 32) same (omega arith)

with_low : (s i : ℕ) (a b : Option ℕ) (l : Label) → s ≤ 15 → i ≤ 15 → ((w : ℕ) → a ≡ Some w → w < 2 ^ 32) → ((w : ℕ) → b ≡ Some w → w < 2 ^ 32) → result_ok (label_with s i a b) ≡ Some l → IsLabel l
with_low s i (Some v) (Some w) l ls li a b e =
    let same : record { secrecy_level = s; secrecy_cats = v; integrity_level = i; integrity_cats = w } ≡ l = cc in
    subst IsLabel same (record { secrecy_level = ls; secrecy_cats = a v refl; integrity_level = li; integrity_cats = b w refl })
with_low s i (Some v) None l ls li a b e = absurd cc
with_low s i None o l ls li a b e = absurd cc

halves_low : (s i : Half) (l : Label) → ((w : ℕ) → s.cats ≡ Some w → w < 2 ^ 32) → ((w : ℕ) → i.cats ≡ Some w → w < 2 ^ 32) → result_ok (label_of_halves s i) ≡ Some l → IsLabel l
halves_low s i l a b e =
    elim (ltb 15 s.level) as (λ t. ltb 15 s.level ≡ t → result_ok (cond t (Err Level) (cond (ltb 15 i.level) (Err Level) (label_with s.level i.level s.cats i.cats))) ≡ Some l → IsLabel l) [
      | true ↦ λ high none. absurd cc
      | false ↦ λ low rest.
          elim (ltb 15 i.level) as (λ t. ltb 15 i.level ≡ t → result_ok (cond t (Err Level) (label_with s.level i.level s.cats i.cats)) ≡ Some l → IsLabel l) [
            | true ↦ λ high none. absurd cc
            | false ↦ λ lower some. with_low s.level i.level s.cats i.cats l (ltb-false _ _ low) (ltb-false _ _ lower) a b some
          ] refl rest
    ] refl e

form_low : (o : Option ((ℕ × List ℕ) × (ℕ × List ℕ))) (l : Label) → result_ok (label_of_form (option_map seen_form o)) ≡ Some l → IsLabel l
form_low None l e = absurd cc
form_low (Some h) l e = halves_low (seen_form h).0 (seen_form h).1 l (λ w is. rising_low h.0.1 (Some no_categories) w start_low is) (λ w is. rising_low h.1.1 (Some no_categories) w start_low is) e

pub read_is_label : (w : Text) (l : Label) → label_of_text w ≡ Some l → IsLabel l
unfolding read_label
read_is_label w l e = form_low (form_of w) l e

-- ---- names and labels that stood before

same_is : (a b : Label) → same_label a b ≡ true → a ≡ b
same_is a b e =
    let x = and_parts (eqb a.secrecy_level b.secrecy_level && eqb a.secrecy_cats b.secrecy_cats && eqb a.integrity_level b.integrity_level) (eqb a.integrity_cats b.integrity_cats) e in
    let y = and_parts (eqb a.secrecy_level b.secrecy_level && eqb a.secrecy_cats b.secrecy_cats) (eqb a.integrity_level b.integrity_level) x.0 in
    let z = and_parts (eqb a.secrecy_level b.secrecy_level) (eqb a.secrecy_cats b.secrecy_cats) y.0 in
    equal_label a b (eqb-true _ _ z.0) (eqb-true _ _ z.1) (eqb-true _ _ y.1) (eqb-true _ _ x.1)

is_same : (a b : Label) → a ≡ b → same_label a b ≡ true
is_same a b e = subst (λ x. same_label a x ≡ true) e (rw (eq-eqb a.secrecy_level a.secrecy_level refl, eq-eqb a.secrecy_cats a.secrecy_cats refl, eq-eqb a.integrity_level a.integrity_level refl, eq-eqb a.integrity_cats a.integrity_cats refl) refl)

-- the entry of a name and a label
abbrev pub entry : Text → Label → ClassEntry
entry name l = record { name = name; label = l }

-- No entry of a table that the test passes has the name or the label.
pub none_stood : (t : List ClassEntry) (name : Text) (l : Label) → stood_before t name l ≡ false → (j : ℕ) → j < length t → ¬ IsSameEntry (class_at t j) (entry name l)
none_stood [] name l e j lt = absurd (omega (arith, lt))
none_stood (c ∷ cs) name l e zero lt =
    let both = or_false (bytes_eq c.name name || same_label c.label l) (stood_before cs name l) e in
    let parts = or_false (bytes_eq c.name name) (same_label c.label l) both.0 in
    λ same. elim same [
      | inl n ↦ absurd (let is = (bytes_eq-Decides c.name name).1 n in let f : true ≡ false = sym is ∙ parts.0 in cc)
      | inr m ↦ absurd (let is = is_same c.label l m in let f : true ≡ false = sym is ∙ parts.1 in cc)
    ]
none_stood (c ∷ cs) name l e (suc j) lt =
    let both = or_false (bytes_eq c.name name || same_label c.label l) (stood_before cs name l) e in
    none_stood cs name l both.1 j (omega (arith, lt))

same_entry : (c : ClassEntry) (name : Text) (l : Label) → ¬ IsSameEntry c (entry name l) → (bytes_eq c.name name || same_label c.label l) ≡ false
same_entry c name l apart =
    elim (bytes_eq c.name name) as (λ b. bytes_eq c.name name ≡ b → (b || same_label c.label l) ≡ false) [
      | true ↦ λ is. absurd (apart (inl ((bytes_eq-Decides c.name name).0 is)))
      | false ↦ λ no. elim (same_label c.label l) as (λ b. same_label c.label l ≡ b → b ≡ false) [
        | true ↦ λ is. absurd (apart (inr (same_is c.label l is)))
        | false ↦ λ none. refl
      ] refl
    ] refl

-- And the other way round.
pub stood_none : (t : List ClassEntry) (name : Text) (l : Label) → ((j : ℕ) → j < length t → ¬ IsSameEntry (class_at t j) (entry name l)) → stood_before t name l ≡ false
stood_none [] name l apart = refl
stood_none (c ∷ cs) name l apart = rw (same_entry c name l (apart 0 (omega arith)), stood_none cs name l (λ j lt. apart (suc j) (omega (arith, lt)))) refl

-- ---- a table that grows

-- each class is sound, and has a name and a label
pub record IsSoundTable (t : List ClassEntry) : Type 0 where
  pub sound : (i : ℕ) → i < length t → IsSound t i
  pub labels : (i : ℕ) → i < length t → IsLabel (label_of t i)

front_at : (t : List ClassEntry) (x : ClassEntry) (i : ℕ) → i < length t → class_at (t ++ x ∷ []) i ≡ class_at t i
front_at [] x i lt = absurd (omega (arith, lt))
front_at (c ∷ cs) x zero lt = refl
front_at (c ∷ cs) x (suc i) lt = front_at cs x i (omega (arith, lt))

last_at : (t : List ClassEntry) (x : ClassEntry) → class_at (t ++ x ∷ []) (length t) ≡ x
last_at [] x = refl
last_at (c ∷ cs) x = last_at cs x

long : (t : List ClassEntry) (x : ClassEntry) → length (t ++ x ∷ []) ≡ length t + 1
long t x = length_push t x

first_same : (t : List ClassEntry) (x : ClassEntry) → 0 < length t → class_at (t ++ x ∷ []) 0 ≡ class_at t 0
first_same t x some = front_at t x 0 some

low_first : (t : List ClassEntry) (l : Label) → 0 < length t → is_low t l ≡ not (dominates l (label_of t 0))
low_first [] l some = absurd (omega (arith, some))
low_first (c ∷ cs) l some = refl

sound_front : (t : List ClassEntry) (x : ClassEntry) (i : ℕ) → i < length t → IsSound t i → IsSound (t ++ x ∷ []) i
sound_front t x i lt s = (
  λ stood. s.0 (stood.0, stood.1, subst (λ y. IsSameEntry (class_at t stood.0) y) (front_at t x i lt) (subst (λ y. IsSameEntry y (class_at (t ++ x ∷ []) i)) (front_at t x stood.0 (omega (arith, stood.1, lt))) stood.2)),
  subst (λ y. Dominates y.label (label_of (t ++ x ∷ []) 0)) (sym (front_at t x i lt)) (subst (λ y. Dominates (label_of t i) y.label) (sym (first_same t x (omega (arith, lt)))) s.1),
)

last_above : (t : List ClassEntry) (name : Text) (l : Label) → is_low t l ≡ false → Dominates l (label_of (t ++ entry name l ∷ []) 0)
last_above [] name l high = reflexive l
last_above (c ∷ cs) name l high = (dominates_twin l c.label).0 (not_false (dominates l c.label) high)

-- a class more
pub sound_push : (t : List ClassEntry) (name : Text) (l : Label) → IsSoundTable t → IsLabel l → stood_before t name l ≡ false → is_low t l ≡ false → IsSoundTable (t ++ entry name l ∷ [])
sound_push t name l s is new high = record {
  sound = λ i lt. elim (cases_lt i (length t)) [
    | inl below ↦ sound_front t (entry name l) i below (s.sound i below)
    | inr past ↦
        let at : i ≡ length t = omega (arith, past, lt, long t (entry name l)) in
        subst (IsSound (t ++ entry name l ∷ [])) (sym at) (
          λ stood. none_stood t name l new stood.0 stood.1 (subst (λ y. IsSameEntry (class_at t stood.0) y) (last_at t (entry name l)) (subst (λ y. IsSameEntry y (class_at (t ++ entry name l ∷ []) (length t))) (front_at t (entry name l) stood.0 stood.1) stood.2)),
          subst (λ y. Dominates y.label (label_of (t ++ entry name l ∷ []) 0)) (sym (last_at t (entry name l))) (last_above t name l high),
        )
  ];
  labels = λ i lt. elim (cases_lt i (length t)) [
    | inl below ↦ subst (λ y. IsLabel y.label) (sym (front_at t (entry name l) i below)) (s.labels i below)
    | inr past ↦
        let at : i ≡ length t = omega (arith, past, lt, long t (entry name l)) in
        subst (λ k. IsLabel (label_of (t ++ entry name l ∷ []) k)) (sym at) (subst (λ y. IsLabel y.label) (sym (last_at t (entry name l))) is)
  ];
}
