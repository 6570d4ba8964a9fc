-- Records with kept words, and their pages by place.
use Rattle.std.proofs.Common.{ℕ, zero, suc, ◌<◌, ◌≤◌, Bool, true, false, not, ◌&&◌, List, [], ◌∷◌, ◌≡◌, refl, sym, ap, ◌∙◌, Option, Some, None, cond, arith, length}
use Rattle.std.proofs.lemmas.Bool.{and_parts, and_from, eq-eqb, ltb-true, ltb-false, lt-ltb}
use Rattle.std.proofs.lemmas.List.Folds.{find_at}
use Rattle.std.specs.Prelude.{◌==◌, if◌then◌else◌, nat_lt, slice_get, is_some}
use Rattle.std.specs.List.{filter, find, list_all, position, position_or_len, prefix_len}
use Rattle.std.specs.Option.{option_and_then}
use Rattle.words_layout.specs.Segments.{same_seg}
use Rattle.words_layout.specs.declared.segment.SegId.{SegId}
use Rattle.class_model.specs.Config.{SegRecord}
use Rattle.flow_laws.proofs.LowValid.{seg_is}

-- what find finds passes the test
pub find_true : {X : Type 0} (test : X → Bool) (xs : List X) (x : X) → find test xs ≡ Some x → test x ≡ true
find_true test [] x h = cc
find_true test (y ∷ ys) x h = elim (test y) as (λ b. test y ≡ b → cond b (Some y) (find test ys) ≡ Some x → test x ≡ true) [
  | true ↦ λ e k. let same : y ≡ x = cc in rw (← same) e
  | false ↦ λ e k. find_true test ys x k
] refl h

-- ---- lists

pub get_passes : {X : Type 0} (test : X → Bool) (xs : List X) (i : ℕ) (x : X) → list_all test xs ≡ true → slice_get xs i ≡ Some x → test x ≡ true
get_passes test [] i x h e = cc
get_passes test (y ∷ ys) zero x h e = (let a : (test y ≡ true) × (list_all test ys ≡ true) = and_parts _ _ h in let same : y ≡ x = cc in rw (← same) a.0)
get_passes test (y ∷ ys) (suc i) x h e = (let a : (test y ≡ true) × (list_all test ys ≡ true) = and_parts _ _ h in get_passes test ys i x a.1 e)

pub find_passes : {X : Type 0} (test all : X → Bool) (xs : List X) (x : X) → list_all all xs ≡ true → find test xs ≡ Some x → all x ≡ true
find_passes test all [] x h e = cc
find_passes test all (y ∷ ys) x h e =
    let a : (all y ≡ true) × (list_all all ys ≡ true) = and_parts _ _ h in
    elim (test y) as (λ b. (if b then Some y else find test ys) ≡ Some x → all x ≡ true) [
      | true ↦ λ f. (let same : y ≡ x = cc in rw (← same) a.0)
      | false ↦ λ f. find_passes test all ys x a.1 f
    ] e

pub get_there : {X : Type 0} (xs : List X) (i : ℕ) → i < length xs → (x : X) × (slice_get xs i ≡ Some x)
get_there [] i h = absurd (omega arith)
get_there (x ∷ xs) zero h = (x, refl)
get_there (x ∷ xs) (suc i) h = get_there xs i (omega arith)

pub get_within : {X : Type 0} (xs : List X) (i : ℕ) (x : X) → slice_get xs i ≡ Some x → i < length xs
get_within [] i x h = cc
get_within (y ∷ ys) zero x h = omega arith
get_within (y ∷ ys) (suc i) x h = let r : i < length ys = get_within ys i x h in omega (arith, r)

get_past : {X : Type 0} (xs : List X) (i : ℕ) → length xs ≤ i → slice_get xs i ≡ None
get_past [] i h = refl
get_past (x ∷ xs) zero h = absurd (omega arith)
get_past (x ∷ xs) (suc i) h = get_past xs i (omega arith)

-- what has a position stands there, and is what is found
pub record PositionIs {X : Type 0} (test : X → Bool) (xs : List X) (i : ℕ) : Type 0 where
  pub item : X
  pub there : slice_get xs i ≡ Some item
  pub found : find test xs ≡ Some item
  pub passes : test item ≡ true

pub position_is : {X : Type 0} (test : X → Bool) (xs : List X) (i : ℕ) → position test xs ≡ Some i → PositionIs test xs i
position_is test xs i h = by_test (nat_lt (position_or_len test xs) (length xs)) refl h
  where
    by_test : (b : Bool) → nat_lt (position_or_len test xs) (length xs) ≡ b → (if b then Some (position_or_len test xs) else None) ≡ Some i → PositionIs test xs i
    by_test true e f =
        let same : position_or_len test xs ≡ i = cc in
        let there = get_there xs (position_or_len test xs) (ltb-true (position_or_len test xs) (length xs) e) in
        let found : find test xs ≡ Some there.0 = find_at test xs ∙ there.1 in
        record { item = there.0; there = ap (slice_get xs) (sym same) ∙ there.1; found = found; passes = find_true test xs there.0 found }
    by_test false e f = cc

-- what has none isn't found
pub position_none : {X : Type 0} (test : X → Bool) (xs : List X) → position test xs ≡ None → find test xs ≡ None
position_none test xs h = by_test (nat_lt (position_or_len test xs) (length xs)) refl h
  where
    by_test : (b : Bool) → nat_lt (position_or_len test xs) (length xs) ≡ b → (if b then Some (position_or_len test xs) else None) ≡ None → find test xs ≡ None
    by_test true e f = cc
    by_test false e f = find_at test xs ∙ get_past xs (position_or_len test xs) (ltb-false (position_or_len test xs) (length xs) e)

-- ---- identities that differ

pub same_seg_refl : (u : SegId) → same_seg u u ≡ true
same_seg_refl u = and_from _ _ (eq-eqb u.mentor u.mentor refl) (eq-eqb u.serial u.serial refl)

-- no later record has the identity of an earlier one
abbrev pub segs_apart : List SegRecord → Bool
segs_apart [] = true
segs_apart (r ∷ rs) = list_all (λ (x : SegRecord). not (same_seg x.seg r.seg)) rs && segs_apart rs

not_true : (b : Bool) → not b ≡ true → b ≡ true → ⊥
not_true true h e = cc
not_true false h e = cc

not_false : (b : Bool) → not b ≡ true → b ≡ false
not_false true h = cc
not_false false h = refl

pub list_all_filter : {X : Type 0} (all test : X → Bool) (xs : List X) → list_all all xs ≡ true → list_all all (filter test xs) ≡ true
list_all_filter all test [] h = refl
list_all_filter all test (x ∷ xs) h =
    let a : (all x ≡ true) × (list_all all xs ≡ true) = and_parts _ _ h in
    elim (test x) as (λ b. list_all all (if b then x ∷ filter test xs else filter test xs) ≡ true) [
      | true ↦ and_from _ _ a.0 (list_all_filter all test xs a.1)
      | false ↦ list_all_filter all test xs a.1
    ]

pub apart_filter : (test : SegRecord → Bool) (rs : List SegRecord) → segs_apart rs ≡ true → segs_apart (filter test rs) ≡ true
apart_filter test [] h = refl
apart_filter test (r ∷ rs) h =
    let a : (list_all (λ (x : SegRecord). not (same_seg x.seg r.seg)) rs ≡ true) × (segs_apart rs ≡ true) = and_parts _ _ h in
    elim (test r) as (λ b. segs_apart (if b then r ∷ filter test rs else filter test rs) ≡ true) [
      | true ↦ and_from _ _ (list_all_filter (λ (x : SegRecord). not (same_seg x.seg r.seg)) test rs a.0) (apart_filter test rs a.1)
      | false ↦ apart_filter test rs a.1
    ]

-- a record is the first one of its identity
pub position_of : (rs : List SegRecord) (i : ℕ) (r : SegRecord) → segs_apart rs ≡ true → slice_get rs i ≡ Some r → position (λ (x : SegRecord). same_seg x.seg r.seg) rs ≡ Some i
position_of rs i r h e =
    let n : position_or_len (λ (x : SegRecord). same_seg x.seg r.seg) rs ≡ i = counted rs i h e in
    let within : nat_lt i (length rs) ≡ true = lt-ltb i (length rs) (get_within rs i r e) in
    ap (λ m. if nat_lt m (length rs) then Some m else None) n ∙ rw within refl
  where
    counted : (rs : List SegRecord) (i : ℕ) → segs_apart rs ≡ true → slice_get rs i ≡ Some r → prefix_len (λ (x : SegRecord). not (same_seg x.seg r.seg)) rs ≡ i
    counted [] i h e = cc
    counted (x ∷ rs) zero h e =
        let same : x ≡ r = cc in
        let passes : same_seg x.seg r.seg ≡ true = ap (λ (z : SegRecord). same_seg z.seg r.seg) same ∙ same_seg_refl r.seg in
        rw passes refl
    counted (x ∷ rs) (suc i) h e =
        let a : (list_all (λ (y : SegRecord). not (same_seg y.seg x.seg)) rs ≡ true) × (segs_apart rs ≡ true) = and_parts _ _ h in
        let apart : not (same_seg r.seg x.seg) ≡ true = get_passes (λ (y : SegRecord). not (same_seg y.seg x.seg)) rs i r a.0 e in
        let fails : same_seg x.seg r.seg ≡ false = by_test (same_seg x.seg r.seg) refl apart in
        rw fails (let n : prefix_len (λ (x : SegRecord). not (same_seg x.seg r.seg)) rs ≡ i = counted rs i a.1 e in omega (arith, n))
      where
        by_test : (b : Bool) → same_seg x.seg r.seg ≡ b → not (same_seg r.seg x.seg) ≡ true → b ≡ false
        by_test true g k = absurd (not_true (same_seg r.seg x.seg) k (ap (λ z. same_seg r.seg z) (seg_is x.seg r.seg g) ∙ same_seg_refl r.seg))
        by_test false g k = refl

find_nothing : {X : Type 0} (test : X → Bool) (xs : List X) → list_all (λ x. not (test x)) xs ≡ true → find test xs ≡ None
find_nothing test [] h = refl
find_nothing test (x ∷ xs) h =
    let a : (not (test x) ≡ true) × (list_all (λ x. not (test x)) xs ≡ true) = and_parts _ _ h in
    let fails : test x ≡ false = not_false (test x) a.0 in
    rw fails (find_nothing test xs a.1)

-- What is kept of the one record of a class and an identity is what is kept of that identity among the kept records of the class.
module _ (c : ℕ) (u : SegId) where
  abbrev kept_record : SegRecord → Bool
  kept_record r = r.class == c && is_some r.kept

  pub kept_found : (rs : List SegRecord) → segs_apart rs ≡ true →
      option_and_then (λ (r : SegRecord). r.kept) (find (λ (r : SegRecord). r.class == c && same_seg r.seg u) rs) ≡
      option_and_then (λ (r : SegRecord). r.kept) (find (λ (r : SegRecord). same_seg r.seg u) (filter kept_record rs))
  kept_found [] h = refl
  kept_found (r ∷ rs) h =
      let a : (list_all (λ (x : SegRecord). not (same_seg x.seg r.seg)) rs ≡ true) × (segs_apart rs ≡ true) = and_parts _ _ h in
      by_tests (kept_found rs a.1) a.0 (r.class == c) (same_seg r.seg u) refl r.kept refl
    where
      none_left : list_all (λ (x : SegRecord). not (same_seg x.seg r.seg)) rs ≡ true → same_seg r.seg u ≡ true → find (λ (x : SegRecord). same_seg x.seg u) (filter kept_record rs) ≡ None
      none_left apart same = find_nothing (λ (x : SegRecord). same_seg x.seg u) (filter kept_record rs)
          (list_all_filter (λ (x : SegRecord). not (same_seg x.seg u)) kept_record rs (ap (λ z. list_all (λ (x : SegRecord). not (same_seg x.seg z)) rs) (sym (seg_is r.seg u same)) ∙ apart))

      by_tests : option_and_then (λ (r : SegRecord). r.kept) (find (λ (r : SegRecord). r.class == c && same_seg r.seg u) rs) ≡ option_and_then (λ (r : SegRecord). r.kept) (find (λ (r : SegRecord). same_seg r.seg u) (filter kept_record rs)) →
          list_all (λ (x : SegRecord). not (same_seg x.seg r.seg)) rs ≡ true → (b s : Bool) → same_seg r.seg u ≡ s → (o : Option (List ℕ)) → r.kept ≡ o →
          option_and_then (λ (r : SegRecord). r.kept) (if b && s then Some r else find (λ (r : SegRecord). r.class == c && same_seg r.seg u) rs) ≡
          option_and_then (λ (r : SegRecord). r.kept) (find (λ (r : SegRecord). same_seg r.seg u) (if b && is_some o then r ∷ filter kept_record rs else filter kept_record rs))
      by_tests rest apart false s e o f = rest
      by_tests rest apart true true e (Some words) f = rw e refl
      by_tests rest apart true true e None f = f ∙ sym (ap (option_and_then (λ (r : SegRecord). r.kept)) (none_left apart e))
      by_tests rest apart true false e (Some words) f = rw e rest
      by_tests rest apart true false e None f = rest
