-- Searches through volumes, one after the other.
use Rattle.std.proofs.Common.{ℕ, ◌+◌, ◌<◌, ◌≤◌, Bool, true, false, ◌||◌, List, [], ◌∷◌, ◌++◌, ◌≡◌, refl, sym, ap, ◌∙◌, Option, Some, None, cond, arith, length, get_or, take, drop, append_assoc}
use Rattle.std.proofs.lemmas.List.{drop_more, drop_all, take_more, take_all}
use Rattle.std.proofs.lemmas.List.Concat.{flat_map-cons, flat_map-append}
use Rattle.std.proofs.lemmas.List.Folds.{list_any-append, find-append, length-flat_map-take}
use Rattle.std.proofs.lemmas.List.Sums.{count_by-le-length, sum_by-append}
use Rattle.std.specs.Prelude.{count_by}
use Rattle.std.specs.List.{list_any, find}
use Rattle.std.specs.Option.{option_map, option_or}
use Rattle.class_model.specs.Config.{SegRecord}
use Rattle.loader.specs.Records.{Volumes, records_of}

-- the records from volume i on: those of it, and those of the later ones
pub rest_of : (vs : Volumes) (i : ℕ) (x : ℕ × List SegRecord) → i < length vs → records_of (drop i vs) ≡ (get_or vs i x).1 ++ records_of (drop (i + 1) vs)
rest_of vs i x lt = ap records_of (drop_more vs i x lt) ∙ flat_map-cons (λ (v : ℕ × List SegRecord). v.1) (get_or vs i x) (drop (i + 1) vs)

-- ---- whether a record passes

or_true : (a b : Bool) → a ≡ true → (a || b) ≡ true
or_true true b e = refl
or_true false b e = absurd cc

or_false : (a b : Bool) → a ≡ false → (a || b) ≡ b
or_false false b e = refl
or_false true b e = absurd cc

module _ (p : SegRecord → Bool) (front : List SegRecord) (vs : Volumes) where
  -- whether one does from volume i on, or one of those in front
  abbrev pub any_from : ℕ → Bool
  any_from i = list_any p (records_of (drop i vs) ++ front)

  any_parts : (i : ℕ) (x : ℕ × List SegRecord) (rs : List SegRecord) → i < length vs → rs ≡ (get_or vs i x).1 → any_from i ≡ (list_any p rs || any_from (i + 1))
  any_parts i x rs lt e =
      let more : List SegRecord = records_of (drop (i + 1) vs) in
      let parts : records_of (drop i vs) ++ front ≡ rs ++ (more ++ front) =
      ap (λ (t : List SegRecord). t ++ front) (rest_of vs i x lt ∙ ap (λ (t : List SegRecord). t ++ more) (sym e)) ∙ append_assoc rs more front in
      ap (list_any p) parts ∙ list_any-append p rs (more ++ front)

  pub any_found : (i : ℕ) (x : ℕ × List SegRecord) (rs : List SegRecord) (w found : Bool) → any_from i ≡ w → i < length vs → rs ≡ (get_or vs i x).1 → found ≡ list_any p rs → found ≡ true → true ≡ w
  any_found i x rs w found so_far lt e is holds =
      sym (any_parts i x rs lt e ∙ or_true (list_any p rs) (any_from (i + 1)) (sym is ∙ holds)) ∙ so_far

  pub any_passed : (i : ℕ) (x : ℕ × List SegRecord) (rs : List SegRecord) (w found : Bool) → any_from i ≡ w → i < length vs → rs ≡ (get_or vs i x).1 → found ≡ list_any p rs → found ≡ false → any_from (i + 1) ≡ w
  any_passed i x rs w found so_far lt e is fails =
      sym (any_parts i x rs lt e ∙ or_false (list_any p rs) (any_from (i + 1)) (sym is ∙ fails)) ∙ so_far

  pub any_ended : (i : ℕ) (w : Bool) → any_from i ≡ w → length vs ≤ i → list_any p front ≡ w
  any_ended i w so_far le = sym (ap (λ (t : Volumes). list_any p (records_of t ++ front)) (drop_all i vs le)) ∙ so_far

-- ---- the class of the first that passes

abbrev pub class_in : Option SegRecord → Option ℕ
class_in o = option_map (λ (r : SegRecord). r.class) o

or_some : (o q : Option SegRecord) (c : ℕ) → class_in o ≡ Some c → class_in (option_or o q) ≡ Some c
or_some (Some x) q c e = e
or_some None q c e = absurd cc

or_none : (o q : Option SegRecord) → class_in o ≡ None → class_in (option_or o q) ≡ class_in q
or_none None q e = refl
or_none (Some x) q e = absurd cc

module _ (p : SegRecord → Bool) where
  pub item_found : (rs : List SegRecord) (i : ℕ) (x : SegRecord) (w : Option ℕ) (found : Bool) → class_in (find p (drop i rs)) ≡ w → i < length rs → x ≡ get_or rs i x → found ≡ p x → found ≡ true → Some x.class ≡ w
  item_found rs i x w found so_far lt e is holds =
      let here : drop i rs ≡ x ∷ drop (i + 1) rs = drop_more rs i x lt ∙ ap (λ (z : SegRecord). z ∷ drop (i + 1) rs) (sym e) in
      let one : class_in (cond (p x) (Some x) (find p (drop (i + 1) rs))) ≡ Some x.class = ap (λ (b : Bool). class_in (cond b (Some x) (find p (drop (i + 1) rs)))) (sym is ∙ holds) in
      sym (ap (λ (t : List SegRecord). class_in (find p t)) here ∙ one) ∙ so_far

  pub item_passed : (rs : List SegRecord) (i : ℕ) (x : SegRecord) (w : Option ℕ) (found : Bool) → class_in (find p (drop i rs)) ≡ w → i < length rs → x ≡ get_or rs i x → found ≡ p x → found ≡ false → class_in (find p (drop (i + 1) rs)) ≡ w
  item_passed rs i x w found so_far lt e is fails =
      let here : drop i rs ≡ x ∷ drop (i + 1) rs = drop_more rs i x lt ∙ ap (λ (z : SegRecord). z ∷ drop (i + 1) rs) (sym e) in
      let one : class_in (cond (p x) (Some x) (find p (drop (i + 1) rs))) ≡ class_in (find p (drop (i + 1) rs)) = ap (λ (b : Bool). class_in (cond b (Some x) (find p (drop (i + 1) rs)))) (sym is ∙ fails) in
      sym (ap (λ (t : List SegRecord). class_in (find p t)) here ∙ one) ∙ so_far

  pub items_ended : (rs : List SegRecord) (i : ℕ) (w : Option ℕ) → class_in (find p (drop i rs)) ≡ w → length rs ≤ i → None ≡ w
  items_ended rs i w so_far le = sym (ap (λ (t : List SegRecord). class_in (find p t)) (drop_all i rs le)) ∙ so_far

  module _ (vs : Volumes) where
    abbrev pub class_from : ℕ → Option ℕ
    class_from i = class_in (find p (records_of (drop i vs)))

    class_parts : (i : ℕ) (x : ℕ × List SegRecord) (rs : List SegRecord) → i < length vs → rs ≡ (get_or vs i x).1 → class_from i ≡ class_in (option_or (find p rs) (find p (records_of (drop (i + 1) vs))))
    class_parts i x rs lt e =
        let more : List SegRecord = records_of (drop (i + 1) vs) in
        ap (λ (t : List SegRecord). class_in (find p t)) (rest_of vs i x lt ∙ ap (λ (t : List SegRecord). t ++ more) (sym e)) ∙ ap class_in (find-append p rs more)

    pub class_found : (i : ℕ) (x : ℕ × List SegRecord) (rs : List SegRecord) (w o : Option ℕ) (c : ℕ) → class_from i ≡ w → i < length vs → rs ≡ (get_or vs i x).1 → o ≡ class_in (find p rs) → o ≡ Some c → Some c ≡ w
    class_found i x rs w o c so_far lt e is some =
        sym (class_parts i x rs lt e ∙ or_some (find p rs) (find p (records_of (drop (i + 1) vs))) c (sym is ∙ some)) ∙ so_far

    pub class_passed : (i : ℕ) (x : ℕ × List SegRecord) (rs : List SegRecord) (w o : Option ℕ) → class_from i ≡ w → i < length vs → rs ≡ (get_or vs i x).1 → o ≡ class_in (find p rs) → o ≡ None → class_from (i + 1) ≡ w
    class_passed i x rs w o so_far lt e is none =
        sym (class_parts i x rs lt e ∙ or_none (find p rs) (find p (records_of (drop (i + 1) vs))) (sym is ∙ none)) ∙ so_far

    pub classes_ended : (i : ℕ) (w : Option ℕ) → class_from i ≡ w → length vs ≤ i → None ≡ w
    classes_ended i w so_far le = sym (ap (λ (t : Volumes). class_in (find p (records_of t))) (drop_all i vs le)) ∙ so_far

-- ---- how many pass

module _ (p : SegRecord → Bool) (vs : Volumes) where
  taken_more : (i : ℕ) (x : ℕ × List SegRecord) → i < length vs → records_of (take (i + 1) vs) ≡ records_of (take i vs) ++ ((get_or vs i x).1 ++ [])
  taken_more i x lt = ap records_of (take_more vs i x lt) ∙ flat_map-append (λ (v : ℕ × List SegRecord). v.1) (take i vs) (get_or vs i x ∷ [])

  pub count_more : (i : ℕ) (x : ℕ × List SegRecord) (rs : List SegRecord) (n m : ℕ) → n ≡ count_by p (records_of (take i vs)) → i < length vs → rs ≡ (get_or vs i x).1 → m ≡ count_by p rs → n + m ≡ count_by p (records_of (take (i + 1) vs))
  count_more i x rs n m so_far lt e is =
      let a : List SegRecord = records_of (take i vs) in
      let parts = ap (count_by p) (taken_more i x lt ∙ ap (λ (t : List SegRecord). a ++ (t ++ [])) (sym e)) in
      let split = sum_by-append (λ (r : SegRecord). cond (p r) 1 0) a (rs ++ []) in
      let end = sum_by-append (λ (r : SegRecord). cond (p r) 1 0) rs [] in
      omega (arith, parts, split, end, so_far, is)

  pub count_small : (i : ℕ) (x : ℕ × List SegRecord) (rs : List SegRecord) (n m : ℕ) → n ≡ count_by p (records_of (take i vs)) → i < length vs → rs ≡ (get_or vs i x).1 → m ≡ count_by p rs → n + m ≤ length (records_of vs)
  count_small i x rs n m so_far lt e is =
      let a : List SegRecord = records_of (take i vs) in
      omega (arith, so_far, is, ap length e, count_by-le-length p a, count_by-le-length p rs, length-flat_map-take (λ (v : ℕ × List SegRecord). v.1) vs i x lt)

  pub count_ended : (i n : ℕ) → n ≡ count_by p (records_of (take i vs)) → length vs ≤ i → n ≡ count_by p (records_of vs)
  count_ended i n so_far le = so_far ∙ ap (λ (t : Volumes). count_by p (records_of t)) (take_all i vs le)
