-- Console lines by place.
use Rattle.std.proofs.Common.{◌≡◌, ◌≢◌, ℕ, ◌+◌, ◌-◌, ◌<◌, ◌≤◌, List, [], ◌∷◌, ◌++◌, length, take, drop, get_or, refl, sym, ap, subst, ◌∙◌, arith, Option, Some, None}
use Rattle.std.proofs.lemmas.Bool.{eq-eqb, eqb-true, false_from_ne_true}
use Rattle.std.proofs.lemmas.List.{take_more, drop_more, take-append-drop, get_or_past}
use Rattle.std.proofs.lemmas.List.Folds.{find-append}
use Rattle.std.specs.Prelude.{◌==◌}
use Rattle.std.specs.List.{find, flat_map, filter_map, cons_option}
use Rattle.std.specs.Option.{option_map, option_or}
use Rattle.lists.specs.Lists.{below, numbers_from}
use Rattle.machine.specs.Processing.{Processing}
use Rattle.machine.specs.Banks.{no_processing, vp_in, vp_at}
use Rattle.report.specs.Parts.{console_text, value_text, value_in}
use Rattle.report.proofs.Numbers.{flat_more, flat_at, flat_rest}

skip_or : (a b : Option (ℕ × ℕ)) → option_map (λ (x : ℕ × ℕ). x.1) a ≡ None → option_map (λ (x : ℕ × ℕ). x.1) (option_or a b) ≡ option_map (λ (x : ℕ × ℕ). x.1) b
skip_or None b e = refl
skip_or (Some x) b e = cc

stop_or : (a b : Option (ℕ × ℕ)) (v : ℕ) → option_map (λ (x : ℕ × ℕ). x.1) a ≡ Some v → option_map (λ (x : ℕ × ℕ). x.1) (option_or a b) ≡ Some v
stop_or None b v e = cc
stop_or (Some x) b v e = e

-- behind lines of which none has the place
pub value_skip : (xs ys : List (ℕ × ℕ)) (k : ℕ) → value_in xs k ≡ None → value_in (xs ++ ys) k ≡ value_in ys k
value_skip xs ys k e = ap (option_map (λ (x : ℕ × ℕ). x.1)) (find-append (λ (x : ℕ × ℕ). x.0 == k) xs ys) ∙ skip_or (find (λ (x : ℕ × ℕ). x.0 == k) xs) (find (λ (x : ℕ × ℕ). x.0 == k) ys) e

-- more lines behind the one that is found
pub value_stop : (xs ys : List (ℕ × ℕ)) (k v : ℕ) → value_in xs k ≡ Some v → value_in (xs ++ ys) k ≡ Some v
value_stop xs ys k v e = ap (option_map (λ (x : ℕ × ℕ). x.1)) (find-append (λ (x : ℕ × ℕ). x.0 == k) xs ys) ∙ stop_or (find (λ (x : ℕ × ℕ). x.0 == k) xs) (find (λ (x : ℕ × ℕ). x.0 == k) ys) v e

one_here : (x : ℕ × ℕ) (rest : List (ℕ × ℕ)) (k : ℕ) → x.0 ≡ k → value_in (x ∷ rest) k ≡ Some x.1
one_here x rest k e = rw (eq-eqb x.0 k e) refl

one_other : (x : ℕ × ℕ) (k : ℕ) → x.0 ≢ k → value_in (x ∷ []) k ≡ None
one_other x k e = rw (false_from_ne_true (x.0 == k) (λ t. e (eqb-true x.0 k t))) refl

-- the line at i is the first of that place
pub value_here : (xs : List (ℕ × ℕ)) (i k : ℕ) (d : ℕ × ℕ) → i < length xs → value_in (take i xs) k ≡ None → (get_or xs i d).0 ≡ k → value_in xs k ≡ Some (get_or xs i d).1
value_here xs i k d h none e =
    subst (λ (ys : List (ℕ × ℕ)). value_in ys k ≡ Some (get_or xs i d).1) (take-append-drop i xs)
    (value_skip (take i xs) (drop i xs) k none ∙ (ap (λ (ys : List (ℕ × ℕ)). value_in ys k) (drop_more xs i d h) ∙ one_here (get_or xs i d) (drop (i + 1) xs) k e))

-- the line at i has another place
pub value_past : (xs : List (ℕ × ℕ)) (i k : ℕ) (d : ℕ × ℕ) → i < length xs → value_in (take i xs) k ≡ None → (get_or xs i d).0 ≢ k → value_in (take (i + 1) xs) k ≡ None
value_past xs i k d h none e =
    ap (λ (ys : List (ℕ × ℕ)). value_in ys k) (take_more xs i d h) ∙ (value_skip (take i xs) (get_or xs i d ∷ []) k none ∙ one_other (get_or xs i d) k e)

-- a virtual processor that there isn't
pub vp_past : (banks : List (List Processing)) (p c : ℕ) → length banks ≤ p → vp_at banks p c ≡ no_processing
vp_past banks p c h = ap (λ (bank : List Processing). vp_in bank c) (get_or_past banks p [] h)

module _ (banks : List (List Processing)) (c k : ℕ) where
  abbrev lines_of : ℕ → List (ℕ × ℕ)
  lines_of p = (vp_at banks p c).lines

  -- the lines of a processor in which the place stands first
  pub found_on : (p v : ℕ) → p < 4 → value_in (flat_map lines_of (below p)) k ≡ None → value_in (vp_at banks p c).lines k ≡ Some v → value_in (flat_map lines_of (below 4)) k ≡ Some v
  found_on p v h none e =
      let rest = flat_map lines_of (numbers_from (p + 1) (4 - (p + 1))) in
      ap (λ (ys : List (ℕ × ℕ)). value_in ys k) (flat_at lines_of p 4 h)
      ∙ value_stop (flat_map lines_of (below p) ++ lines_of p) rest k v (value_skip (flat_map lines_of (below p)) (lines_of p) k none ∙ e)

  -- no line of one processor more
  pub none_on : (p : ℕ) → value_in (flat_map lines_of (below p)) k ≡ None → value_in (vp_at banks p c).lines k ≡ None → value_in (flat_map lines_of (below (p + 1))) k ≡ None
  none_on p none e = ap (λ (ys : List (ℕ × ℕ)). value_in ys k) (flat_more lines_of p) ∙ (value_skip (flat_map lines_of (below p)) (lines_of p) k none ∙ e)

  -- no line of any processor
  pub none_at_all : (p : ℕ) → length banks ≤ 4 → p < length banks + 1 → length banks ≤ p → value_in (flat_map lines_of (below p)) k ≡ None → value_in (flat_map lines_of (below 4)) k ≡ None
  none_at_all p h i j none =
      let e : p ≡ length banks = omega arith in
      ap (λ (ys : List (ℕ × ℕ)). value_in ys k) (sym (flat_rest lines_of p 4 (omega arith) (λ q g. ap (λ (v : Processing). v.lines) (vp_past banks q c (omega arith))))) ∙ none

value_step : (o : Option ℕ) (vs : List ℕ) → value_text o ++ flat_map console_text vs ≡ flat_map console_text (cons_option o vs)
value_step None vs = refl
value_step (Some v) vs = refl

-- the lines of some places
pub values_are : (give : ℕ → Option ℕ) (places : List ℕ) → flat_map (λ place. value_text (give place)) places ≡ flat_map console_text (filter_map give places)
values_are give [] = refl
values_are give (x ∷ xs) = ap (λ (t : List ℕ). value_text (give x) ++ t) (values_are give xs) ∙ value_step (give x) (filter_map give xs)
