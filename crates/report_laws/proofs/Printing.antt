-- Console lines in the buffers of the processors are the lines of the class, each by its place.
use Rattle.std.proofs.Common.{ℕ, zero, suc, ◌+◌, ◌<◌, ◌≤◌, ◌≢◌, Bool, true, false, List, [], ◌∷◌, ◌++◌, ◌≡◌, refl, sym, ap, ◌∙◌, Option, Some, None, arith, length, length-append}
use Rattle.std.proofs.lemmas.Bool.{eqb-true, eqb-false}
use Rattle.std.proofs.lemmas.List.Folds.{find-append}
use Rattle.std.specs.Prelude.{◌==◌, ◌||◌, if◌then◌else◌, slice_get}
use Rattle.std.specs.List.{cons_option, filter_map, find, flat_map, list_any}
use Rattle.std.specs.Option.{option_map, option_or}
use Rattle.lists.specs.Lists.{below, numbers_from, put}

-- what some numbers give is the list that they number
pub read_numbered : (give : ℕ → Option ℕ) (n a : ℕ) (xs : List ℕ) → length xs ≤ n → ((i : ℕ) → give (a + i) ≡ slice_get xs i) → filter_map give (numbers_from a n) ≡ xs
read_numbered give zero a [] h each = refl
read_numbered give zero a (x ∷ xs) h each = absurd (omega arith)
read_numbered give (suc n) a xs h each = by_list (λ ys g e. read_numbered give n (a + 1) ys g e) xs h each
  where
    first : (o : Option ℕ) → give (a + 0) ≡ o → give a ≡ o
    first o e = let z : a + 0 ≡ a = omega arith in rw z at e

    next : (i : ℕ) → give (a + 1 + i) ≡ give (a + suc i)
    next i = let z : a + 1 + i ≡ a + suc i = omega arith in ap give z

    by_list : ((ys : List ℕ) → length ys ≤ n → ((i : ℕ) → give (a + 1 + i) ≡ slice_get ys i) → filter_map give (numbers_from (a + 1) n) ≡ ys) →
        (ys : List ℕ) → length ys ≤ suc n → ((i : ℕ) → give (a + i) ≡ slice_get ys i) → cons_option (give a) (filter_map give (numbers_from (a + 1) n)) ≡ ys
    by_list rest [] g e = rw (first None (e 0)) (rest [] (let z : length {A = ℕ} [] ≤ n = omega arith in z) (λ i. next i ∙ e (suc i)))
    by_list rest (y ∷ ys) g e = rw (first (Some y) (e 0)) (ap (λ zs. y ∷ zs) (rest ys (omega arith) (λ i. next i ∙ e (suc i))))

or_none : {X : Type 0} (o : Option X) → option_or o None ≡ o
or_none None = refl
or_none (Some x) = refl

module _ (test : ℕ × ℕ → Bool) (buffers : ℕ → List (ℕ × ℕ)) (p : ℕ) (x : ℕ × ℕ) where
  abbrev longer : ℕ → List (ℕ × ℕ)
  longer = put buffers p (buffers p ++ x ∷ [])

  -- a line that doesn't pass is passed over
  find_other : (ps : List ℕ) → test x ≡ false → find test (flat_map longer ps) ≡ find test (flat_map buffers ps)
  find_other [] h = refl
  find_other (q ∷ ps) h =
      find-append test (longer q) (flat_map longer ps)
      ∙ ap (λ o. option_or o (find test (flat_map longer ps))) (here (q == p) refl)
      ∙ ap (option_or (find test (buffers q))) (find_other ps h)
      ∙ sym (find-append test (buffers q) (flat_map buffers ps))
    where
      one : find test (x ∷ []) ≡ None
      one = rw h refl

      here : (b : Bool) → (q == p) ≡ b → find test (if b then buffers p ++ x ∷ [] else buffers q) ≡ find test (buffers q)
      here true e = find-append test (buffers p) (x ∷ []) ∙ ap (option_or (find test (buffers p))) one ∙ or_none (find test (buffers p)) ∙ ap (λ z. find test (buffers z)) (sym (eqb-true q p e))
      here false e = refl

  both_none : {X : Type 0} (a b : Option X) → option_or a b ≡ None → (a ≡ None) × (b ≡ None)
  both_none None b e = (refl, e)
  both_none (Some y) b e = cc

  -- one that passes, where none did, is found
  find_new : (ps : List ℕ) → test x ≡ true → find test (flat_map buffers ps) ≡ None → list_any (λ q. q == p) ps ≡ true → find test (flat_map longer ps) ≡ Some x
  find_new [] h none there = cc
  find_new (q ∷ ps) h none there =
      let parts = both_none (find test (buffers q)) (find test (flat_map buffers ps)) (sym (find-append test (buffers q) (flat_map buffers ps)) ∙ none) in
      find-append test (longer q) (flat_map longer ps) ∙ by_place (λ t. find_new ps h parts.1 t) parts.0 (q == p) refl there
    where
      one : find test (x ∷ []) ≡ Some x
      one = rw h refl

      by_place : (list_any (λ q. q == p) ps ≡ true → find test (flat_map longer ps) ≡ Some x) → find test (buffers q) ≡ None → (b : Bool) → (q == p) ≡ b → (b || list_any (λ q. q == p) ps) ≡ true →
          option_or (find test (if b then buffers p ++ x ∷ [] else buffers q)) (find test (flat_map longer ps)) ≡ Some x
      by_place rest here true e t =
          ap (λ o. option_or o (find test (flat_map longer ps)))
          (find-append test (buffers p) (x ∷ []) ∙ ap (λ z. option_or (find test (buffers z)) (find test (x ∷ []))) (sym (eqb-true q p e)) ∙ ap (λ o. option_or o (find test (x ∷ []))) here ∙ one)
      by_place rest here false e t = ap (λ o. option_or o (find test (flat_map longer ps))) here ∙ rest t

-- The lines of a class are in the buffers, each by its place; so long as there is room, each place that is used up has one.
pub record IsPrinted (console : ℕ) (buffers : ℕ → List (ℕ × ℕ)) (used : ℕ) (lines : List ℕ) : Type 0 where
  pub short : (p : ℕ) → length (buffers p) ≤ used
  pub each : used ≤ console → length lines ≡ used
  pub within : length lines ≤ console
  pub count : length (flat_map buffers (below 4)) ≡ length lines
  pub at : (q : ℕ) → option_map (λ (x : ℕ × ℕ). x.1) (find (λ (x : ℕ × ℕ). x.0 == q) (flat_map buffers (below 4))) ≡ slice_get lines q

-- they are printed in the order of their places
pub printed_is : (console : ℕ) (buffers : ℕ → List (ℕ × ℕ)) (used : ℕ) (lines : List ℕ) → IsPrinted console buffers used lines →
    filter_map (λ place. option_map (λ (x : ℕ × ℕ). x.1) (find (λ (x : ℕ × ℕ). x.0 == place) (flat_map buffers (below 4)))) (below console) ≡ lines
printed_is console buffers used lines h =
    read_numbered (λ place. option_map (λ (x : ℕ × ℕ). x.1) (find (λ (x : ℕ × ℕ). x.0 == place) (flat_map buffers (below 4)))) console 0 lines h.within
    (λ i. let z : 0 + i ≡ i = omega arith in rw z (h.at i))

-- a place that is used up where the console is full
pub full_printed : (console : ℕ) (buffers : ℕ → List (ℕ × ℕ)) (used : ℕ) (lines : List ℕ) → console ≤ used → IsPrinted console buffers used lines → IsPrinted console buffers (used + 1) lines
full_printed console buffers used lines full h = record {
  short = λ p. (let e = h.short p in omega (arith, e));
  each = λ room. absurd (omega arith);
  within = h.within;
  count = h.count;
  at = h.at;
}

get_past : (xs : List ℕ) (i : ℕ) → length xs ≤ i → slice_get xs i ≡ None
get_past [] i h = refl
get_past (x ∷ xs) zero h = absurd (omega arith)
get_past (x ∷ xs) (suc i) h = get_past xs i (omega arith)

get_last : (xs : List ℕ) (v : ℕ) → slice_get (xs ++ v ∷ []) (length xs) ≡ Some v
get_last [] v = refl
get_last (x ∷ xs) v = get_last xs v

get_other : (xs : List ℕ) (v i : ℕ) → i ≢ length xs → slice_get (xs ++ v ∷ []) i ≡ slice_get xs i
get_other [] v zero h = absurd (h refl)
get_other [] v (suc i) h = refl
get_other (x ∷ xs) v zero h = refl
get_other (x ∷ xs) v (suc i) h = get_other xs v i (λ e. h (ap suc e))

is_below_four : (p : ℕ) → p < 4 → list_any (λ q. q == p) (below 4) ≡ true
is_below_four zero h = refl
is_below_four (suc zero) h = refl
is_below_four (suc (suc zero)) h = refl
is_below_four (suc (suc (suc zero))) h = refl
is_below_four (suc (suc (suc (suc p)))) h = absurd (omega arith)

-- there is one line more
one_more : (buffers : ℕ → List (ℕ × ℕ)) (p : ℕ) (x : ℕ × ℕ) → p < 4 → length (flat_map (put buffers p (buffers p ++ x ∷ [])) (below 4)) ≡ length (flat_map buffers (below 4)) + 1
one_more buffers zero x h = simp length-append (omega arith)
one_more buffers (suc zero) x h = simp length-append (omega arith)
one_more buffers (suc (suc zero)) x h = simp length-append (omega arith)
one_more buffers (suc (suc (suc zero))) x h = simp length-append (omega arith)
one_more buffers (suc (suc (suc (suc p)))) x h = absurd (omega arith)

-- a new line in the buffer of a processor
pub line_printed : (console : ℕ) (buffers : ℕ → List (ℕ × ℕ)) (used : ℕ) (lines : List ℕ) (p value : ℕ) → p < 4 → used < console → IsPrinted console buffers used lines →
    IsPrinted console (put buffers p (buffers p ++ (used, value) ∷ [])) (used + 1) (lines ++ value ∷ [])
line_printed console buffers used lines p value small room h =
    let count : length lines ≡ used = h.each (omega arith) in
    record {
      short = λ q. by_place count q (q == p) refl;
      each = λ e. (let l = length-append lines (value ∷ []) in omega (arith, l, count));
      within = (let l = length-append lines (value ∷ []) in omega (arith, l, count));
      count = (let l = length-append lines (value ∷ []) in let b = h.count in let m = one_more buffers p (used, value) small in omega (arith, l, b, m));
      at = λ q. by_number count q (used == q) refl;
    }
  where
    by_place : length lines ≡ used → (q : ℕ) (b : Bool) → (q == p) ≡ b → length (if b then buffers p ++ (used, value) ∷ [] else buffers q) ≤ used + 1
    by_place count q true e = let l = length-append (buffers p) ((used, value) ∷ []) in let g = h.short p in omega (arith, l, g)
    by_place count q false e = let g = h.short q in omega (arith, g)

    by_number : length lines ≡ used → (q : ℕ) (b : Bool) → (used == q) ≡ b →
        option_map (λ (x : ℕ × ℕ). x.1) (find (λ (x : ℕ × ℕ). x.0 == q) (flat_map (put buffers p (buffers p ++ (used, value) ∷ [])) (below 4))) ≡ slice_get (lines ++ value ∷ []) q
    by_number count q true e =
        let same : used ≡ q = eqb-true used q e in
        let before : option_map (λ (x : ℕ × ℕ). x.1) (find (λ (x : ℕ × ℕ). x.0 == q) (flat_map buffers (below 4))) ≡ None = h.at q ∙ get_past lines q (omega (arith, count, same)) in
        ap (option_map (λ (x : ℕ × ℕ). x.1)) (find_new (λ (x : ℕ × ℕ). x.0 == q) buffers p (used, value) (below 4) e (none_of (find (λ (x : ℕ × ℕ). x.0 == q) (flat_map buffers (below 4))) before) (is_below_four p small))
        ∙ sym (ap (slice_get (lines ++ value ∷ [])) (sym (count ∙ same)) ∙ get_last lines value)
      where
        none_of : (o : Option (ℕ × ℕ)) → option_map (λ (x : ℕ × ℕ). x.1) o ≡ None → o ≡ None
        none_of None g = refl
        none_of (Some x) g = cc
    by_number count q false e =
        let other : used ≢ q = eqb-false used q e in
        ap (option_map (λ (x : ℕ × ℕ). x.1)) (find_other (λ (x : ℕ × ℕ). x.0 == q) buffers p (used, value) (below 4) e)
        ∙ h.at q ∙ sym (get_other lines value q (λ g. other (sym (g ∙ count))))
