-- Rows of words copied or zeroed, tenants searched and entries looked through, at one go.
use Rattle.std.proofs.Common.{ℕ, zero, suc, ◌+◌, ◌≤◌, ◌<◌, Bool, true, false, List, [], ◌∷◌, ◌≡◌, refl, sym, ap, ◌∙◌, Option, Some, None, map, arith, ◌⊎◌, inl, inr, length}
use Rattle.std.specs.Prelude.{◌==◌, if◌then◌else◌, is_some, replicate, slice_index_or}
use Rattle.std.specs.List.{list_any}
use Rattle.std.proofs.lemmas.Bool.{eqb-true, eqb-false, ne_eqb, eq-eqb, cases_eq}
use Rattle.lists.specs.Lists.{numbers_from}
use Rattle.words_layout.specs.declared.segment.SegId.{SegId}
use Rattle.words_layout.specs.declared.coding.Alias.{Alias}
use Rattle.words_layout.specs.Words.{GuardedWord, GuardedWords, set_guarded, same_word, EntryOf, FrameWord}
use Rattle.words_layout.specs.Coding.{entry_of}
use Rattle.policy.specs.Outcome.{Outcome, Refused}
use Rattle.policy.specs.declared.rule.Rule.TheVariants.{NotEmpty}
use Rattle.turns.specs.Bodies.{Inner, Outer}
use Rattle.turns.specs.AtOnce.{run_inner, run_outer}
use Rattle.tree_gates.specs.Tree.{check_entries}
use Rattle.swap_gates.specs.Swap.{find_free, zero_words, copy_words}
use Rattle.machine.specs.Reading.{words_from}
use Rattle.effect_laws.proofs.Counting.{one_if, total}

-- the words after n words of a row, from place i on, were stored
abbrev pub filled : GuardedWords → (ℕ → GuardedWord) → (ℕ → ℕ) → ℕ → ℕ → GuardedWords
filled v to value i zero = v
filled v to value i (suc n) = filled (set_guarded v (to i) (value i)) to value (i + 1) n

pub run-zero_words : (v : GuardedWords) (f i n : ℕ) (rest : Inner Outcome) → run_inner (zero_words f i n rest) v ≡ run_inner rest (filled v (FrameWord f) (λ j. 0) i n)
run-zero_words v f i zero rest = refl
run-zero_words v f i (suc n) rest = run-zero_words (set_guarded v (FrameWord f i) 0) f (i + 1) n rest

-- a word that isn't in the row that is stored is as it was
pub set-apart : (v : GuardedWords) (w q : GuardedWord) (x : ℕ) → same_word q w ≡ false → set_guarded v w x q ≡ v q
set-apart v w q x e = rw e refl

module _ (from to : ℕ → GuardedWord) (apart : (i j : ℕ) → same_word (from i) (to j) ≡ false) where
  pub run-copy_words : (v0 v : GuardedWords) → ((j : ℕ) → v (from j) ≡ v0 (from j)) → (i n : ℕ) (rest : Inner Outcome) →
      run_inner (copy_words from to i n rest) v ≡ run_inner rest (filled v to (λ j. v0 (from j)) i n)
  run-copy_words v0 v same i zero rest = refl
  run-copy_words v0 v same i (suc n) rest =
      ap (λ x. run_inner (copy_words from to (i + 1) n rest) (set_guarded v (to i) x)) (same i)
      ∙ run-copy_words v0 (set_guarded v (to i) (v0 (from i))) (λ j. set-apart v (to i) (from j) (v0 (from i)) (apart j i) ∙ same j) (i + 1) n rest

pub filled-other : (v : GuardedWords) (to : ℕ → GuardedWord) (value : ℕ → ℕ) (i n : ℕ) (w : GuardedWord) → ((j : ℕ) → same_word w (to j) ≡ false) → filled v to value i n w ≡ v w
filled-other v to value i zero w apart = refl
filled-other v to value i (suc n) w apart =
    filled-other (set_guarded v (to i) (value i)) to value (i + 1) n w apart ∙ set-apart v (to i) w (value i) (apart i)

module _ (to : ℕ → GuardedWord) (value : ℕ → ℕ) (row : (i j : ℕ) → same_word (to i) (to j) ≡ (i == j)) where
  filled-before : (v : GuardedWords) (i n k : ℕ) → k < i → filled v to value i n (to k) ≡ v (to k)
  filled-before v i zero k h = refl
  filled-before v i (suc n) k h =
      let e : (k == i) ≡ false = ne_eqb k i (λ x. absurd (omega (arith, x, h))) in
      filled-before (set_guarded v (to i) (value i)) (i + 1) n k (omega (arith, h)) ∙ set-apart v (to i) (to k) (value i) (row k i ∙ e)

  set-here : (v : GuardedWords) (i : ℕ) → set_guarded v (to i) (value i) (to i) ≡ value i
  set-here v i = rw (row i i ∙ eq-eqb i i refl) refl

  filled-at : (v : GuardedWords) (i n k : ℕ) → i ≤ k → k < i + n → filled v to value i n (to k) ≡ value k
  filled-at v i zero k h l = absurd (omega (arith, h, l))
  filled-at v i (suc n) k h l = by_cases (cases_eq k i) (filled-at (set_guarded v (to i) (value i)) (i + 1) n k)
    where
      by_cases : (k ≡ i) ⊎ (k ≡ i → ⊥) → (i + 1 ≤ k → k < (i + 1) + n → filled (set_guarded v (to i) (value i)) to value (i + 1) n (to k) ≡ value k) →
          filled (set_guarded v (to i) (value i)) to value (i + 1) n (to k) ≡ value k
      by_cases (inl e) rest = filled-before (set_guarded v (to i) (value i)) (i + 1) n k (omega (arith, e))
          ∙ ap (λ j. set_guarded v (to i) (value i) (to j)) e ∙ set-here v i ∙ ap value (sym e)
      by_cases (inr e) rest = rest (omega (arith, e, h)) (omega (arith, l))

pub rows-same : (w w' : ℕ → ℕ) (a n : ℕ) → ((i : ℕ) → a ≤ i → i < a + n → w i ≡ w' i) → map w (numbers_from a n) ≡ map w' (numbers_from a n)
rows-same w w' a zero h = refl
rows-same w w' a (suc n) h = ap (λ x. x ∷ map w (numbers_from (a + 1) n)) (h a (omega arith) (omega arith))
    ∙ ap (λ xs. w' a ∷ xs) (rows-same w w' (a + 1) n (λ i x y. h i (omega (arith, x)) (omega (arith, y))))

-- the row that was stored, as a list
pub filled-row : (to : ℕ → GuardedWord) (value : ℕ → ℕ) → ((i j : ℕ) → same_word (to i) (to j) ≡ (i == j)) → (v : GuardedWords) (n : ℕ) →
    words_from (λ i. filled v to value 0 n (to i)) n ≡ words_from value n
filled-row to value row v n = rows-same (λ i. filled v to value 0 n (to i)) value 0 n (λ i x y. filled-at to value row v 0 n i x y)

pub zeros : (a n : ℕ) → map {B = ℕ} (λ i. 0) (numbers_from a n) ≡ replicate n 0
zeros a zero = refl
zeros a (suc n) = ap (λ xs. 0 ∷ xs) (zeros (a + 1) n)

-- a free tenant is found
pub record FindsFree (g : GuardedWords) (tenant : ℕ → GuardedWord) (i n : ℕ) (found : ℕ → Inner Outcome) (none : Inner Outcome) : Type 0 where
  pub at : ℕ
  pub low : i ≤ at
  pub high : at < i + n
  pub free : g (tenant at) ≡ 0
  pub ran : run_inner (find_free tenant i n found none) g ≡ run_inner (found at) g

-- none is
pub record FindsNone (g : GuardedWords) (tenant : ℕ → GuardedWord) (i n : ℕ) (found : ℕ → Inner Outcome) (none : Inner Outcome) : Type 0 where
  pub taken : (f : ℕ) → i ≤ f → f < i + n → g (tenant f) ≡ 0 → ⊥
  pub ran : run_inner (find_free tenant i n found none) g ≡ run_inner none g

pub finds : (g : GuardedWords) (tenant : ℕ → GuardedWord) (i n : ℕ) (found : ℕ → Inner Outcome) (none : Inner Outcome) →
    FindsFree g tenant i n found none ⊎ FindsNone g tenant i n found none
finds g tenant i zero found none = inr (record { taken = λ f x y z. absurd (omega (arith, x, y)); ran = refl })
finds g tenant i (suc n) found none = by_test (g (tenant i) == 0) refl (finds g tenant (i + 1) n found none)
  where
    branch : (b : Bool) → (g (tenant i) == 0) ≡ b → run_inner (find_free tenant i (suc n) found none) g ≡ run_inner (if b then found i else find_free tenant (i + 1) n found none) g
    branch b e = ap (λ (t : Bool). run_inner (if t then found i else find_free tenant (i + 1) n found none) g) e

    by_test : (b : Bool) → (g (tenant i) == 0) ≡ b → FindsFree g tenant (i + 1) n found none ⊎ FindsNone g tenant (i + 1) n found none →
        FindsFree g tenant i (suc n) found none ⊎ FindsNone g tenant i (suc n) found none
    by_test true e rest = inl (record { at = i; low = omega arith; high = omega arith; free = eqb-true (g (tenant i)) 0 e; ran = branch true e })
    by_test false e (inl r) = inl (record { at = r.at; low = omega (arith, r.low); high = omega (arith, r.high); free = r.free; ran = branch false e ∙ r.ran })
    by_test false e (inr r) = inr (record { taken = taken; ran = branch false e ∙ r.ran })
      where
        taken : (f : ℕ) → i ≤ f → f < i + suc n → g (tenant f) ≡ 0 → ⊥
        taken f x y z = by_place (cases_eq f i)
          where
            by_place : (f ≡ i) ⊎ (f ≡ i → ⊥) → ⊥
            by_place (inl same) = eqb-false (g (tenant i)) 0 e (ap (λ j. g (tenant j)) (sym same) ∙ z)
            by_place (inr other) = r.taken f (omega (arith, x, other)) (omega (arith, y)) z

-- how many numbers pass a test
pub total-most : (test : ℕ → Bool) (a n : ℕ) → total (λ f. one_if (test f)) (numbers_from a n) ≤ n
total-most test a zero = omega arith
total-most test a (suc n) = by_test (test a) (total-most test (a + 1) n)
  where
    by_test : (b : Bool) → total (λ f. one_if (test f)) (numbers_from (a + 1) n) ≤ n → one_if b + total (λ f. one_if (test f)) (numbers_from (a + 1) n) ≤ suc n
    by_test true h = omega (arith, h)
    by_test false h = omega (arith, h)

pub total-all : (test : ℕ → Bool) (a n : ℕ) → ((f : ℕ) → a ≤ f → f < a + n → test f ≡ true) → total (λ f. one_if (test f)) (numbers_from a n) ≡ n
total-all test a zero h = refl
total-all test a (suc n) h =
    let t = total-all test (a + 1) n (λ f x y. h f (omega (arith, x)) (omega (arith, y))) in
    rw (h a (omega arith) (omega arith)) (omega (arith, t))

pub total-less : (test : ℕ → Bool) (k a n : ℕ) → a ≤ k → k < a + n → test k ≡ false → total (λ f. one_if (test f)) (numbers_from a n) < n
total-less test k a zero h l misses = absurd (omega (arith, h, l))
total-less test k a (suc n) h l misses = by_cases (cases_eq k a) (total-less test k (a + 1) n)
  where
    by_cases : (k ≡ a) ⊎ (k ≡ a → ⊥) → (a + 1 ≤ k → k < (a + 1) + n → test k ≡ false → total (λ f. one_if (test f)) (numbers_from (a + 1) n) < n) →
        one_if (test a) + total (λ f. one_if (test f)) (numbers_from (a + 1) n) < suc n
    by_cases (inl e) rest = let most = total-most test (a + 1) n in let no' : test a ≡ false = ap test (sym e) ∙ misses in rw no' (omega (arith, most))
    by_cases (inr e) rest = by_test (test a) (rest (omega (arith, e, h)) (omega (arith, l)) misses)
      where
        by_test : (b : Bool) → total (λ f. one_if (test f)) (numbers_from (a + 1) n) < n → one_if b + total (λ f. one_if (test f)) (numbers_from (a + 1) n) < suc n
        by_test true x = omega (arith, x)
        by_test false x = omega (arith, x)

-- entries looked through, up to the first that isn't empty
pub run-check_entries : (g : GuardedWords) (u : SegId) (rest : Outer Outcome) (xs : List (Option Alias)) (i : ℕ) →
    ((j : ℕ) → j < length xs → entry_of (g (EntryOf u (i + j))) ≡ slice_index_or xs j None) →
    run_outer (check_entries u i (length xs) rest) g ≡ (if list_any (λ e. is_some e) xs then (record { words = g; shown = Refused NotEmpty }) else run_outer rest g)
run-check_entries g u rest [] i h = refl
run-check_entries g u rest (x ∷ xs) i h =
    let first : entry_of (g (EntryOf u i)) ≡ x = (let e : i + 0 ≡ i = omega arith in ap (λ j. entry_of (g (EntryOf u j))) (sym e) ∙ h 0 (omega arith)) in
    let next = run-check_entries g u rest xs (i + 1) (λ j l. (let e : (i + 1) + j ≡ i + suc j = omega arith in ap (λ k. entry_of (g (EntryOf u k))) e ∙ h (suc j) (omega (arith, l)))) in
    ap (λ (o : Option Alias). run_outer (if is_some o then Outer.Shows (Refused NotEmpty) else check_entries u (i + 1) (length xs) rest) g) first ∙ by_entry x next
  where
    by_entry : (o : Option Alias) → run_outer (check_entries u (i + 1) (length xs) rest) g ≡ (if list_any (λ e. is_some e) xs then (record { words = g; shown = Refused NotEmpty }) else run_outer rest g) →
        run_outer (if is_some o then Outer.Shows (Refused NotEmpty) else check_entries u (i + 1) (length xs) rest) g
        ≡ (if list_any (λ e. is_some e) (o ∷ xs) then (record { words = g; shown = Refused NotEmpty }) else run_outer rest g)
    by_entry (Some a) next = refl
    by_entry None next = next
