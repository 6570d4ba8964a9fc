-- First answers and lists over the numbers below a bound, and the identities by their numbers.
use Rattle.std.proofs.Common.{ℕ, zero, suc, ◌+◌, ◌*◌, ◌/◌, ◌%◌, ◌<◌, ◌≤◌, List, [], ◌∷◌, ◌++◌, ◌≡◌, inl, inr, refl, sym, ap, ◌∙◌, Option, Some, None, arith, length, map}
use Rattle.std.proofs.lemmas.Bool.{cases_eq}
use Rattle.std.proofs.lemmas.List.{append-nil, map-append}
use Rattle.std.proofs.lemmas.List.Concat.{flat_map-append}
use Rattle.std.proofs.lemmas.List.Elements.{filter_map-append}
use Rattle.std.specs.Prelude.{IfSome}
use Rattle.std.specs.List.{filter_map, flat_map, cons_option}
use Rattle.std.specs.Option.{option_map, option_or}
use Rattle.lists.specs.Lists.{below, numbers_from}
use Rattle.words_layout.specs.Segments.{seg, numbered}
use Rattle.words_layout.specs.declared.segment.SegId.{SegId}
use Rattle.class_model.specs.State.{identities}
use Rattle.loader.proofs.Lists.{below_more}
use Rattle.end_volumes.specs.After.{first_answer}

-- ---- first answers

pub or_none : {Y : Type 0} (a : Option Y) → option_or a None ≡ a
or_none None = refl
or_none (Some x) = refl

pub or_assoc : {Y : Type 0} (a b c : Option Y) → option_or (option_or a b) c ≡ option_or a (option_or b c)
or_assoc None b c = refl
or_assoc (Some x) b c = refl

first_append : {X Y : Type 0} (f : X → Option Y) (xs ys : List X) → first_answer f (xs ++ ys) ≡ option_or (first_answer f xs) (first_answer f ys)
first_append f [] ys = refl
first_append f (x ∷ xs) ys = ap (option_or (f x)) (first_append f xs ys) ∙ sym (or_assoc (f x) (first_answer f xs) (first_answer f ys))

pub first_map : {X Y Z : Type 0} (f : Y → Option Z) (g : X → Y) (xs : List X) → first_answer f (map g xs) ≡ first_answer (λ x. f (g x)) xs
first_map f g [] = refl
first_map f g (x ∷ xs) = ap (option_or (f (g x))) (first_map f g xs)

pub first_more : {Y : Type 0} (f : ℕ → Option Y) (n : ℕ) → first_answer f (below (n + 1)) ≡ option_or (first_answer f (below n)) (f n)
first_more f n = ap (first_answer f) (below_more n) ∙ (first_append f (below n) (n ∷ []) ∙ ap (option_or (first_answer f (below n))) (or_none (f n)))

-- what holds of each answer holds of the first
pub first_from : {Y : Type 0} (P : Y → Type 0) (f : ℕ → Option Y) (s n : ℕ) → ((i : ℕ) → s ≤ i → i < s + n → IfSome (f i) P) → IfSome (first_answer f (numbers_from s n)) P
first_from {Y} P f s zero each = tt
first_from {Y} P f s (suc n) each = either (f s) (first_answer f (numbers_from (s + 1) n)) (each s (omega arith) (omega arith)) (first_from P f (s + 1) n (λ i a b. each i (omega arith) (omega arith)))
  where
    either : (a b : Option Y) → IfSome a P → IfSome b P → IfSome (option_or a b) P
    either None b h k = k
    either (Some x) b h k = h

-- where no number answers but one
none_first : {Y : Type 0} (f : ℕ → Option Y) (s n : ℕ) → ((i : ℕ) → s ≤ i → i < s + n → f i ≡ None) → first_answer f (numbers_from s n) ≡ None
none_first f s zero none = refl
none_first f s (suc n) none = rw (none s (omega arith) (omega arith)) (none_first f (s + 1) n (λ i a b. none i (omega arith) (omega arith)))

pub first_only : {Y : Type 0} (f : ℕ → Option Y) (j n : ℕ) → ((i : ℕ) → (i ≡ j → ⊥) → f i ≡ None) → j < n → first_answer f (below n) ≡ f j
first_only f j n none lt = onward 0 n (omega arith) (omega (arith, lt))
  where
    onward : (s m : ℕ) → s ≤ j → j < s + m → first_answer f (numbers_from s m) ≡ f j
    onward s zero low high = absurd (omega (arith, low, high))
    onward s (suc m) low high = elim (cases_eq s j) [
      | inl same ↦ ap (λ k. option_or (f k) (first_answer f (numbers_from (s + 1) m))) same ∙ (ap (option_or (f j)) (none_first f (s + 1) m (λ i a b. none i (omega (arith, same, a)))) ∙ or_none (f j))
      | inr apart ↦ rw (none s apart) (onward (s + 1) m (omega (arith, low, apart)) (omega arith))
    ]

-- ---- lists of answers

pub filter_map_more : {Y : Type 0} (f : ℕ → Option Y) (n : ℕ) → filter_map f (below (n + 1)) ≡ filter_map f (below n) ++ cons_option (f n) []
filter_map_more f n = ap (filter_map f) (below_more n) ∙ filter_map-append f (below n) (n ∷ [])

pub filter_map_map : {X Y Z : Type 0} (f : Y → Option Z) (g : X → Y) (xs : List X) → filter_map f (map g xs) ≡ filter_map (λ x. f (g x)) xs
filter_map_map f g [] = refl
filter_map_map f g (x ∷ xs) = ap (cons_option (f (g x))) (filter_map_map f g xs)

filter_map_same_from : {Y : Type 0} (f g : ℕ → Option Y) (s n : ℕ) → ((i : ℕ) → i < s + n → f i ≡ g i) → filter_map f (numbers_from s n) ≡ filter_map g (numbers_from s n)
filter_map_same_from f g s zero same = refl
filter_map_same_from f g s (suc n) same = λ j. cons_option (same s (omega arith) j) (filter_map_same_from f g (s + 1) n (λ i lt. same i (omega arith)) j)

pub filter_map_same : {Y : Type 0} (f g : ℕ → Option Y) (n : ℕ) → ((i : ℕ) → i < n → f i ≡ g i) → filter_map f (below n) ≡ filter_map g (below n)
filter_map_same f g n same = filter_map_same_from f g 0 n (λ i lt. same i (omega arith))

-- as many as there are of what they are made of
pub filter_map_count : {X Y Z : Type 0} (r : X → Y → Z) (f : X → Option Y) (xs : List X) → length (filter_map (λ x. option_map (r x) (f x)) xs) ≡ length (filter_map f xs)
filter_map_count r f [] = refl
filter_map_count {X} {Y} {Z} r f (x ∷ xs) = one (f x) (filter_map_count r f xs)
  where
    one : (o : Option Y) → length (filter_map (λ y. option_map (r y) (f y)) xs) ≡ length (filter_map f xs) → length (cons_option (option_map (r x) o) (filter_map (λ y. option_map (r y) (f y)) xs)) ≡ length (cons_option o (filter_map f xs))
    one None same = same
    one (Some y) same = ap suc same

-- ---- identities

numbers_apart : (a m n : ℕ) → numbers_from a (m + n) ≡ numbers_from a m ++ numbers_from (a + m) n
numbers_apart a zero n = let e : a + 0 ≡ a = omega arith in let z : 0 + n ≡ n = omega arith in rw (e, z) refl
numbers_apart a (suc m) n =
    let e : suc m + n ≡ suc (m + n) = omega arith in
    let z : a + suc m ≡ a + 1 + m = omega arith in
    rw (e, z) (ap (λ (xs : List ℕ). a ∷ xs) (numbers_apart (a + 1) m n))

-- rows of k numbers each, one after the other
module _ {X : Type 0} (k : ℕ) (f : ℕ → ℕ → X) (g : ℕ → X) (item : (m s : ℕ) → s < k → g (k * m + s) ≡ f m s) where
  row : (m s n : ℕ) → s + n ≤ k → map (f m) (numbers_from s n) ≡ map g (numbers_from (k * m + s) n)
  row m s zero h = refl
  row m s (suc n) h =
      let e : k * m + (s + 1) ≡ k * m + s + 1 = omega arith in
      λ j. sym (item m s (omega arith)) j ∷ (row m (s + 1) n (omega arith) ∙ ap (λ a. map g (numbers_from a n)) e) j

  rows_more : (n : ℕ) → flat_map (λ m. map (f m) (below k)) (below n) ≡ map g (below (k * n)) → flat_map (λ m. map (f m) (below k)) (below (n + 1)) ≡ map g (below (k * (n + 1)))
  rows_more n so_far =
      let z : k * n + 0 ≡ 0 + k * n = omega arith in
      let w : k * (n + 1) ≡ k * n + k = omega arith in
      let one : flat_map (λ m. map (f m) (below k)) (n ∷ []) ≡ map g (numbers_from (0 + k * n) k) = append-nil (map (f n) (below k)) ∙ (row n 0 k (omega arith) ∙ ap (λ a. map g (numbers_from a k)) z) in
      ap (flat_map (λ m. map (f m) (below k))) (below_more n)
      ∙ (flat_map-append (λ m. map (f m) (below k)) (below n) (n ∷ [])
      ∙ ((λ j. so_far j ++ one j)
      ∙ (sym (map-append g (below (k * n)) (numbers_from (0 + k * n) k))
      ∙ ap (map g) (sym (numbers_apart 0 (k * n) k) ∙ ap below (sym w)))))

  pub rows : (n : ℕ) → flat_map (λ m. map (f m) (below k)) (below n) ≡ map g (below (k * n))
  rows zero = let z : k * 0 ≡ 0 = omega arith in ap (λ a. map g (below a)) (sym z)
  rows (suc n) =
      let e : suc n ≡ n + 1 = omega arith in
      ap (λ a. flat_map (λ m. map (f m) (below k)) (below a)) e ∙ (rows_more n (rows n) ∙ ap (λ a. map g (below (k * a))) (sym e))

seg_at : (m s : ℕ) → s < 64 → numbered (64 * m + s) ≡ seg m s
seg_at m s lt =
    let d : (64 * m + s) / 64 ≡ m = omega arith in
    let r : (64 * m + s) % 64 ≡ s = omega arith in
    λ j. seg (d j) (r j)

pub identities_are : (n : ℕ) → identities n ≡ map numbered (below (64 * n))
identities_are n = rows 64 seg numbered seg_at n

-- answers over the identities, by their numbers
pub first_by_number : {Y : Type 0} (f : SegId → Option Y) (n : ℕ) → first_answer f (identities n) ≡ first_answer (λ j. f (numbered j)) (below (64 * n))
first_by_number f n = ap (first_answer f) (identities_are n) ∙ first_map f numbered (below (64 * n))

pub filter_map_by_number : {Y : Type 0} (f : SegId → Option Y) (n : ℕ) → filter_map f (identities n) ≡ filter_map (λ j. f (numbered j)) (below (64 * n))
filter_map_by_number f n = ap (filter_map f) (identities_are n) ∙ filter_map_map f numbered (below (64 * n))
