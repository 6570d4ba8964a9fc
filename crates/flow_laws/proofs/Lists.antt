-- Facts on lists, some of whose items are left out or changed.
use Rattle.std.proofs.Common.{ℕ, zero, suc, Bool, true, false, List, [], ◌∷◌, ◌≡◌, refl, sym, ap, ◌∙◌, Option, Some, None, map}
use Rattle.std.proofs.lemmas.Bool.{and_parts}
use Rattle.std.specs.Prelude.{if◌then◌else◌, slice_get, slice_index_or}
use Rattle.std.specs.List.{cons_option, filter, filter_map, find, fold, list_all}
use Rattle.std.specs.Option.{option_map, option_or}

-- the item, if it passes
abbrev pub passed : {X : Type 0} → (X → Bool) → Option X → Option X
passed test None = None
passed test (Some x) = if test x then Some x else None

filter_cons : {X : Type 0} (test : X → Bool) (o : Option X) (xs : List X) → filter test (cons_option o xs) ≡ cons_option (passed test o) (filter test xs)
filter_cons test None xs = refl
filter_cons test (Some x) xs = elim (test x) as (λ b. (if b then x ∷ filter test xs else filter test xs) ≡ cons_option (if b then Some x else None) (filter test xs)) [ true ↦ refl | false ↦ refl ]

-- what is left of a list where it changes nothing that passes
pub filter_through : {X : Type 0} (all test : X → Bool) (change : X → Option X) → ((x : X) → all x ≡ true → passed test (change x) ≡ passed test (Some x)) →
    (xs : List X) → list_all all xs ≡ true → filter test (filter_map change xs) ≡ filter test xs
filter_through all test change same [] h = refl
filter_through all test change same (x ∷ xs) h =
    let a : (all x ≡ true) × (list_all all xs ≡ true) = and_parts _ _ h in
    filter_cons test (change x) (filter_map change xs)
    ∙ ap (λ o. cons_option o (filter test (filter_map change xs))) (same x a.0)
    ∙ ap (cons_option (passed test (Some x))) (filter_through all test change same xs a.1)
    ∙ sym (filter_cons test (Some x) xs)

-- what is read of the item, if it passes
abbrev pub picked : {X Y : Type 0} → (X → Y) → (X → Bool) → Option X → Option Y
picked read test None = None
picked read test (Some x) = if test x then Some (read x) else None

find_cons : {X Y : Type 0} (read : X → Y) (test : X → Bool) (o : Option X) (xs : List X) →
    option_map read (find test (cons_option o xs)) ≡ option_or (picked read test o) (option_map read (find test xs))
find_cons read test None xs = refl
find_cons read test (Some x) xs = elim (test x) as
    (λ b. option_map read (if b then Some x else find test xs) ≡ option_or (if b then Some (read x) else None) (option_map read (find test xs))) [ true ↦ refl | false ↦ refl ]

-- likewise of the first that passes
pub find_through : {X Y : Type 0} (read : X → Y) (test : X → Bool) (change : X → Option X) → ((x : X) → picked read test (change x) ≡ picked read test (Some x)) →
    (xs : List X) → option_map read (find test (filter_map change xs)) ≡ option_map read (find test xs)
find_through read test change same [] = refl
find_through read test change same (x ∷ xs) =
    find_cons read test (change x) (filter_map change xs)
    ∙ ap (λ o. option_or o (option_map read (find test (filter_map change xs)))) (same x)
    ∙ ap (option_or (picked read test (Some x))) (find_through read test change same xs)
    ∙ sym (find_cons read test (Some x) xs)

-- what an item makes of a value, if it is there
abbrev pub gone_on : {X B : Type 0} → (B → X → B) → B → Option X → B
gone_on f b None = b
gone_on f b (Some x) = f b x

fold_cons : {X B : Type 0} (f : B → X → B) (b : B) (o : Option X) (xs : List X) → fold f b (cons_option o xs) ≡ fold f (gone_on f b o) xs
fold_cons f b None xs = refl
fold_cons f b (Some x) xs = refl

-- likewise of a fold
pub fold_through : {X B : Type 0} (f : B → X → B) (change : X → Option X) → ((b : B) (x : X) → gone_on f b (change x) ≡ f b x) →
    (xs : List X) (b : B) → fold f b (filter_map change xs) ≡ fold f b xs
fold_through f change same [] b = refl
fold_through f change same (x ∷ xs) b =
    fold_cons f b (change x) (filter_map change xs)
    ∙ ap (λ n. fold f n (filter_map change xs)) (same b x)
    ∙ fold_through f change same xs (f b x)

-- what isn't looked for may be left out before
pub filter_filter : {X : Type 0} (test low : X → Bool) → ((x : X) → test x ≡ true → low x ≡ true) → (xs : List X) → filter test (filter low xs) ≡ filter test xs
filter_filter test low keeps [] = refl
filter_filter test low keeps (x ∷ xs) = by_tests (filter_filter test low keeps xs) (test x) (low x) refl refl
  where
    by_tests : filter test (filter low xs) ≡ filter test xs → (t l : Bool) → test x ≡ t → low x ≡ l →
        filter test (if l then x ∷ filter low xs else filter low xs) ≡ (if t then x ∷ filter test xs else filter test xs)
    by_tests r true true e f = rw e (ap (λ ys. x ∷ ys) r)
    by_tests r true false e f = absurd (let g : low x ≡ true = keeps x e in (let h : true ≡ false = sym g ∙ f in cc))
    by_tests r false true e f = rw e r
    by_tests r false false e f = r

-- an item of those that pass passes, and is what all are
pub filtered_at : {X : Type 0} (all test : X → Bool) (xs : List X) (i : ℕ) (x : X) → list_all all xs ≡ true → slice_get (filter test xs) i ≡ Some x → (all x ≡ true) × (test x ≡ true)
filtered_at all test [] i x h e = cc
filtered_at all test (y ∷ ys) i x h e =
    let a : (all y ≡ true) × (list_all all ys ≡ true) = and_parts _ _ h in
    by_test (λ j g. filtered_at all test ys j x a.1 g) a.0 (test y) refl i e
  where
    by_test : ((j : ℕ) → slice_get (filter test ys) j ≡ Some x → (all x ≡ true) × (test x ≡ true)) → all y ≡ true → (b : Bool) → test y ≡ b → (i : ℕ) →
        slice_get (if b then y ∷ filter test ys else filter test ys) i ≡ Some x → (all x ≡ true) × (test x ≡ true)
    by_test rest one false t i g = rest i g
    by_test rest one true t zero g = let same : y ≡ x = cc in (rw (← same) one, rw (← same) t)
    by_test rest one true t (suc i) g = rest i g

-- an item of a list of what is made of numbers is made of a number
pub made_of_one : {Y : Type 0} (make : ℕ → Option Y) (xs : List ℕ) (i : ℕ) (y : Y) → slice_index_or (map make xs) i None ≡ Some y → (x : ℕ) × (make x ≡ Some y)
made_of_one make [] i y h = cc
made_of_one make (x ∷ xs) zero y h = (x, h)
made_of_one make (x ∷ xs) (suc i) y h = made_of_one make xs i y h

-- what is made of something
pub made_some : {X Y : Type 0} (make : X → Y) (o : Option X) (y : Y) → option_map make o ≡ Some y → (x : X) × (o ≡ Some x) × (make x ≡ y)
made_some make None y h = cc
made_some make (Some x) y h = let same : make x ≡ y = cc in (x, refl, same)
