-- What holds of each element of a list.
use Rattle.std.proofs.Common.{◌≡◌, zero, suc, Bool, true, false, cond, List, [], ◌∷◌, ◌++◌, Some, refl, sym, subst, arith}
use Rattle.std.proofs.lemmas.List.{reverse-append}
use Rattle.std.specs.Prelude.{map, find, reverse, All}
use Rattle.std.specs.List.{AllByRecursion}

pub map_all : {X : Type 0} (P Q : X → Type 0) (xs : List X) → ((x : X) → P x → Q x) → AllByRecursion P xs → AllByRecursion Q xs
map_all P Q [] f all = tt
map_all P Q (x ∷ xs) f all = (f x all.0, map_all P Q xs f all.1)

pub both_all : {X : Type 0} (P Q R : X → Type 0) (xs : List X) → ((x : X) → P x → Q x → R x) → AllByRecursion P xs → AllByRecursion Q xs → AllByRecursion R xs
both_all P Q R [] f a b = tt
both_all P Q R (x ∷ xs) f a b = (f x a.0 b.0, both_all P Q R xs f a.1 b.1)

all_push : {X : Type 0} (P : X → Type 0) (xs : List X) (x : X) → AllByRecursion P xs → P x → AllByRecursion P (xs ++ x ∷ [])
all_push P [] x all is = (is, tt)
all_push P (y ∷ ys) x all is = (all.0, all_push P ys x all.1 is)

pub all_reverse : {X : Type 0} (P : X → Type 0) (xs : List X) → AllByRecursion P xs → AllByRecursion P (reverse xs)
all_reverse P [] all = tt
all_reverse P (x ∷ xs) all = subst (AllByRecursion P) (sym (reverse-append (x ∷ []) xs)) (all_push P (reverse xs) x (all_reverse P xs all.1) all.0)

-- an element that is found
pub find_has : {X : Type 0} (P : X → Type 0) (p : X → Bool) (xs : List X) (x : X) → AllByRecursion P xs → find p xs ≡ Some x → P x × (p x ≡ true)
find_has P p [] x all e = absurd cc
find_has P p (y ∷ ys) x all e =
    elim (p y) as (λ b. p y ≡ b → cond b (Some y) (find p ys) ≡ Some x → P x × (p x ≡ true)) [
      | true ↦ λ is some. let same : y ≡ x = cc in subst (λ z. P z × (p z ≡ true)) same (all.0, is)
      | false ↦ λ no rest. find_has P p ys x all.1 rest
    ] refl e

pub all_index : {X : Type 0} (P : X → Type 0) (xs : List X) → AllByRecursion P xs → All P xs
all_index P [] all k d lt = absurd (omega (arith, lt))
all_index P (x ∷ xs) all zero d lt = all.0
all_index P (x ∷ xs) all (suc k) d lt = all_index P xs all.1 k d (omega (arith, lt))

pub all_map : {X Y : Type 0} (P : Y → Type 0) (f : X → Y) (xs : List X) → AllByRecursion (λ x. P (f x)) xs → AllByRecursion P (map f xs)
all_map P f [] all = tt
all_map P f (x ∷ xs) all = (all.0, all_map P f xs all.1)

-- two functions that give the same list
pub all_equal : {X Y : Type 0} (f g : X → Y) (xs : List X) → map f xs ≡ map g xs → AllByRecursion (λ x. f x ≡ g x) xs
all_equal f g [] e = tt
all_equal f g (x ∷ xs) e = (cc, all_equal f g xs cc)
