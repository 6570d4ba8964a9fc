-- Writing one thing after the other.
use Rattle.std.proofs.Common.{◌≡◌, ℕ, ◌+◌, ◌≤◌, ◌<◌, List, [], ◌++◌, length, get_or, take, drop, Result, Ok, Err, sym, ap, subst, ◌∙◌, append_assoc, length-append, arith}
use Rattle.std.specs.List.{flat_map}
use Rattle.std.proofs.lemmas.List.{append-nil, take_all, take_more, take-append-drop, flat_map_more}
use Rattle.std.proofs.lemmas.List.Concat.{flat_map-append}
use Rattle.std.specs.Global.{Vec}
use Rattle.std.specs.declared.alloc.AllocError.{AllocError}
use Rattle.volume_image.specs.Puts.{Puts}

abbrev Answer : Type 0
Answer = Result (Unit {0}) AllocError

-- both were put, or the second one had no room
pub puts_then : (a b c : Vec ℕ) (u : Unit {0}) (r : Answer) (x y : List ℕ) → Puts a b (Ok u) x → Puts b c r y → Puts a c r (x ++ y)
puts_then a b c u (Ok v) x y p q =
    (q.0 ∙ ap (λ (t : List ℕ). t ++ y) p.0 ∙ append_assoc a.items x y, omega (arith, p.1, q.1, length-append x y), omega (arith, p.2, q.2))
puts_then a b c u (Err e) x y p q = omega (arith, p.1, p.2, q, length-append x y)

-- the first one had no room
pub puts_none : (a b c : Vec ℕ) (e : AllocError) (x y : List ℕ) → Puts a b (Err e) x → Puts a c (Err e) (x ++ y)
puts_none a b c e x y p = omega (arith, p, length-append x y)

pub ruleset putting = (puts_then, puts_none)

-- ---- a list, one item after the other

flat_map_step : {X : Type 0} (f : X → List ℕ) (xs : List X) (i : ℕ) (d : X) → i < length xs → flat_map f (take (i + 1) xs) ≡ flat_map f (take i xs) ++ f (get_or xs i d)
flat_map_step f xs i d lt = ap (flat_map f) (take_more xs i d lt) ∙ sym (flat_map_more f [] (take i xs) (get_or xs i d))

flat_map_split : {X : Type 0} (f : X → List ℕ) (xs : List X) (i : ℕ) → length (flat_map f (take i xs)) ≤ length (flat_map f xs)
flat_map_split f xs i =
    let parts : flat_map f xs ≡ flat_map f (take i xs) ++ flat_map f (drop i xs) = ap (flat_map f) (sym (take-append-drop i xs)) ∙ flat_map-append f (take i xs) (drop i xs) in
    omega (arith, ap length parts, length-append (flat_map f (take i xs)) (flat_map f (drop i xs)))

pub item_put : {X : Type 0} (f : X → List ℕ) (xs : List X) (i : ℕ) (d : X) (a b c : Vec ℕ) (u v w : Unit {0}) → i < length xs →
    Puts a b (Ok u) (flat_map f (take i xs)) → Puts b c (Ok v) (f (get_or xs i d)) → Puts a c (Ok w) (flat_map f (take (i + 1) xs))
item_put f xs i d a b c u v w lt p q = rw (flat_map_step f xs i d lt) (puts_then a b c u (Ok w) (flat_map f (take i xs)) (f (get_or xs i d)) p q)

pub item_not_put : {X : Type 0} (f : X → List ℕ) (xs : List X) (i : ℕ) (d : X) (a b c : Vec ℕ) (u : Unit {0}) (e : AllocError) → i < length xs →
    Puts a b (Ok u) (flat_map f (take i xs)) → Puts b c (Err e) (f (get_or xs i d)) → Puts a c (Err e) (flat_map f xs)
item_not_put f xs i d a b c u e lt p q =
    omega (arith, p.1, p.2, q, ap length (flat_map_step f xs i d lt), length-append (flat_map f (take i xs)) (f (get_or xs i d)), flat_map_split f xs (i + 1))

pub items_put : {X : Type 0} (f : X → List ℕ) (xs : List X) (i : ℕ) (a b : Vec ℕ) (u v : Unit {0}) → length xs ≤ i → Puts a b (Ok u) (flat_map f (take i xs)) → Puts a b (Ok v) (flat_map f xs)
items_put {X} f xs i a b u v le p = subst (λ (ys : List X). Puts a b (Ok v) (flat_map f ys)) (take_all i xs le) p

pub none_put : {X : Type 0} (f : X → List ℕ) (xs : List X) (a : Vec ℕ) (u : Unit {0}) → Puts a a (Ok u) (flat_map f (take 0 xs))
none_put f xs a u = (sym (append-nil a.items), omega arith, omega arith)
