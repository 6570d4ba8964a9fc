-- What a list says of what is found, missing, added or changed in it.
use Rattle.std.proofs.Common.{ℕ, zero, suc, ◌≡◌, ◌<◌, ◌+◌, Bool, true, false, List, [], ◌∷◌, ◌++◌, length, get_or, set, refl, sym, ◌∙◌, ap, arith, Some, None}
use Rattle.std.specs.Prelude.{if◌then◌else◌, position, cond}
use Rattle.std.specs.List.{position_from}
use Rattle.std.proofs.lemmas.Iterator.Adapters.{position_from-zero}
use Rattle.std.proofs.lemmas.List.Quantifiers.{position-Some}
use Rattle.std.proofs.Math.Seq.{get_or-append_seam}
use Rattle.std.proofs.lemmas.List.{get_or_append_left, length-append}
use Rattle.whole_machine.specs.Parts.{first_of}
use Rattle.whole_machine.specs.Shows.{ListsAt}

-- the first item that passes stands at place i
pub first_at : {X A : Type 0} (p : X → Bool) (f : X → A) (b : A) (xs : List X) (i : ℕ) (d : X) → i < length xs →
    p (get_or xs i d) ≡ true → ((k : ℕ) → k < i → p (get_or xs k d) ≡ false) → first_of p f b xs ≡ f (get_or xs i d)
first_at p f b [] i d lt here before = absurd (omega arith)
first_at p f b (x ∷ xs) zero d lt here before = rw here refl
first_at p f b (x ∷ xs) (suc i) d lt here before =
    let no : p x ≡ false = before 0 (omega arith) in
    rw no (first_at p f b xs i d (omega arith) here (λ k h. before (suc k) (omega arith)))

-- what is found holds what it holds
pub found : {X A : Type 0} (p : X → Bool) (f : X → A) (b : A) (xs : List X) (i : ℕ) (d : X) → position p xs ≡ Some i →
    first_of p f b xs ≡ f (get_or xs i d)
found p f b xs i d e = let h = position-Some p xs i d e in first_at p f b xs i d h.0 h.1 h.2

at_each : {X : Type 0} (p : X → Bool) (x : X) (xs : List X) (d : X) → p x ≡ false → ((j : ℕ) → j < length xs → p (get_or xs j d) ≡ false) →
    (k : ℕ) → k < length (x ∷ xs) → p (get_or (x ∷ xs) k d) ≡ false
at_each p x xs d here rest zero lt = here
at_each p x xs d here rest (suc k) lt = rest k (omega arith)

each_fails : {X : Type 0} (p : X → Bool) (xs : List X) (n k : ℕ) (d : X) → position_from p n xs ≡ None → k < length xs → p (get_or xs k d) ≡ false
each_fails p [] n k d e lt = absurd (omega arith)
each_fails p (x ∷ xs) n k d e lt =
    elim (p x) as (λ t. p x ≡ t → cond t (Some n) (position_from p (n + 1) xs) ≡ None → p (get_or (x ∷ xs) k d) ≡ false) [
      | true ↦ λ q f. cc
      | false ↦ λ q f. at_each p x xs d q (λ j h. each_fails p xs (n + 1) j d f h) k lt
    ] refl e

-- where nothing is found, no item passes
pub fails : {X : Type 0} (p : X → Bool) (xs : List X) → position p xs ≡ None → (k : ℕ) (d : X) → k < length xs → p (get_or xs k d) ≡ false
fails p xs e k d lt = each_fails p xs 0 k d (sym (position_from-zero p xs) ∙ e) lt

missing_from : {X A : Type 0} (p : X → Bool) (f : X → A) (b : A) (xs : List X) (n : ℕ) → position_from p n xs ≡ None → first_of p f b xs ≡ b
missing_from p f b [] n e = refl
missing_from p f b (x ∷ xs) n e =
    elim (p x) as (λ t. cond t (Some n) (position_from p (n + 1) xs) ≡ None → (if t then f x else first_of p f b xs) ≡ b) [
      | true ↦ λ e. cc
      | false ↦ λ e. missing_from p f b xs (n + 1) e
    ] e

-- where nothing is found, the default is said
pub missing : {X A : Type 0} (p : X → Bool) (f : X → A) (b : A) (xs : List X) → position p xs ≡ None → first_of p f b xs ≡ b
missing p f b xs e = missing_from p f b xs 0 (sym (position_from-zero p xs) ∙ e)

last_one : {A : Type 0} (t : Bool) (v b : A) → v ≡ b → (if t then v else b) ≡ b
last_one true v b e = e
last_one false v b e = refl

-- an item at the end that holds the default changes nothing
pub first_pushed : {X A : Type 0} (p : X → Bool) (f : X → A) (b : A) (xs : List X) (y : X) → f y ≡ b →
    first_of p f b (xs ++ y ∷ []) ≡ first_of p f b xs
first_pushed p f b [] y e = last_one (p y) (f y) b e
first_pushed p f b (x ∷ xs) y e = ap (λ r. if p x then f x else r) (first_pushed p f b xs y e)

head_set : {A : Type 0} (t s : Bool) (v w r : A) → s ≡ t → (if t then v else r) ≡ (if t then v else (if s then w else r))
head_set true s v w r e = refl
head_set false s v w r e = rw e refl

tail_set : {A : Type 0} (t s : Bool) (v w r q : A) → (t ≡ true → s ≡ false) → q ≡ (if t then v else r) →
    (if s then w else q) ≡ (if t then v else (if s then w else r))
tail_set true s v w r q apart e = rw (apart refl, e) refl
tail_set false s v w r q apart e = rw e refl

-- an item is changed at the first place of its key
pub first_set : {X A : Type 0} (p : X → Bool) (f : X → A) (b : A) (xs : List X) (i : ℕ) (d y : X) → i < length xs →
    p (get_or xs i d) ≡ p y → ((k : ℕ) → k < i → p y ≡ true → p (get_or xs k d) ≡ false) →
    first_of p f b (set xs i y) ≡ (if p y then f y else first_of p f b xs)
first_set p f b [] i d y lt same before = absurd (omega arith)
first_set p f b (x ∷ xs) zero d y lt same before = head_set (p y) (p x) (f y) (f x) (first_of p f b xs) same
first_set p f b (x ∷ xs) (suc i) d y lt same before =
    tail_set (p y) (p x) (f y) (f x) (first_of p f b xs) (first_of p f b (set xs i y)) (before 0 (omega arith))
    (first_set p f b xs i d y (omega arith) same (λ k h. before (suc k) (omega arith)))

-- an item at the end is the first one where none was found before it
pub pushed_at : {X : Type 0} (p : X → Bool) (xs : List X) (y : X) → position p xs ≡ None → p y ≡ true → ListsAt p (xs ++ y ∷ []) (length xs)
pushed_at p xs y none here = record {
  inside = simp length-append (omega arith);
  here = λ d. rw (get_or-append_seam xs y [] d) here;
  before = λ k d lt. rw (get_or_append_left xs (y ∷ []) d k lt) (fails p xs none k d lt);
}

-- what is found stands there
found_inside : {X : Type 0} (p : X → Bool) (xs : List X) (i : ℕ) → position p xs ≡ Some i → i < length xs
found_inside p [] i e = cc
found_inside p (x ∷ xs) i e = (position-Some p (x ∷ xs) i x e).0

pub found_at : {X : Type 0} (p : X → Bool) (xs : List X) (i : ℕ) → position p xs ≡ Some i → ListsAt p xs i
found_at p xs i e = record {
  inside = found_inside p xs i e;
  here = λ d. (position-Some p xs i d e).1;
  before = λ k d lt. (position-Some p xs i d e).2 k lt;
}

-- an item is changed where it stands first, for the test of another item that passes as it does
pub changed_at : {X A : Type 0} (p q : X → Bool) (f : X → A) (b : A) (xs : List X) (at : ℕ) (d y : X) → ListsAt p xs at →
    q (get_or xs at d) ≡ q y → ((x : X) → q y ≡ true → p x ≡ false → q x ≡ false) →
    first_of q f b (set xs at y) ≡ (if q y then f y else first_of q f b xs)
changed_at p q f b xs at d y l same apart = first_set q f b xs at d y l.inside same (λ k lt h. apart _ h (l.before k d lt))

-- what stands first does so with one more item at the end
pub still_at : {X : Type 0} (p : X → Bool) (xs : List X) (y : X) (at : ℕ) → ListsAt p xs at → ListsAt p (xs ++ y ∷ []) at
still_at p xs y at l = record {
  inside = let lt : at < length xs = l.inside in simp length-append (omega arith);
  here = λ d. rw (get_or_append_left xs (y ∷ []) d at l.inside) (l.here d);
  before = λ k d lt. let h : at < length xs = l.inside in rw (get_or_append_left xs (y ∷ []) d k (omega arith)) (l.before k d lt);
}
