-- What a change of a listed component comes to.
use Rattle.std.proofs.Common.{ℕ, ◌≡◌, ◌+◌, Bool, true, false, List, [], ◌∷◌, ◌++◌, get_or, set, refl, sym, ◌∙◌, ap, subst}
use Rattle.std.specs.Prelude.{if◌then◌else◌, ◌==◌, ◌&&◌}
use Rattle.std.proofs.lemmas.Bool.{eqb-true, eq-eqb}
use Rattle.lists.specs.Lists.{put}
use Rattle.words_layout.specs.Segments.{same_seg, put_seg}
use Rattle.words_layout.specs.declared.segment.SegId.{SegId}
use Rattle.words_layout.proofs.Names.{same_seg-true, same_seg-refl}
use Rattle.whole_machine.specs.Parts.{Counted, is_count, count_in}
use Rattle.whole_machine.specs.Shows.{ListsAt, RaisesCount}
use Rattle.whole_machine.proofs.Lookups.{changed_at, first_at, first_pushed}

-- one more component of 0 is listed
pub pushed_count : (counts : List Counted) (x z : ℕ) (u v : SegId) →
    count_in (counts ++ record { class = x; seg = u; count = 0 } ∷ []) z v ≡ count_in counts z v
pushed_count counts x z u v = first_pushed (is_count z v) (λ y. y.count) 0 counts (record { class = x; seg = u; count = 0 }) refl

both : (a b : Bool) → (a && b) ≡ true → (a ≡ true) × (b ≡ true)
both true true e = (refl, refl)
both true false e = cc
both false b e = cc

-- the identity of what passes
pub key_of : (x : ℕ) (u : SegId) (y : Counted) → is_count x u y ≡ true → (x ≡ y.class) × (u ≡ y.seg)
key_of x u y h = let parts = both (x == y.class) (same_seg u y.seg) h in (eqb-true x y.class parts.0, same_seg-true u y.seg parts.1)

-- what has its own key passes
pub own_key : (x : ℕ) (u : SegId) (n : ℕ) → is_count x u (record { class = x; seg = u; count = n }) ≡ true
own_key x u n = rw (eq-eqb x x refl, same_seg-refl u) refl

not_both : (x z : ℕ) (u v : SegId) (y w : Counted) → x ≡ y.class → u ≡ y.seg → is_count z v y ≡ true → is_count x u w ≡ false → is_count z v w ≡ false
not_both x z u v y w e f a b =
    let k = key_of z v y a in
    let g : x ≡ z = e ∙ sym k.0 in
    let h : u ≡ v = f ∙ sym k.1 in
    subst (λ (n : ℕ). is_count n v w ≡ false) g (subst (λ (s : SegId). is_count x s w ≡ false) h b)

tests : (a b : Bool) (v old : ℕ) → (if a && b then v else old) ≡ (if a then (if b then v else old) else old)
tests true b v old = refl
tests false b v old = refl

at_class : (a : Bool) (v p q : ℕ) (b : Bool) → (a ≡ true → p ≡ q) → (if a then (if b then v else p) else p) ≡ (if a then (if b then v else q) else p)
at_class true v p q b e = rw (e refl) refl
at_class false v p q b e = refl

applied : (a : Bool) (f g : SegId → ℕ) (v : SegId) → (if a then f v else g v) ≡ (if a then f else g) v
applied true f g v = refl
applied false f g v = refl

read_here : (counts : List Counted) (x : ℕ) (u : SegId) (at : ℕ) (item : Counted) → item ≡ get_or counts at item → ListsAt (is_count x u) counts at → item.count ≡ count_in counts x u
read_here counts x u at item g l =
    ap (λ (y : Counted). y.count) g ∙ sym (first_at (is_count x u) (λ y. y.count) 0 counts at item l.inside (l.here item) (λ k. l.before k item))

-- what is read at the place is the component
pub read_count : (counts now : List Counted) → counts ≡ now → (x : ℕ) (u : SegId) (at : ℕ) (item : Counted) → item ≡ get_or counts at item → ListsAt (is_count x u) now at → item.count ≡ count_in now x u
read_count counts now v x u at item g =
    subst (λ (ys : List Counted). ListsAt (is_count x u) ys at → item.count ≡ count_in ys x u) v (read_here counts x u at item g)

raised_here : (counts : List Counted) (at : ℕ) (item : Counted) → item ≡ get_or counts at item →
    RaisesCount counts (set counts at (record item { count = item.count + 1 })) at
raised_here counts at item g x u l = λ k z v. (each z v) k
  where
    y : Counted
    y = record item { count = item.count + 1 }

    key : (x ≡ y.class) × (u ≡ y.seg)
    key = key_of x u item (ap (λ (w : Counted). is_count x u w) g ∙ l.here item)

    old : item.count ≡ count_in counts x u
    old = read_here counts x u at item g l

    each : (z : ℕ) (v : SegId) → count_in (set counts at y) z v ≡ put (count_in counts) x (put_seg (count_in counts x) u (count_in counts x u + 1)) z v
    each z v =
        changed_at (is_count x u) (is_count z v) (λ w. w.count) 0 counts at item y l (ap (λ (w : Counted). is_count z v w) (sym g))
        (λ w a b. not_both x z u v y w key.0 key.1 a b) ∙
        ap (λ (n : ℕ). if is_count z v y then n + 1 else count_in counts z v) old ∙
        tests (z == y.class) (same_seg v y.seg) (count_in counts x u + 1) (count_in counts z v) ∙
        ap (λ (n : ℕ). if z == n then (if same_seg v y.seg then count_in counts x u + 1 else count_in counts z v) else count_in counts z v) (sym key.0) ∙
        ap (λ (s : SegId). if z == x then (if same_seg v s then count_in counts x u + 1 else count_in counts z v) else count_in counts z v) (sym key.1) ∙
        at_class (z == x) (count_in counts x u + 1) (count_in counts z v) (count_in counts x v) (same_seg v u)
        (λ e. ap (λ (n : ℕ). count_in counts n v) (eqb-true z x e)) ∙
        applied (z == x) (put_seg (count_in counts x) u (count_in counts x u + 1)) (count_in counts z) v

-- the components after it rises
pub raised : (counts now : List Counted) → counts ≡ now → (at : ℕ) (item : Counted) → item ≡ get_or counts at item →
    RaisesCount now (set counts at (record item { count = item.count + 1 })) at
raised counts now v at item g =
    subst (λ (ys : List Counted). RaisesCount ys (set counts at (record item { count = item.count + 1 })) at) v (raised_here counts at item g)
