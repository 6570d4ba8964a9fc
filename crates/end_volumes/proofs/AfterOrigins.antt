-- Where segments stand, entry by entry.
use Rattle.std.proofs.Common.{◌≡◌, ℕ, zero, suc, ◌+◌, ◌*◌, ◌<◌, ◌≤◌, Bool, true, false, ◌&&◌, List, [], ◌∷◌, length, get_or, set, replicate, inl, inr, refl, sym, ap, subst, ◌∙◌, Option, Some, None, arith}
use Rattle.std.proofs.lemmas.Bool.{and_from, and_parts, eqb-true, eq-eqb, ne_eqb, cases_eq, false_from_ne_true}
use Rattle.std.proofs.lemmas.List.{get_or-set_same, get_or-set_other}
use Rattle.std.specs.Prelude.{◌==◌, if◌then◌else◌, IfSome, is_none}
use Rattle.std.specs.Option.{option_or, option_and_then}
use Rattle.lists.specs.Lists.{below}
use Rattle.words_layout.specs.Segments.{seg, seg_number, numbered, same_seg}
use Rattle.words_layout.specs.Limits.{IsIdentity}
use Rattle.words_layout.specs.declared.segment.SegId.{SegId}
use Rattle.words_layout.specs.declared.coding.Alias.{Alias}
use Rattle.class_model.specs.State.{identities}
use Rattle.end_volumes.specs.declared.origins.Origin.{Origin}
use Rattle.end_volumes.specs.After.{Tree, first_answer, origin_at, origin_in, origin_under, origin, listed, Gains, IsOrigin, AreOrigins}
use Rattle.end_volumes.proofs.FirstAnswers.{or_none, or_assoc, first_more, first_from, first_only, first_by_number}

-- ---- a list of places

-- no place
abbrev no_one : Option Origin
no_one = None

pub nowhere_at : (n i : ℕ) → get_or (replicate n no_one) i no_one ≡ no_one
nowhere_at zero i = refl
nowhere_at (suc n) zero = refl
nowhere_at (suc n) (suc i) = nowhere_at n i

pub nowhere_all : (n : ℕ) → AreOrigins (replicate n no_one)
nowhere_all n i = subst (λ (o : Option Origin). IfSome o IsOrigin) (sym (nowhere_at n i)) tt

numbers_same : (v u : SegId) → IsIdentity v → IsIdentity u → seg_number u ≡ seg_number v → same_seg v u ≡ true
numbers_same v u h k e = and_from (v.mentor == u.mentor) (v.serial == u.serial) (eq-eqb v.mentor u.mentor (omega (arith, e, h.1, k.1))) (eq-eqb v.serial u.serial (omega (arith, e, h.1, k.1)))

numbers_apart : (v u : SegId) → (seg_number u ≡ seg_number v → ⊥) → same_seg v u ≡ false
numbers_apart v u apart = false_from_ne_true (same_seg v u) (λ h.
    let p = and_parts (v.mentor == u.mentor) (v.serial == u.serial) h in
    let a : v.mentor ≡ u.mentor = eqb-true v.mentor u.mentor p.0 in
    let b : v.serial ≡ u.serial = eqb-true v.serial u.serial p.1 in
    apart (omega (arith, a, b)))

-- a segment of number n stands there, where it stood nowhere
pub offered : (list after : List (Option Origin)) (v : SegId) (o : Origin) → length list ≡ 1024 → IsIdentity v → listed list v ≡ None → after ≡ set list (seg_number v) (Some o) →
    Gains list after (λ u. if same_seg v u then Some o else None)
offered list after v o long ok empty is u in_limits = elim (cases_eq (seg_number u) (seg_number v)) [
  | inl same ↦ (
      let here : listed after u ≡ Some o = ap (λ (xs : List (Option Origin)). listed xs u) is ∙ (ap (λ n. get_or (set list (seg_number v) (Some o)) n None) same ∙ get_or-set_same list (seg_number v) (Some o) None (omega (arith, long, ok.0, ok.1))) in
      let was : listed list u ≡ None = ap (λ n. get_or list n None) same ∙ empty in
      here ∙ sym (λ j. option_or (was j) (if numbers_same v u ok in_limits same j then Some o else None)))
  | inr apart ↦ (
      let here : listed after u ≡ listed list u = ap (λ (xs : List (Option Origin)). listed xs u) is ∙ get_or-set_other list (seg_number v) (seg_number u) (Some o) None apart in
      here ∙ (sym (or_none (listed list u)) ∙ ap (λ b. option_or (listed list u) (if b then Some o else None)) (sym (numbers_apart v u apart))))
]

-- an earlier entry names it
pub kept : (list : List (Option Origin)) (v : SegId) (o : Origin) → IsIdentity v → is_none (listed list v) ≡ false → Gains list list (λ u. if same_seg v u then Some o else None)
kept list v o ok full u in_limits = elim (cases_eq (seg_number u) (seg_number v)) [
  | inl same ↦ ap (λ n. get_or list n None) same ∙ (stays (listed list v) (if same_seg v u then Some o else None) full ∙ ap (λ n. option_or (get_or list n None) (if same_seg v u then Some o else None)) (sym same))
  | inr apart ↦ sym (or_none (listed list u)) ∙ ap (λ b. option_or (listed list u) (if b then Some o else None)) (sym (numbers_apart v u apart))
]
  where
    stays : (a b : Option Origin) → is_none a ≡ false → a ≡ option_or a b
    stays None b h = absurd cc
    stays (Some x) b h = refl

pub origins_after : (list after : List (Option Origin)) (n : ℕ) (o : Origin) → n < length list → IsOrigin o → AreOrigins list → after ≡ set list n (Some o) → AreOrigins after
origins_after list after n o there ok all is i = elim (cases_eq i n) [
  | inl same ↦ subst (λ (x : Option Origin). IfSome x IsOrigin) (sym (ap (λ (xs : List (Option Origin)). get_or xs i None) is ∙ (ap (λ k. get_or (set list n (Some o)) k None) same ∙ get_or-set_same list n (Some o) None there))) ok
  | inr apart ↦ subst (λ (x : Option Origin). IfSome x IsOrigin) (sym (ap (λ (xs : List (Option Origin)). get_or xs i None) is ∙ get_or-set_other list n i (Some o) None apart)) (all i)
]

-- ---- one entry after the other

pub gains_none : (list : List (Option Origin)) → Gains list list (λ u. None)
gains_none list u ok = sym (or_none (listed list u))

pub gains_as : (list after : List (Option Origin)) (f g : SegId → Option Origin) → ((u : SegId) → f u ≡ g u) → Gains list after f → Gains list after g
gains_as list after f g same gains u ok = gains u ok ∙ ap (option_or (listed list u)) (same u)

module _ (f : SegId → ℕ → Option Origin) where
  pub gains_more : (n : ℕ) (first now after : List (Option Origin)) → Gains first now (λ u. first_answer (f u) (below n)) → Gains now after (λ u. f u n) → Gains first after (λ u. first_answer (f u) (below (n + 1)))
  gains_more n first now after so_far more u ok =
      more u ok ∙ (ap (λ (o : Option Origin). option_or o (f u n)) (so_far u ok) ∙ (or_assoc (listed first u) (first_answer (f u) (below n)) (f u n) ∙ ap (option_or (listed first u)) (sym (first_more (f u) n))))

  pub gains_all : (i n : ℕ) (first now : List (Option Origin)) → i ≤ n → n ≤ i → Gains first now (λ u. first_answer (f u) (below i)) → Gains first now (λ u. first_answer (f u) (below n))
  gains_all i n first now a b gains = let e : i ≡ n = omega (arith, a, b) in subst (λ m. Gains first now (λ u. first_answer (f u) (below m))) e gains

-- ---- where a segment stands

none_of : {X Y : Type 0} (f : X → Option Y) (xs : List X) → ((x : X) → f x ≡ None) → first_answer f xs ≡ None
none_of f [] none = refl
none_of f (x ∷ xs) none = rw (none x) (none_of f xs none)

-- an entry as the place of a segment
abbrev pub place : SegId → ℕ → Alias → Origin
place x e y = record { mentor = x; entry = e; alias = y }

-- in a cell of one of the table's classes
abbrev Placed : Tree → Origin → Type 0
Placed t o = (o.mentor.mentor < t.classes) × (o.mentor.serial < 64)

module _ (t : Tree) (u : SegId) where
  other_class : (c : ℕ) (x : SegId) (e : ℕ) → (c ≡ u.mentor → ⊥) → origin_at t u c x e ≡ None
  other_class c x e apart = one (t.entry c x e)
    where
      one : (o : Option Alias) → option_and_then (λ (y : Alias). if same_seg (seg c y.serial) u then Some (place x e y) else None) o ≡ None
      one None = refl
      one (Some y) = ap (λ b. if b && y.serial == u.serial then Some (place x e y) else None) (ne_eqb c u.mentor apart)

  pub under_its_own : (n : ℕ) → u.mentor < n → first_answer (origin_under t u) (below n) ≡ origin t u
  under_its_own n lt = first_only (origin_under t u) u.mentor n (λ c apart. none_of (origin_in t u c) (identities t.classes) (λ x. none_of (origin_at t u c x) (below 8) (λ e. other_class c x e apart))) lt

  if_so : (b : Bool) (o : Origin) → Placed t o → IfSome (if b then Some o else None) (Placed t)
  if_so true o h = h
  if_so false o h = tt

  one_placed : (j e : ℕ) → j < 64 * t.classes → (o : Option Alias) → IfSome (option_and_then (λ (y : Alias). if same_seg (seg u.mentor y.serial) u then Some (place (numbered j) e y) else None) o) (Placed t)
  one_placed j e lt None = tt
  one_placed j e lt (Some y) = if_so (same_seg (seg u.mentor y.serial) u) (place (numbered j) e y) (omega (arith, lt), omega arith)

  -- what names it stands in a cell of the table's classes
  pub origin_placed : IfSome (origin t u) (Placed t)
  origin_placed = subst (λ (o : Option Origin). IfSome o (Placed t)) (sym (first_by_number (origin_in t u u.mentor) t.classes)) (first_from (Placed t) (λ j. origin_in t u u.mentor (numbered j)) 0 (64 * t.classes)
      (λ j low lt. first_from (Placed t) (origin_at t u u.mentor (numbered j)) 0 8 (λ e a b. one_placed j e (omega (arith, lt)) (t.entry u.mentor (numbered j) e))))

-- the entry that was read, as the place of a segment
pub read_entry : (t : Tree) (c : ℕ) (x : SegId) (e : ℕ) (y : Alias) → t.entry c x e ≡ Some y → (u : SegId) → (if same_seg (seg c y.serial) u then Some (place x e y) else None) ≡ origin_at t u c x e
read_entry t c x e y is u = sym (ap (option_and_then (λ (z : Alias). if same_seg (seg c z.serial) u then Some (place x e z) else None)) is)

pub read_none : (t : Tree) (c : ℕ) (x : SegId) (e : ℕ) → t.entry c x e ≡ None → (u : SegId) → None ≡ origin_at t u c x e
read_none t c x e is u = sym (ap (option_and_then (λ (z : Alias). if same_seg (seg c z.serial) u then Some (place x e z) else None)) is)

-- all cells of a class, by their numbers
pub gains_class : (t : Tree) (c : ℕ) (first now : List (Option Origin)) → Gains first now (λ u. first_answer (λ j. origin_in t u c (numbered j)) (below (64 * t.classes))) → Gains first now (λ u. origin_under t u c)
gains_class t c first now gains = gains_as first now _ _ (λ u. sym (first_by_number (origin_in t u c) t.classes)) gains

-- all classes, from nowhere on
pub stands_by : (t : Tree) (first now : List (Option Origin)) (n : ℕ) → ((u : SegId) → listed first u ≡ None) → Gains first now (λ u. first_answer (origin_under t u) (below n)) → (u : SegId) → IsIdentity u → u.mentor < n → listed now u ≡ origin t u
stands_by t first now n none gains u ok lt = gains u ok ∙ (ap (λ (o : Option Origin). option_or o (first_answer (origin_under t u) (below n))) (none u) ∙ under_its_own t u n lt)
