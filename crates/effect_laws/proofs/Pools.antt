-- A class has a free frame or page exactly where fewer cells use one than its pool has.
use Rattle.std.proofs.Common.{ℕ, ◌≤◌, ◌<◌, true, false, not, List, ◌≡◌, refl, sym, ap, ◌∙◌, Option, Some, None, arith, ◌⊎◌, inl, inr}
use Rattle.std.specs.Prelude.{◌==◌, is_some, nat_le}
use Rattle.std.proofs.lemmas.Bool.{eq-eqb, ne_eqb, eqb-true, cases_eq, le-leb}
use Rattle.lists.specs.Lists.{below}
use Rattle.words_layout.specs.declared.segment.SegId.{SegId}
use Rattle.words_layout.specs.declared.coding.Home.{Home}
use Rattle.words_layout.specs.declared.coding.Home.TheVariants as H
use Rattle.words_layout.specs.Words.{GuardedWords, HomeOf, FrameTenant, PageTenant}
use Rattle.words_layout.specs.Coding.{home_of}
use Rattle.class_model.specs.Config.{Shared, Pool, classes}
use Rattle.class_model.specs.State.{Part, In, is_in, is_in_home, frames_in_use, pages_in_use}
use Rattle.machine.specs.Stands.{Holds, HomeHolds, StoredHolds, names_frame, names_page}
use Rattle.effect_laws.proofs.Counting.{one_if, total, count-total, total-same, total-zero, one-number, in-use}
use Rattle.effect_laws.proofs.Filling.{total-all, total-less}

-- the identity is one of a table of n classes
abbrev pub IsIdentity : ℕ → SegId → Type 0
IsIdentity n v = (v.mentor < n) × (v.serial < 64)

pub eqb-sym : (a b : ℕ) → (a == b) ≡ (b == a)
eqb-sym a b = by_cases (cases_eq a b)
  where
    by_cases : (a ≡ b) ⊎ (a ≡ b → ⊥) → (a == b) ≡ (b == a)
    by_cases (inl e) = eq-eqb a b e ∙ sym (eq-eqb b a (sym e))
    by_cases (inr e) = ne_eqb a b e ∙ sym (ne_eqb b a (λ x. e (sym x)))

one-named : (f n : ℕ) → f < n → total (λ i. one_if (f == i)) (below n) ≡ 1
one-named f n h = total-same (λ i. one_if (f == i)) (λ i. one_if (i == f)) (below n) (λ i. ap one_if (eqb-sym f i)) ∙ one-number f 0 n (omega arith) (omega (arith, h))

module _ (s : Shared) (pool : Pool) (g : GuardedWords) (part : Part) (holds : Holds pool g part) where
  frame-row : (u : SegId) → total (λ f. one_if (names_frame (home_of (g (HomeOf u))) f)) (below pool.frames) ≡ one_if (is_in (part.cell u))
  frame-row u = by_home (home_of (g (HomeOf u))) (holds.of_class.frames_below u) (holds.of_segments u).home
    where
      by_home : (h : Home) → ((f : ℕ) → names_frame h f ≡ true → f < pool.frames) → HomeHolds g h (part.cell u).home →
          total (λ f. one_if (names_frame h f)) (below pool.frames) ≡ one_if (is_in_home (part.cell u).home)
      by_home H.Never low k = total-zero (below pool.frames) ∙ sym (ap (λ z. one_if (is_in_home z)) k)
      by_home H.Deleted low k = total-zero (below pool.frames) ∙ sym (ap (λ z. one_if (is_in_home z)) k)
      by_home (H.Stored p size) low k = total-zero (below pool.frames) ∙ sym (ap (λ z. one_if (is_in_home z)) k)
      by_home (H.Resident f page size) low k = one-named f pool.frames (low f (eq-eqb f f refl)) ∙ sym (ap (λ z. one_if (is_in_home z)) k)

  page-row : (u : SegId) → total (λ f. one_if (names_page (home_of (g (HomeOf u))) f)) (below pool.pages) ≡ one_if (is_some (part.cell u).stored)
  page-row u = by_home (home_of (g (HomeOf u))) (holds.of_class.pages_below u) (holds.of_class.stored u)
    where
      by_home : (h : Home) → ((f : ℕ) → names_page h f ≡ true → f < pool.pages) → StoredHolds g h (part.cell u).stored →
          total (λ f. one_if (names_page h f)) (below pool.pages) ≡ one_if (is_some (part.cell u).stored)
      by_home H.Never low k = total-zero (below pool.pages) ∙ sym (ap (λ (z : Option (List ℕ)). one_if (is_some z)) k)
      by_home H.Deleted low k = total-zero (below pool.pages) ∙ sym (ap (λ (z : Option (List ℕ)). one_if (is_some z)) k)
      by_home (H.Stored p size) low k = one-named p pool.pages (low p (eq-eqb p p refl)) ∙ sym (ap (λ (z : Option (List ℕ)). one_if (is_some z)) k)
      by_home (H.Resident f None size) low k = total-zero (below pool.pages) ∙ sym (ap (λ (z : Option (List ℕ)). one_if (is_some z)) k)
      by_home (H.Resident f (Some p) size) low k = one-named p pool.pages (low p (eq-eqb p p refl)) ∙ sym (ap (λ (z : Option (List ℕ)). one_if (is_some z)) k)

  -- a segment that has a frame has live words, and one that has a page stored words
  frame_live : (u : SegId) (f : ℕ) → names_frame (home_of (g (HomeOf u))) f ≡ true → (words : List ℕ) × ((part.cell u).home ≡ In words)
  frame_live u f = by_home (home_of (g (HomeOf u))) (holds.of_segments u).home
    where
      by_home : (h : Home) → HomeHolds g h (part.cell u).home → names_frame h f ≡ true → (words : List ℕ) × ((part.cell u).home ≡ In words)
      by_home (H.Resident x page size) k e = (_, k)
      by_home H.Never k e = cc
      by_home H.Deleted k e = cc
      by_home (H.Stored p size) k e = cc

  page_stored : (u : SegId) (f : ℕ) → names_page (home_of (g (HomeOf u))) f ≡ true → (words : List ℕ) × ((part.cell u).stored ≡ Some words)
  page_stored u f = by_home (home_of (g (HomeOf u))) (holds.of_class.stored u)
    where
      by_home : (h : Home) → StoredHolds g h (part.cell u).stored → names_page h f ≡ true → (words : List ℕ) × ((part.cell u).stored ≡ Some words)
      by_home (H.Resident x (Some q) size) k e = (_, k)
      by_home (H.Resident x None size) k e = cc
      by_home (H.Stored p size) k e = (_, k)
      by_home H.Never k e = cc
      by_home H.Deleted k e = cc

  module _ (live : (u : SegId) (words : List ℕ) → (part.cell u).home ≡ In words → IsIdentity (classes s) u) where
    pub frame_owner : (u : SegId) (f : ℕ) → names_frame (home_of (g (HomeOf u))) f ≡ true → IsIdentity (classes s) u
    frame_owner u f h = let w = frame_live u f h in live u w.0 w.1

    pub frames-counted : frames_in_use s part ≡ total (λ f. one_if (not (g (FrameTenant f) == 0))) (below pool.frames)
    frames-counted = in-use (classes s) pool.frames (λ u f. names_frame (home_of (g (HomeOf u))) f) (λ u. is_in (part.cell u)) (λ f. g (FrameTenant f))
        frame-row frame_owner (λ u f. (holds.of_class.frames f).is u) (λ f. (holds.of_class.frames f).of_one)
        ∙ count-total (λ f. not (g (FrameTenant f) == 0)) (below pool.frames)

    pub frame-free : (f : ℕ) → f < pool.frames → g (FrameTenant f) ≡ 0 → nat_le pool.frames (frames_in_use s part) ≡ false
    frame-free f low e = free_false pool.frames (frames_in_use s part)
        (let t = total-less (λ f. not (g (FrameTenant f) == 0)) f 0 pool.frames (omega arith) (omega (arith, low)) (ap not (eq-eqb (g (FrameTenant f)) 0 e)) in omega (arith, t, frames-counted))
      where
        free_false : (n k : ℕ) → k < n → nat_le n k ≡ false
        free_false n k h = Rattle.std.proofs.lemmas.Bool.false_from_ne_true (nat_le n k) (λ t. (let l : n ≤ k = Rattle.std.proofs.lemmas.Bool.leb-true n k t in absurd (omega (arith, l, h))))

    pub frame-none : ((f : ℕ) → f < pool.frames → g (FrameTenant f) ≡ 0 → ⊥) → nat_le pool.frames (frames_in_use s part) ≡ true
    frame-none taken = le-leb pool.frames (frames_in_use s part)
        (let t = total-all (λ f. not (g (FrameTenant f) == 0)) 0 pool.frames (λ f x y. ap not (ne_eqb (g (FrameTenant f)) 0 (taken f (omega (arith, y))))) in omega (arith, t, frames-counted))

  module _ (kept : (u : SegId) (words : List ℕ) → (part.cell u).stored ≡ Some words → IsIdentity (classes s) u) where
    pub page_owner : (u : SegId) (f : ℕ) → names_page (home_of (g (HomeOf u))) f ≡ true → IsIdentity (classes s) u
    page_owner u f h = let w = page_stored u f h in kept u w.0 w.1

    pub pages-counted : pages_in_use s part ≡ total (λ f. one_if (not (g (PageTenant f) == 0))) (below pool.pages)
    pages-counted = in-use (classes s) pool.pages (λ u f. names_page (home_of (g (HomeOf u))) f) (λ u. is_some (part.cell u).stored) (λ f. g (PageTenant f))
        page-row page_owner (λ u f. (holds.of_class.pages f).is u) (λ f. (holds.of_class.pages f).of_one)
        ∙ count-total (λ f. not (g (PageTenant f) == 0)) (below pool.pages)

    pub page-free : (f : ℕ) → f < pool.pages → g (PageTenant f) ≡ 0 → nat_le pool.pages (pages_in_use s part) ≡ false
    page-free f low e = Rattle.std.proofs.lemmas.Bool.false_from_ne_true (nat_le pool.pages (pages_in_use s part)) (λ k.
        (let l : pool.pages ≤ pages_in_use s part = Rattle.std.proofs.lemmas.Bool.leb-true pool.pages (pages_in_use s part) k in
        let t = total-less (λ f. not (g (PageTenant f) == 0)) f 0 pool.pages (omega arith) (omega (arith, low)) (ap not (eq-eqb (g (PageTenant f)) 0 e)) in absurd (omega (arith, t, pages-counted, l))))

    pub page-none : ((f : ℕ) → f < pool.pages → g (PageTenant f) ≡ 0 → ⊥) → nat_le pool.pages (pages_in_use s part) ≡ true
    page-none taken = le-leb pool.pages (pages_in_use s part)
        (let t = total-all (λ f. not (g (PageTenant f) == 0)) 0 pool.pages (λ f x y. ap not (ne_eqb (g (PageTenant f)) 0 (taken f (omega (arith, y))))) in omega (arith, t, pages-counted))
