-- What numbers of cells in use come to after a change of one cell.
use mir.Val.{bool_byte}
use Rattle.std.proofs.Common.{ℕ, zero, suc, ◌≡◌, ◌≢◌, ◌+◌, ◌-◌, ◌<◌, ◌≤◌, get_or, set, ◌∙◌, Bool, true, false, List, [], ◌∷◌, map, length, refl, sym, ap, subst, arith, cond}
use Rattle.std.specs.Prelude.{count_by, ◌==◌, ◌&&◌}
use Rattle.std.proofs.lemmas.Bool.{eqb-true, eqb-false}
use Rattle.std.proofs.lemmas.List.Sums.{count_by-le-length}
use Rattle.std.proofs.lemmas.List.{get_or-set_same, get_or-set_other}
use Rattle.lists.specs.Lists.{below}
use Rattle.words_layout.specs.Segments.{seg, same_seg}
use Rattle.words_layout.specs.declared.segment.SegId.{SegId}
use Rattle.whole_machine.specs.Pools.{under, ChangesAt, CountsUnder}
use Rattle.whole_machine.proofs.Counting.{serials_counted}

-- how many of the serials below n
pub serials : (SegId → Bool) → ℕ → ℕ → ℕ
serials p m n = count_by p (map (λ s. seg m s) (below n))

-- 1 where it passes, else 0
pub one : (SegId → Bool) → SegId → ℕ
one p v = count_by p (v ∷ [])

one_more : (p : SegId → Bool) (m n : ℕ) → serials p m (suc n) ≡ serials p m n + one p (seg m n)
unfolding serials one
one_more p m n = let e : n + 1 ≡ suc n = omega arith in subst (λ (k : ℕ). serials p m k ≡ serials p m n + one p (seg m n)) e (serials_counted p m n)

one_like : (p r : SegId → Bool) (v : SegId) → r v ≡ p v → one r v ≡ one p v
unfolding one
one_like p r v e = rw e refl

other_one : (u : SegId) (m n : ℕ) → (m ≡ u.mentor → n ≢ u.serial) → same_seg (seg m n) u ≡ false
other_one u m n h = by_class (m == u.mentor) refl
  where
    by_serial : n ≢ u.serial → (t : Bool) → (n == u.serial) ≡ t → t ≡ false
    by_serial other true e = absurd (other (eqb-true n u.serial e))
    by_serial other false e = refl

    by_class : (t : Bool) → (m == u.mentor) ≡ t → (t && n == u.serial) ≡ false
    by_class true e = by_serial (h (eqb-true m u.mentor e)) (n == u.serial) refl
    by_class false e = refl

less_other : (a b : ℕ) → a < b → a ≢ b
less_other a b lt e = omega (arith, lt, e)

module _ (p r : SegId → Bool) (u : SegId) (others : (v : SegId) → same_seg v u ≡ false → r v ≡ p v) where
  -- the identities apart from the one that changed
  pub apart_below : (m n : ℕ) → (m ≡ u.mentor → n ≤ u.serial) → serials r m n ≡ serials p m n
  unfolding serials
  apart_below m zero h = refl
  apart_below m (suc n) h =
      let before : serials r m n ≡ serials p m n = apart_below m n (λ e. (let le : suc n ≤ u.serial = h e in omega (arith, le))) in
      let last : one r (seg m n) ≡ one p (seg m n) = one_like p r (seg m n) (others (seg m n) (other_one u m n (λ e. (let le : suc n ≤ u.serial = h e in less_other n u.serial le)))) in
      one_more r m n ∙ ap (λ k. k + one r (seg m n)) before ∙ ap (λ k. serials p m n + k) last ∙ sym (one_more p m n)

  last_one : (n : ℕ) → (u.serial < n → serials r u.mentor n + one p u ≡ serials p u.mentor n + one r u) → u.serial < suc n → (t : Bool) → (n == u.serial) ≡ t →
      serials r u.mentor (suc n) + one p u ≡ serials p u.mentor (suc n) + one r u
  last_one n rest lt true e =
      let m : ℕ = u.mentor in
      let same : n ≡ u.serial = eqb-true n u.serial e in
      let here : (q : SegId → Bool) → one q (seg m n) ≡ one q u = λ q. ap (λ (k : ℕ). one q (seg m k)) same in
      let before : serials r m n ≡ serials p m n = apart_below m n (λ _. (omega (arith, same))) in
      let a : serials r m (suc n) ≡ serials p m n + one r u = one_more r m n ∙ ap (λ k. k + one r (seg m n)) before ∙ ap (λ k. serials p m n + k) (here r) in
      let b : serials p m (suc n) ≡ serials p m n + one p u = one_more p m n ∙ ap (λ k. serials p m n + k) (here p) in
      omega (arith, a, b)
  last_one n rest lt false e =
      let m : ℕ = u.mentor in
      let other : n ≢ u.serial = eqb-false n u.serial e in
      let before : serials r m n + one p u ≡ serials p m n + one r u = rest (omega (arith, lt, other)) in
      let last : one r (seg m n) ≡ one p (seg m n) = one_like p r (seg m n) (others (seg m n) (other_one u m n (λ _. other))) in
      let a : serials r m (suc n) ≡ serials r m n + one r (seg m n) = one_more r m n in
      let b : serials p m (suc n) ≡ serials p m n + one p (seg m n) = one_more p m n in
      omega (arith, a, b, before, last)

  -- and with it
  pub with_it : (n : ℕ) → u.serial < n → serials r u.mentor n + one p u ≡ serials p u.mentor n + one r u
  with_it zero lt = absurd (omega (arith, lt))
  with_it (suc n) lt = last_one n (λ less. with_it n less) lt (n == u.serial) refl

-- ---- the numbers under each class

pub few : (p : SegId → Bool) (m : ℕ) → under p m ≤ 64
unfolding under
few p m = count_by-le-length p (map (λ s. seg m s) (below 64))

-- 1 where it holds, else 0
abbrev pub bit : Bool → ℕ
bit b = cond b 1 0

pub small : (b : Bool) → bit b ≤ 1
small true = omega arith
small false = omega arith

pub byte_bit : (b : Bool) → bool_byte b ≡ bit b
byte_bit true = refl
byte_bit false = refl

one_bit : (p : SegId → Bool) (v : SegId) → one p v ≡ bit (p v)
unfolding one
one_bit p v = omega arith

module _ (p r : SegId → Bool) (u : SegId) (was now : Bool) (change : ChangesAt p r u was now) where
  pub elsewhere : (m : ℕ) → (m ≡ u.mentor → 64 ≤ u.serial) → under r m ≡ under p m
  unfolding under serials
  elsewhere m h = apart_below p r u change.others m 64 h

  pub there : u.serial < 64 → under r u.mentor + bit was ≡ under p u.mentor + bit now
  unfolding under serials
  there lt =
      let counts : serials r u.mentor 64 + one p u ≡ serials p u.mentor 64 + one r u = with_it p r u change.others 64 lt in
      let old : one p u ≡ bit was = one_bit p u ∙ ap bit (sym change.before) in
      let new : one r u ≡ bit now = one_bit r u ∙ ap bit (sym change.after) in
      ap (λ k. serials r u.mentor 64 + k) (sym old) ∙ counts ∙ ap (λ k. serials p u.mentor 64 + k) new

-- the number at a place after the change
pub in_place : (numbers : List ℕ) (p r : SegId → Bool) (u : SegId) (was now : Bool) (m n : ℕ) → ChangesAt p r u was now → CountsUnder p numbers → length numbers ≡ 16 → u.mentor < 16 → u.serial < 64 →
    n ≡ get_or numbers u.mentor 0 + bit now - bit was → m < 16 → get_or (set numbers u.mentor n) m 0 ≡ under r m
in_place numbers p r u was now m n change counts long class serial e lt = by_class (m == u.mentor) refl
  where
    by_class : (t : Bool) → (m == u.mentor) ≡ t → get_or (set numbers u.mentor n) m 0 ≡ under r m
    by_class true h =
        let same : m ≡ u.mentor = eqb-true m u.mentor h in
        let inside : u.mentor < length numbers = omega (arith, long, class) in
        let old : get_or numbers u.mentor 0 ≡ under p u.mentor = counts u.mentor class in
        let sums : under r u.mentor + bit was ≡ under p u.mentor + bit now = there p r u was now change serial in
        let new : n ≡ under r u.mentor = omega (arith, e, old, sums) in
        ap (λ (k : ℕ). get_or (set numbers u.mentor n) k 0) same ∙ get_or-set_same numbers u.mentor n 0 inside ∙ new ∙ ap (λ (k : ℕ). under r k) (sym same)
    by_class false h =
        let other : m ≢ u.mentor = eqb-false m u.mentor h in
        get_or-set_other numbers u.mentor m n 0 other ∙ counts m lt ∙ sym (elsewhere p r u was now change m (λ same. absurd (other same)))

-- the number of one class among all
pub under_is : (p : SegId → Bool) (m : ℕ) → under p m ≡ count_by p (map (λ s. seg m s) (below 64))
unfolding under
under_is p m = refl
