-- How a run of a disk's calls goes on.
use Rattle.std.proofs.Common.{◌≡◌, ◌≤◌, inl, inr, ⊎_elim, ℕ, List, sym, ◌∙◌, subst, arith}
use Rattle.std.specs.Prelude.{OnOk, OnErr, Result, Ok, Err}
use Rattle.safe_save.specs.Disk.{Elapses, LeavesOnly, Only, SameImages}

module _ {D : Type 0} (moment : D → ℕ) (left_since : D → ℕ → List ℕ → Type 0) where
  -- before the first call
  pub started : (old : D) (P : List ℕ → Type 0) → ((c : List ℕ) → left_since old (moment old) c → P c) → LeavesOnly moment left_since old old P
  started old P here = record { later = omega arith; each = here; before = λ t c le left. inl left }

  -- one call more, after which a crash leaves what has P
  pub goes_on : (old mid new : D) (P images : List ℕ → Type 0) → LeavesOnly moment left_since old mid P → Elapses (moment mid) (moment new) (left_since mid) (left_since new) images
      → ((c : List ℕ) → images c → P c) → LeavesOnly moment left_since old new P
  goes_on old mid new P images so_far time here = record {
    later = omega (arith, so_far.later, time.later);
    each = λ c left. ⊎_elim (so_far.each c) (here c) (time.nothing_else (moment old) c so_far.later left);
    before = λ t c le left. ⊎_elim (so_far.before t c le) (λ now. inr (here c now)) (time.nothing_else t c (omega (arith, le, so_far.later)) left);
  }

  -- one run after another
  pub joined : (old mid new : D) (P Q : List ℕ → Type 0) → LeavesOnly moment left_since old mid P → LeavesOnly moment left_since mid new Q → ((c : List ℕ) → Q c → P c) → LeavesOnly moment left_since old new P
  joined old mid new P Q first second from = record {
    later = omega (arith, first.later, second.later);
    each = λ c left. ⊎_elim (first.each c) (from c) (second.before (moment old) c first.later left);
    before = λ t c le left. ⊎_elim (first.before t c le) (λ now. inr (from c now)) (second.before t c (omega (arith, le, first.later)) left);
  }

  -- what is left has less
  pub weaker : (old new : D) (P Q : List ℕ → Type 0) → LeavesOnly moment left_since old new P → ((c : List ℕ) → P c → Q c) → LeavesOnly moment left_since old new Q
  weaker old new P Q so_far from = record {
    later = so_far.later;
    each = λ c left. from c (so_far.each c left);
    before = λ t c le left. ⊎_elim (λ past. inl past) (λ now. inr (from c now)) (so_far.before t c le left);
  }

-- after a sync, failed or not, a crash leaves what it might have left before
pub sync_keeps : {T E : Type 0} (r : Result T E) (seen after : List ℕ) (old new : List ℕ → Type 0) → OnOk r (Only after new) → OnErr r (SameImages old new) → after ≡ seen → old seen → (c : List ℕ) → new c → old c
sync_keeps (Ok x) seen after old new only same is shown c left = subst old (sym ((only c).0 left ∙ is)) shown
sync_keeps (Err e) seen after old new only same is shown c left = (same c).0 left

-- what a read gives is one of the images that a crash leaves
pub seen_has : {D : Type 0} (moment : D → ℕ) (left_since : D → ℕ → List ℕ → Type 0) (old new : D) (P images : List ℕ → Type 0) (seen : List ℕ) → LeavesOnly moment left_since old new P
    → ((t : ℕ) (c : List ℕ) → t ≤ moment new → images c → left_since new t c) → images seen → P seen
seen_has moment left_since old new P images seen so_far counts shown = so_far.each seen (counts (moment old) seen so_far.later shown)
