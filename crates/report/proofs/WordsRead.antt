-- Words within the layout, and the sum of the components.
use Rattle.std.proofs.Common.{◌≡◌, ℕ, ◌+◌, ◌%◌, ◌^◌, ◌<◌, Bool, true, false, List, [], ◌∷◌, ◌++◌, map, refl, sym, ap, ◌∙◌}
use Rattle.std.proofs.lemmas.Bool.{and_from, lt-ltb}
use Rattle.std.proofs.lemmas.List.{append-nil, map_push}
use Rattle.std.proofs.lemmas.List.Elements.{filter-append}
use Rattle.std.proofs.lemmas.List.Sums.{sum_by_push}
use Rattle.std.proofs.Math.Nat.{mod-add-mod}
use Rattle.std.specs.Prelude.{nat_lt, sum, slice_index, if◌then◌else◌}
use Rattle.std.specs.List.{filter}
use Rattle.lists.specs.Lists.{below}
use Rattle.words_layout.specs.Words.{Word, address, Guarded, EntryOf, FrameWord, PageWord, ComponentOf}
use Rattle.words_layout.specs.Limits.{IsIdentity, identity_in_limits, word_in_limits}
use Rattle.words_layout.specs.Named.{word_in}
use Rattle.words_layout.specs.declared.segment.SegId.{SegId}
use Rattle.report.proofs.Numbers.{below_more}

pub identity_ok : (u : SegId) → IsIdentity u → identity_in_limits u ≡ true
identity_ok u h = and_from (nat_lt u.mentor 16) (nat_lt u.serial 64) (lt-ltb u.mentor 16 h.0) (lt-ltb u.serial 64 h.1)

pub entry_ok : (u : SegId) (e : ℕ) → IsIdentity u → e < 8 → word_in_limits (Guarded (EntryOf u e)) ≡ true
entry_ok u e h k = and_from (identity_in_limits u) (nat_lt e 8) (identity_ok u h) (lt-ltb e 8 k)

pub component_ok : (x : ℕ) (u : SegId) → x < 16 → IsIdentity u → word_in_limits (ComponentOf x u) ≡ true
component_ok x u k h = and_from (nat_lt x 16) (identity_in_limits u) (lt-ltb x 16 k) (identity_ok u h)

pub frame_ok : (f i : ℕ) → f < 16 → i < 64 → word_in_limits (Guarded (FrameWord f i)) ≡ true
frame_ok f i h k = and_from (nat_lt f 16) (nat_lt i 64) (lt-ltb f 16 h) (lt-ltb i 64 k)

pub page_ok : (g i : ℕ) → g < 32 → i < 64 → word_in_limits (Guarded (PageWord g i)) ≡ true
page_ok g i h k = and_from (nat_lt g 32) (nat_lt i 64) (lt-ltb g 32 h) (lt-ltb i 64 k)

-- the word at an address, by name
pub read_named : (words : List ℕ) (class addr value : ℕ) → value ≡ slice_index words addr → (word : Word) → word_in_limits word ≡ true → addr ≡ address class word → value ≡ word_in words class word
read_named words class addr value e word limits at = e ∙ (ap (slice_index words) at ∙ sym (there (word_in_limits word) limits))
  where
    there : (b : Bool) → b ≡ true → (if b then slice_index words (address class word) else 0) ≡ slice_index words (address class word)
    there true h = refl
    there false h = cc

module _ (test : ℕ → Bool) (at : ℕ → ℕ) where
  -- the sum with one number more that passes
  pub sum_more : (n total value : ℕ) → test n ≡ true → total ≡ sum (map at (filter test (below n))) % 2 ^ 64 → value ≡ at n → (total + value) % 2 ^ 64 ≡ sum (map at (filter test (below (n + 1)))) % 2 ^ 64
  sum_more n total value holds e v =
      let kept : filter test (below (n + 1)) ≡ filter test (below n) ++ n ∷ [] = ap (filter test) (below_more n) ∙ (filter-append test (below n) (n ∷ []) ∙ rw holds refl) in
      let added : sum (map at (filter test (below (n + 1)))) ≡ sum (map at (filter test (below n))) + at n = ap (λ (xs : List ℕ). sum (map at xs)) kept ∙ (ap sum (map_push at (filter test (below n)) n) ∙ sum_by_push (λ x. x) (map at (filter test (below n))) (at n)) in
      ap (λ (x : ℕ). (x + value) % 2 ^ 64) e ∙ (mod-add-mod (sum (map at (filter test (below n)))) (2 ^ 64) value ∙ ap (λ (x : ℕ). x % 2 ^ 64) (ap (λ (x : ℕ). sum (map at (filter test (below n))) + x) v ∙ sym added))

  -- the sum with one that doesn't
  pub sum_same : (n total : ℕ) → test n ≡ false → total ≡ sum (map at (filter test (below n))) % 2 ^ 64 → total ≡ sum (map at (filter test (below (n + 1)))) % 2 ^ 64
  sum_same n total fails e =
      let left : filter test (below (n + 1)) ≡ filter test (below n) = ap (filter test) (below_more n) ∙ (filter-append test (below n) (n ∷ []) ∙ rw fails (append-nil (filter test (below n)))) in
      e ∙ ap (λ (xs : List ℕ). sum (map at xs) % 2 ^ 64) (sym left)
