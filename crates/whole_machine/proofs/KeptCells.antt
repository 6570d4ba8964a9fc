-- What is kept beside a list of cells after a change.
use Rattle.std.proofs.lemmas.Grind.{common_steps}
use Rattle.std.proofs.Common.{ℕ, ◌≡◌, ◌<◌, ◌∙◌, Bool, true, false, List, [], ◌∷◌, ◌++◌, map, length, get_or, set, replicate, refl, sym, ap, subst, arith}
use Rattle.std.specs.Prelude.{if◌then◌else◌}
use Rattle.std.specs.List.{IsDistinct}
use Rattle.std.proofs.lemmas.List.{get_or_default, get_or-map, length-map}
use Rattle.std.proofs.lemmas.Map.Keys.{apart_from_distinct}
use Rattle.words_layout.specs.Segments.{same_seg, put_seg}
use Rattle.words_layout.specs.declared.segment.SegId.{SegId}
use Rattle.words_layout.proofs.Names.{same_seg-true, same_seg-refl}
use Rattle.class_model.specs.State.{Cell, blank_cell}
use Rattle.whole_machine.specs.Parts.{Listed, cell_key, is_cell, cell_in}
use Rattle.whole_machine.specs.Pools.{uses, uses_at, under, CountsUnder, ChangesAt, same_key, IsKept}
use Rattle.whole_machine.specs.declared.pools.Pooled.{Pooled}
use Rattle.whole_machine.specs.declared.pools.Pooled.TheVariants as P
use Rattle.whole_machine.specs.Shows.{ListsAt}
use Rattle.whole_machine.proofs.Changes.{cells_after, cell_keys, read_cell, pushed_cell}

flipped : (u v : SegId) → same_seg u v ≡ false → same_seg v u ≡ false
flipped u v e = by_test (same_seg v u) refl
  where
    by_test : (t : Bool) → same_seg v u ≡ t → t ≡ false
    by_test true h = let same : v ≡ u = same_seg-true v u h in let yes : same_seg u v ≡ true = subst (λ (z : SegId). same_seg u z ≡ true) (sym same) (same_seg-refl u) in cc
    by_test false h = refl

-- what is listed at a place is listed there first
pub listed_first : (cells : List Listed) (at : ℕ) (item read : Listed) → IsDistinct same_key (map cell_key cells) → item ≡ read → read ≡ get_or cells at read → at < length cells →
    ListsAt (is_cell item.seg) cells at
listed_first cells at item read apart i g lt = record {
  inside = lt;
  here = λ d. subst (λ (x : Listed). is_cell item.seg x ≡ true) (is d) (same_seg-refl item.seg);
  before = λ j d h. (let within : j < length cells = omega (arith, h, lt) in
      let long : at < length (map cell_key cells) = simp length-map lt in
      let raw = apart_from_distinct same_key (map cell_key cells) j at (0, 0) apart h long in
      let a : get_or (map cell_key cells) j (0, 0) ≡ cell_key (get_or cells j d) = get_or-map cell_key cells j d (0, 0) within in
      let b : get_or (map cell_key cells) at (0, 0) ≡ cell_key item = get_or-map cell_key cells at d (0, 0) lt ∙ ap cell_key (sym (is d)) in
      let other : same_seg (get_or cells j d).seg item.seg ≡ false =
      subst (λ (k : ℕ × ℕ). same_key (cell_key (get_or cells j d)) k ≡ false) b (subst (λ (k : ℕ × ℕ). same_key k (get_or (map cell_key cells) at (0, 0)) ≡ false) a raw) in
      flipped (get_or cells j d).seg item.seg other);
}
  where
    is : (d : Listed) → item ≡ get_or cells at d
    is d = i ∙ g ∙ get_or_default cells at read d lt

put_here : (f : SegId → Cell) (u : SegId) (c : Cell) → put_seg f u c u ≡ c
put_here f u c = rw (same_seg-refl u) refl

put_there : (f : SegId → Cell) (u v : SegId) (c : Cell) → same_seg v u ≡ false → put_seg f u c v ≡ f v
put_there f u v c e = rw e refl

-- numbers that say it of one test say it of another that passes alike
pub counts_alike : (p r : SegId → Bool) (numbers : List ℕ) → ((v : SegId) → r v ≡ p v) → CountsUnder p numbers → CountsUnder r numbers
counts_alike p r numbers e counts m lt =
    let same : r ≡ p = λ k v. (e v) k in counts m lt ∙ ap (λ (q : SegId → Bool). under q m) (sym same)

module _ (cells : List Listed) (keys : List (ℕ × ℕ)) (frames pages : List ℕ) (kept : IsKept cells keys frames pages) (at : ℕ) (item read : Listed) (c : Cell)
    (i : item ≡ read) (g : read ≡ get_or cells at read) (lt : at < length cells) where
  place : ListsAt (is_cell item.seg) cells at
  place = listed_first cells at item read (subst (λ (ks : List (ℕ × ℕ)). IsDistinct same_key ks) kept.keyed kept.apart) i g lt

  changed : cell_in (set cells at (record { seg = item.seg; cell = c })) ≡ put_seg (cell_in cells) item.seg c
  changed = cells_after cells cells refl at item read c (λ _. c) i g refl item.seg place

  used_before : (kind : Pooled) → uses kind item.cell ≡ uses_at kind cells item.seg
  used_before kind = ap (uses kind) (read_cell cells cells refl item.seg at item read i g place)

  used_after : (kind : Pooled) → uses kind c ≡ uses_at kind (set cells at (record { seg = item.seg; cell = c })) item.seg
  used_after kind = ap (uses kind) (sym (ap (λ (f : SegId → Cell). f item.seg) changed ∙ put_here (cell_in cells) item.seg c))

  others : (kind : Pooled) (v : SegId) → same_seg v item.seg ≡ false → uses_at kind (set cells at (record { seg = item.seg; cell = c })) v ≡ uses_at kind cells v
  others kind v e = ap (uses kind) (ap (λ (f : SegId → Cell). f v) changed ∙ put_there (cell_in cells) item.seg v c e)

  -- the test of uses changes at its identity alone
  pub uses_change : (kind : Pooled) (was now : Bool) → was ≡ uses kind item.cell → now ≡ uses kind c →
      ChangesAt (uses_at kind cells) (uses_at kind (set cells at (record { seg = item.seg; cell = c }))) item.seg was now
  uses_change kind was now a b = record { before = a ∙ used_before kind; after = b ∙ used_after kind; others = others kind }

  -- or nowhere
  pub uses_alike : (kind : Pooled) → uses kind c ≡ uses kind item.cell → (numbers : List ℕ) → CountsUnder (uses_at kind cells) numbers →
      CountsUnder (uses_at kind (set cells at (record { seg = item.seg; cell = c }))) numbers
  uses_alike kind e numbers = counts_alike (uses_at kind cells) (uses_at kind (set cells at (record { seg = item.seg; cell = c }))) numbers each
    where
      by_test : (v : SegId) (t : Bool) → same_seg v item.seg ≡ t → uses_at kind (set cells at (record { seg = item.seg; cell = c })) v ≡ uses_at kind cells v
      by_test v true h = subst (λ (z : SegId). uses_at kind (set cells at (record { seg = item.seg; cell = c })) z ≡ uses_at kind cells z) (sym (same_seg-true v item.seg h)) (sym (used_after kind) ∙ e ∙ used_before kind)
      by_test v false h = others kind v h

      each : (v : SegId) → uses_at kind (set cells at (record { seg = item.seg; cell = c })) v ≡ uses_at kind cells v
      each v = by_test v (same_seg v item.seg) refl

  -- with these numbers
  pub kept_with : (in_frames on_pages : List ℕ) → CountsUnder (uses_at P.Frame (set cells at (record { seg = item.seg; cell = c }))) in_frames →
      CountsUnder (uses_at P.Page (set cells at (record { seg = item.seg; cell = c }))) on_pages → IsKept (set cells at (record { seg = item.seg; cell = c })) keys in_frames on_pages
  kept_with in_frames on_pages a b = record { keyed = cell_keys keys cells at item read c kept.keyed i g; apart = kept.apart; frames = a; pages = b }

  -- where it uses what it used
  pub kept_alike : uses P.Frame c ≡ uses P.Frame item.cell → uses P.Page c ≡ uses P.Page item.cell → IsKept (set cells at (record { seg = item.seg; cell = c })) keys frames pages
  kept_alike a b = kept_with frames pages (uses_alike P.Frame a frames kept.frames) (uses_alike P.Page b pages kept.pages)

-- one more blank cell uses nothing
pub pushed_counts : (kind : Pooled) (cells : List Listed) (u : SegId) (numbers : List ℕ) → CountsUnder (uses_at kind cells) numbers →
    CountsUnder (uses_at kind (cells ++ record { seg = u; cell = blank_cell } ∷ [])) numbers
pushed_counts kind cells u numbers = counts_alike (uses_at kind cells) (uses_at kind (cells ++ record { seg = u; cell = blank_cell } ∷ [])) numbers (λ v. ap (uses kind) (pushed_cell cells u v))

abbrev pub zeros : List ℕ
zeros = replicate 16 0

zero_of : (k : ℕ) (m : ℕ) → m < k → get_or {A = ℕ} (replicate k 0) m 0 ≡ 0
zero_of k m lt = grind (arith, common_steps, lt)

zero_at : (m : ℕ) → m < 16 → get_or zeros m 0 ≡ 0
zero_at m lt = zero_of 16 m lt

-- nothing is listed, and nothing is used
pub no_uses : (kind : Pooled) → CountsUnder (uses_at kind []) zeros
unfolding under
no_uses P.Frame m lt = zero_at m lt
no_uses P.Page m lt = zero_at m lt

pub kept_empty : (cells : List Listed) (keys : List (ℕ × ℕ)) → cells ≡ [] → keys ≡ [] → IsDistinct same_key keys → IsKept cells keys zeros zeros
kept_empty cells keys c k apart = record {
  keyed = k ∙ ap (λ (xs : List Listed). map cell_key xs) (sym c);
  apart = apart;
  frames = subst (λ (xs : List Listed). CountsUnder (uses_at P.Frame xs) zeros) (sym c) (no_uses P.Frame);
  pages = subst (λ (xs : List Listed). CountsUnder (uses_at P.Page xs) zeros) (sym c) (no_uses P.Page);
}

-- likewise after a push that may have failed
pub counts_after : (kind : Pooled) (ok : Bool) (old new : List Listed) (u : SegId) (blank : Cell) (numbers : List ℕ) → blank ≡ blank_cell →
    new ≡ (if ok then old ++ record { seg = u; cell = blank } ∷ [] else old) → CountsUnder (uses_at kind old) numbers → CountsUnder (uses_at kind new) numbers
counts_after kind true old new u blank numbers b e counts =
    let is : new ≡ old ++ record { seg = u; cell = blank_cell } ∷ [] = e ∙ ap (λ (x : Cell). old ++ record { seg = u; cell = x } ∷ []) b in
    subst (λ (xs : List Listed). CountsUnder (uses_at kind xs) numbers) (sym is) (pushed_counts kind old u numbers counts)
counts_after kind false old new u blank numbers b e counts = subst (λ (xs : List Listed). CountsUnder (uses_at kind xs) numbers) (sym e) counts
