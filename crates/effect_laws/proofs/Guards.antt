-- Sets of guards, the words that they guard, and words that the holders of some guards have changed.
use Rattle.std.proofs.Common.{ℕ, ◌-◌, Bool, true, false, ◌&&◌, ◌||◌, ◌≡◌, refl, sym, ap, ◌∙◌, Option, Some, None, ◌⊎◌, inl, inr}
use Rattle.std.specs.Prelude.{◌==◌, if◌then◌else◌}
use Rattle.std.proofs.lemmas.Bool.{and_parts, and_from, both_ways}
use Rattle.words_layout.specs.Segments.{same_seg, numbered}
use Rattle.words_layout.specs.Words.{Guard, OfClass, OfSegment, GuardedWord, GuardedWords, NextSerial, HomeOf, WritesOf, EntryOf, FrameTenant, FrameWord, PageTenant, PageWord, same_guard, same_word, set_guarded}
use Rattle.words_layout.specs.declared.segment.SegId.{SegId}
use Rattle.words_layout.proofs.Names.{same_guard-true, same_word-true}

-- a set of guards of one class
abbrev pub Hold : Type 0
Hold = Guard → Bool

abbrev pub just : Guard → Hold
just g h = same_guard h g

-- the class, and one of its segments
abbrev pub both : SegId → Hold
both u OfClass = true
both u (OfSegment v) = same_seg v u

-- the guards of a segment's turn, alone or within its class's turn
abbrev pub inner_hold : Option ℕ → SegId → Hold
inner_hold None u = just (OfSegment u)
inner_hold (Some t) u = both u

-- the words of a frame are guarded by its tenant, and by the class where it has none
abbrev pub frame_guard : ℕ → Guard
frame_guard n = if n == 0 then OfClass else OfSegment (numbered (n - 1))

-- one of the guards covers the word, where c says who the tenants are: a home is covered by its segment and by the class
abbrev pub covers : GuardedWords → Hold → GuardedWord → Bool
covers c h (HomeOf u) = h OfClass || h (OfSegment u)
covers c h (WritesOf u) = h (OfSegment u)
covers c h (FrameWord f i) = h (frame_guard (c (FrameTenant f)))
covers c h _ = h OfClass

-- each guard that covers the word is among them, and a tenant that is stored is too: so the holder may store it
abbrev pub may_store : GuardedWords → Hold → GuardedWord → ℕ → Bool
may_store c h (HomeOf u) x = h OfClass && h (OfSegment u)
may_store c h (FrameTenant f) x = h OfClass && (h (frame_guard (c (FrameTenant f))) && h (frame_guard x))
may_store c h w x = covers c h w

or-left : (a b : Bool) → a ≡ true → (a || b) ≡ true
or-left true b h = refl
or-left false b h = cc

or-right : (a b : Bool) → b ≡ true → (a || b) ≡ true
or-right true b h = refl
or-right false b h = h

pub store_covers : (c : GuardedWords) (h : Hold) (w : GuardedWord) (x : ℕ) → may_store c h w x ≡ true → covers c h w ≡ true
store_covers c h (HomeOf u) x k = or-left (h OfClass) (h (OfSegment u)) (and_parts (h OfClass) (h (OfSegment u)) k).0
store_covers c h (FrameTenant f) x k = (and_parts (h OfClass) (h (frame_guard (c (FrameTenant f))) && h (frame_guard x)) k).0
store_covers c h (WritesOf u) x k = k
store_covers c h (FrameWord f i) x k = k
store_covers c h NextSerial x k = k
store_covers c h (EntryOf u e) x k = k
store_covers c h (PageTenant g) x k = k
store_covers c h (PageWord g i) x k = k

-- the sets have no guard in common
abbrev pub Apart : Hold → Hold → Type 0
Apart h h' = (g : Guard) → h g ≡ true → h' g ≡ false

-- what the holder of some guards may store, others don't cover
pub store_apart : (c : GuardedWords) (h h' : Hold) → Apart h h' → (w : GuardedWord) (x : ℕ) → may_store c h w x ≡ true → covers c h' w ≡ false
store_apart c h h' apart (HomeOf u) x k =
    let parts = and_parts (h OfClass) (h (OfSegment u)) k in rw (apart OfClass parts.0, apart (OfSegment u) parts.1) refl
store_apart c h h' apart (FrameTenant f) x k = apart OfClass (and_parts (h OfClass) (h (frame_guard (c (FrameTenant f))) && h (frame_guard x)) k).0
store_apart c h h' apart (WritesOf u) x k = apart (OfSegment u) k
store_apart c h h' apart (FrameWord f i) x k = apart (frame_guard (c (FrameTenant f))) k
store_apart c h h' apart NextSerial x k = apart OfClass k
store_apart c h h' apart (EntryOf u e) x k = apart OfClass k
store_apart c h h' apart (PageTenant g) x k = apart OfClass k
store_apart c h h' apart (PageWord g i) x k = apart OfClass k

-- each word is as it was, or its holder may have stored it
abbrev pub Changed : GuardedWords → Hold → GuardedWords → GuardedWords → Type 0
Changed c h g v = (w : GuardedWord) → (v w ≡ g w) ⊎ (may_store c h w (v w) ≡ true)

-- what others cover stays the same, and stays covered
module _ (c c' : GuardedWords) (h h' : Hold) (apart : Apart h h') (changed : Changed c h c c') where
  frame_same : (f : ℕ) → h' (frame_guard (c' (FrameTenant f))) ≡ h' (frame_guard (c (FrameTenant f)))
  frame_same f = by_change (changed (FrameTenant f))
    where
      by_change : (c' (FrameTenant f) ≡ c (FrameTenant f)) ⊎ (may_store c h (FrameTenant f) (c' (FrameTenant f)) ≡ true) →
          h' (frame_guard (c' (FrameTenant f))) ≡ h' (frame_guard (c (FrameTenant f)))
      by_change (inl e) = ap (λ t. h' (frame_guard t)) e
      by_change (inr k) =
          let parts = and_parts (h OfClass) (h (frame_guard (c (FrameTenant f))) && h (frame_guard (c' (FrameTenant f)))) k in
          let two = and_parts (h (frame_guard (c (FrameTenant f)))) (h (frame_guard (c' (FrameTenant f)))) parts.1 in
          apart (frame_guard (c' (FrameTenant f))) two.1 ∙ sym (apart (frame_guard (c (FrameTenant f))) two.0)

  pub covers_same : (w : GuardedWord) → covers c' h' w ≡ covers c h' w
  covers_same (FrameWord f i) = frame_same f
  covers_same (HomeOf u) = refl
  covers_same (WritesOf u) = refl
  covers_same NextSerial = refl
  covers_same (EntryOf u e) = refl
  covers_same (FrameTenant f) = refl
  covers_same (PageTenant g) = refl
  covers_same (PageWord g i) = refl

  pub store_same : (w : GuardedWord) (x : ℕ) → may_store c' h' w x ≡ may_store c h' w x
  store_same (FrameWord f i) x = frame_same f
  store_same (FrameTenant f) x = ap (λ b. h' OfClass && (b && h' (frame_guard x))) (frame_same f)
  store_same (HomeOf u) x = refl
  store_same (WritesOf u) x = refl
  store_same NextSerial x = refl
  store_same (EntryOf u e) x = refl
  store_same (PageTenant g) x = refl
  store_same (PageWord g i) x = refl

  pub covered_same : (w : GuardedWord) → covers c h' w ≡ true → c' w ≡ c w
  covered_same w k = by_change (changed w)
    where
      by_change : (c' w ≡ c w) ⊎ (may_store c h w (c' w) ≡ true) → c' w ≡ c w
      by_change (inl e) = e
      by_change (inr s) = absurd (both_ways (covers c h' w) (store_apart c h h' apart w (c' w) s) k)

-- where the words are v for what the guards cover, and g elsewhere
abbrev pub over : GuardedWords → Hold → GuardedWords → GuardedWords → GuardedWords
over c h v g w = if covers c h w then v w else g w

-- the words c with what the guards cover as it is now
abbrev pub mix : GuardedWords → Hold → GuardedWords → GuardedWords
mix c h now = over c h now c

pub ext : (f g : GuardedWords) → ((w : GuardedWord) → f w ≡ g w) → f ≡ g
ext f g each = λ k w. (each w) k

module _ (c : GuardedWords) (h : Hold) (v g : GuardedWords) (w : GuardedWord) (x : ℕ) where
  -- a word that is covered, stored before or after
  pub set_over : covers c h w ≡ true → set_guarded (over c h v g) w x ≡ over c h (set_guarded v w x) g
  set_over k = ext _ _ each
    where
      each : (q : GuardedWord) → set_guarded (over c h v g) w x q ≡ over c h (set_guarded v w x) g q
      each q = elim (same_word q w) as (λ b. same_word q w ≡ b → (if b then x else over c h v g q) ≡ (if covers c h q then (if b then x else v q) else g q)) [
        | true ↦ λ e. rw (ap (covers c h) (same_word-true q w e) ∙ k) refl
        | false ↦ λ e. refl
      ] refl

  -- a word that isn't covered makes no difference
  pub over_set : covers c h w ≡ false → over c h (set_guarded v w x) g ≡ over c h v g
  over_set k = ext _ _ each
    where
      each : (q : GuardedWord) → over c h (set_guarded v w x) g q ≡ over c h v g q
      each q = elim (same_word q w) as (λ b. same_word q w ≡ b → (if covers c h q then (if b then x else v q) else g q) ≡ over c h v g q) [
        | true ↦ λ e. rw (ap (covers c h) (same_word-true q w e) ∙ k) refl
        | false ↦ λ e. refl
      ] refl

pub over-covered : (c : GuardedWords) (h : Hold) (v g : GuardedWords) (w : GuardedWord) → covers c h w ≡ true → over c h v g w ≡ v w
over-covered c h v g w k = rw k refl

-- more guards cover more, and may store more
module _ (c : GuardedWords) (h h' : Hold) (more : (g : Guard) → h g ≡ true → h' g ≡ true) where
  or-more : (a b a' b' : Bool) → (a ≡ true → a' ≡ true) → (b ≡ true → b' ≡ true) → (a || b) ≡ true → (a' || b') ≡ true
  or-more true b a' b' f g k = rw (f refl) refl
  or-more false true a' b' f g k = or-right a' b' (g refl)
  or-more false false a' b' f g k = cc

  pub cover_more : (w : GuardedWord) → covers c h w ≡ true → covers c h' w ≡ true
  cover_more (HomeOf u) k = or-more (h OfClass) (h (OfSegment u)) (h' OfClass) (h' (OfSegment u)) (more OfClass) (more (OfSegment u)) k
  cover_more (WritesOf u) k = more (OfSegment u) k
  cover_more (FrameWord f i) k = more (frame_guard (c (FrameTenant f))) k
  cover_more NextSerial k = more OfClass k
  cover_more (EntryOf u e) k = more OfClass k
  cover_more (FrameTenant f) k = more OfClass k
  cover_more (PageTenant g) k = more OfClass k
  cover_more (PageWord g i) k = more OfClass k

  pub store_more : (w : GuardedWord) (x : ℕ) → may_store c h w x ≡ true → may_store c h' w x ≡ true
  store_more (HomeOf u) x k =
      let parts = and_parts (h OfClass) (h (OfSegment u)) k in and_from (h' OfClass) (h' (OfSegment u)) (more OfClass parts.0) (more (OfSegment u) parts.1)
  store_more (FrameTenant f) x k =
      let parts = and_parts (h OfClass) (h (frame_guard (c (FrameTenant f))) && h (frame_guard x)) k in
      let two = and_parts (h (frame_guard (c (FrameTenant f)))) (h (frame_guard x)) parts.1 in
      and_from (h' OfClass) (h' (frame_guard (c (FrameTenant f))) && h' (frame_guard x)) (more OfClass parts.0)
      (and_from (h' (frame_guard (c (FrameTenant f)))) (h' (frame_guard x)) (more (frame_guard (c (FrameTenant f))) two.0) (more (frame_guard x) two.1))
  store_more (WritesOf u) x k = more (OfSegment u) k
  store_more (FrameWord f i) x k = more (frame_guard (c (FrameTenant f))) k
  store_more NextSerial x k = more OfClass k
  store_more (EntryOf u e) x k = more OfClass k
  store_more (PageTenant g) x k = more OfClass k
  store_more (PageWord g i) x k = more OfClass k

-- what the guards cover after their holder's changes they covered before
pub cover_back : (c c' : GuardedWords) (h : Hold) → Changed c h c c' → (w : GuardedWord) → covers c' h w ≡ true → covers c h w ≡ true
cover_back c c' h changed (FrameWord f i) k = by_change (changed (FrameTenant f))
  where
    by_change : (c' (FrameTenant f) ≡ c (FrameTenant f)) ⊎ (may_store c h (FrameTenant f) (c' (FrameTenant f)) ≡ true) → h (frame_guard (c (FrameTenant f))) ≡ true
    by_change (inl e) = ap (λ t. h (frame_guard t)) (sym e) ∙ k
    by_change (inr s) =
        let parts = and_parts (h OfClass) (h (frame_guard (c (FrameTenant f))) && h (frame_guard (c' (FrameTenant f)))) s in
        (and_parts (h (frame_guard (c (FrameTenant f)))) (h (frame_guard (c' (FrameTenant f)))) parts.1).0
cover_back c c' h changed (HomeOf u) k = k
cover_back c c' h changed (WritesOf u) k = k
cover_back c c' h changed NextSerial k = k
cover_back c c' h changed (EntryOf u e) k = k
cover_back c c' h changed (FrameTenant f) k = k
cover_back c c' h changed (PageTenant g) k = k
cover_back c c' h changed (PageWord g i) k = k

-- a guard that isn't in a set is apart from it
pub apart_just : (h : Hold) (g : Guard) → h g ≡ false → Apart h (just g)
apart_just h g k q e = Rattle.std.proofs.lemmas.Bool.false_from_ne_true (same_guard q g) (λ s. both_ways (h g) k (ap h (sym (same_guard-true q g s)) ∙ e))

-- a guard of a set is in it
pub just_in : (h : Hold) (g : Guard) → h g ≡ true → (q : Guard) → just g q ≡ true → h q ≡ true
just_in h g k q e = ap h (same_guard-true q g e) ∙ k

pub class_in_both : (u : SegId) (g : Guard) → just OfClass g ≡ true → both u g ≡ true
class_in_both u OfClass k = refl
class_in_both u (OfSegment v) k = cc

-- what isn't covered wasn't changed
pub uncovered_same : (c : GuardedWords) (h : Hold) (g v : GuardedWords) → Changed c h g v → (w : GuardedWord) → covers c h w ≡ false → v w ≡ g w
uncovered_same c h g v changed w k = by_change (changed w)
  where
    by_change : (v w ≡ g w) ⊎ (may_store c h w (v w) ≡ true) → v w ≡ g w
    by_change (inl e) = e
    by_change (inr s) = absurd (both_ways (covers c h w) k (store_covers c h w (v w) s))

both_guard : (u : SegId) (g : Guard) → both u g ≡ true → just OfClass g ≡ false → just (OfSegment u) g ≡ true
both_guard u OfClass k e = cc
both_guard u (OfSegment v) k e = k

-- what both cover and the class doesn't, the segment does
pub both_split : (c : GuardedWords) (u : SegId) (w : GuardedWord) → covers c (both u) w ≡ true → covers c (just OfClass) w ≡ false → covers c (just (OfSegment u)) w ≡ true
both_split c u (HomeOf v) k e = cc
both_split c u (WritesOf v) k e = k
both_split c u (FrameWord f i) k e = both_guard u (frame_guard (c (FrameTenant f))) k e
both_split c u NextSerial k e = cc
both_split c u (EntryOf v x) k e = cc
both_split c u (FrameTenant f) k e = cc
both_split c u (PageTenant f) k e = cc
both_split c u (PageWord f i) k e = cc
