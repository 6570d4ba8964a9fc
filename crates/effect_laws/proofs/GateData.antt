-- Fetch and update at one go, on words that hold the part of their class.
use Rattle.std.proofs.Common.{ℕ, zero, suc, ◌+◌, ◌-◌, ◌%◌, ◌^◌, ◌≤◌, ◌<◌, Bool, true, false, List, [], ◌∷◌, ◌++◌, ◌≡◌, refl, sym, ap, subst, ◌∙◌, Option, map, take, drop, arith, append_assoc}
use Rattle.std.specs.Prelude.{◌==◌, if◌then◌else◌, slice_set, not}
use Rattle.std.proofs.lemmas.Bool.{eq-eqb, ne_eqb, and_from, both_ways}
use Rattle.lists.specs.Lists.{numbers_from, below, overwrite, part_of, put}
use Rattle.words_layout.specs.Segments.{seg_number, same_seg, put_seg}
use Rattle.words_layout.specs.Words.{GuardedWord, GuardedWords, set_guarded, NextSerial, HomeOf, WritesOf, EntryOf, FrameTenant, FrameWord, PageTenant, PageWord}
use Rattle.words_layout.specs.Coding.{home_of}
use Rattle.words_layout.specs.declared.segment.SegId.{SegId}
use Rattle.words_layout.specs.declared.coding.Home.{Home}
use Rattle.words_layout.specs.declared.coding.Home.TheVariants as H
use Rattle.words_layout.proofs.Names.{same_seg-true, same_seg-refl}
use Rattle.policy.specs.Outcome.{Outcome, Value, Words}
use Rattle.policy.specs.Verdict.{◌⇒◌}
use Rattle.policy.specs.declared.rule.Rule.TheVariants.{Gone, NotIn}
use Rattle.turns.specs.Bodies.{Inner}
use Rattle.turns.specs.AtOnce.{run_loads, run_inner, Ran}
use Rattle.data_gates.specs.Data.{load_words, fetch_home, fetch_body, store_words, count_write, update_home, update_body}
use Rattle.class_model.specs.Config.{Pool}
use Rattle.class_model.specs.State.{Part, Cell, CellHome, In, live_words, with_cell, is_deleted_home, is_in_home}
use Rattle.class_model.specs.Step.{Effect, fetch_effect, update_effect, unless}
use Rattle.machine.specs.Reading.{words_from}
use Rattle.machine.specs.Stands.{Holds, ClassHolds, SegmentHolds, HomeHolds, names_frame}
use Rattle.effect_laws.proofs.Same.{of_class_word, class_same, segment_same}

-- loading n words in order
pub run-load_words : (g : GuardedWords) (f at n : ℕ) (got : List ℕ) (pad : ℕ) →
    run_loads (load_words f at n got pad) g ≡ Words pad (got ++ map (λ i. g (FrameWord f i)) (numbers_from at n))
run-load_words g f at zero got pad = ap (Words pad) (sym (append-nil got))
  where
    append-nil : (xs : List ℕ) → xs ++ [] ≡ xs
    append-nil [] = refl
    append-nil (x ∷ xs) = ap (λ ys. x ∷ ys) (append-nil xs)
run-load_words g f at (suc n) got pad =
    run-load_words g f (at + 1) n (got ++ g (FrameWord f at) ∷ []) pad ∙ ap (Words pad) (append_assoc got (g (FrameWord f at) ∷ []) (map (λ i. g (FrameWord f i)) (numbers_from (at + 1) n)))

-- a part of consecutive numbers
take-numbers : (a k n : ℕ) → k ≤ n → take k (numbers_from a n) ≡ numbers_from a k
take-numbers a zero n h = refl
take-numbers a (suc k) zero h = absurd (omega (arith, h))
take-numbers a (suc k) (suc n) h = ap (λ xs. a ∷ xs) (take-numbers (a + 1) k n (omega (arith, h)))

drop-numbers : (a k n : ℕ) → k ≤ n → drop k (numbers_from a n) ≡ numbers_from (a + k) (n - k)
drop-numbers a zero n h = let e : a + 0 ≡ a = omega arith in let f : n - 0 ≡ n = omega arith in rw (e, f) refl
drop-numbers a (suc k) zero h = absurd (omega (arith, h))
drop-numbers a (suc k) (suc n) h =
    let e : (a + 1) + k ≡ a + suc k = omega arith in
    let f : n - k ≡ suc n - suc k = omega arith in
    drop-numbers (a + 1) k n (omega (arith, h)) ∙ rw (e, f) refl

take-map : (w : ℕ → ℕ) (k : ℕ) (xs : List ℕ) → take k (map w xs) ≡ map w (take k xs)
take-map w zero xs = refl
take-map w (suc k) [] = refl
take-map w (suc k) (x ∷ xs) = ap (λ ys. w x ∷ ys) (take-map w k xs)

drop-map : (w : ℕ → ℕ) (k : ℕ) (xs : List ℕ) → drop k (map w xs) ≡ map w (drop k xs)
drop-map w zero xs = refl
drop-map w (suc k) [] = refl
drop-map w (suc k) (x ∷ xs) = drop-map w k xs

part-of-words : (w : ℕ → ℕ) (offset count size : ℕ) → offset + count ≤ size →
    part_of (words_from w size) offset count ≡ map w (numbers_from offset count)
part-of-words w offset count size h =
    let e : 0 + offset ≡ offset = omega arith in
    ap (take count) (drop-map w offset (numbers_from 0 size) ∙ ap (map w) (drop-numbers 0 offset size (omega (arith, h)) ∙ rw e refl))
    ∙ take-map w count (numbers_from offset (size - offset)) ∙ ap (map w) (take-numbers offset count (size - offset) (omega (arith, h)))

-- the words asked are within a home that is resident
abbrev pub FitsHome : ℕ → ℕ → Home → Type 0
FitsHome offset count (H.Resident f page size) = offset + count ≤ size
FitsHome offset count _ = Unit {0}

-- fetch
pub fetch-atomic : (g : GuardedWords) (part : Part) (u : SegId) (offset count pad : ℕ) →
    SegmentHolds g u (part.cell u) → FitsHome offset count (home_of (g (HomeOf u))) → (own : Part) →
    run_loads (fetch_body u offset count pad) g ≡ (fetch_effect own (part.cell u) offset count pad).outcome
fetch-atomic g part u offset count pad holds fits own = by_home (home_of (g (HomeOf u))) holds.home fits
  where
    by_home : (h : Home) → HomeHolds g h (part.cell u).home → FitsHome offset count h →
        run_loads (fetch_home offset count pad h) g ≡ (fetch_effect own (part.cell u) offset count pad).outcome
    by_home H.Never e f = rw e refl
    by_home (H.Stored p size) e f = rw e refl
    by_home H.Deleted e f = rw e refl
    by_home (H.Resident f page size) e fits =
        rw e (run-load_words g f offset count [] pad ∙ ap (Words pad) (sym (part-of-words (λ i. g (FrameWord f i)) offset count size fits)))

-- the words after these were stored into a frame
abbrev pub stored : GuardedWords → ℕ → ℕ → List ℕ → GuardedWords
stored g f at [] = g
stored g f at (v ∷ vs) = stored (set_guarded g (FrameWord f at) v) f (at + 1) vs

run-store_words : (g : GuardedWords) (f at : ℕ) (vs : List ℕ) (rest : Inner Outcome) → run_inner (store_words f at vs rest) g ≡ run_inner rest (stored g f at vs)
run-store_words g f at [] rest = refl
run-store_words g f at (v ∷ vs) rest = run-store_words (set_guarded g (FrameWord f at) v) f (at + 1) vs rest

abbrev pub of_frame : ℕ → GuardedWord → Bool
of_frame f (FrameWord h i) = h == f
of_frame f _ = false

-- only words of that frame change
set-other : (g : GuardedWords) (f at v : ℕ) (w : GuardedWord) → of_frame f w ≡ false → set_guarded g (FrameWord f at) v w ≡ g w
set-other g f at v (FrameWord h i) k = rw k refl
set-other g f at v NextSerial k = refl
set-other g f at v (HomeOf u) k = refl
set-other g f at v (WritesOf u) k = refl
set-other g f at v (EntryOf u e) k = refl
set-other g f at v (FrameTenant h) k = refl
set-other g f at v (PageTenant h) k = refl
set-other g f at v (PageWord h i) k = refl

pub stored-other : (g : GuardedWords) (f at : ℕ) (vs : List ℕ) (w : GuardedWord) → of_frame f w ≡ false → stored g f at vs w ≡ g w
stored-other g f at [] w k = refl
stored-other g f at (v ∷ vs) w k = stored-other (set_guarded g (FrameWord f at) v) f (at + 1) vs w k ∙ set-other g f at v w k

-- a word put into a row of words is a word set in their list
row-below : (w : ℕ → ℕ) (k v a n : ℕ) → k < a → map (put w k v) (numbers_from a n) ≡ map w (numbers_from a n)
row-below w k v a zero h = refl
row-below w k v a (suc n) h = let e : a ≡ k → ⊥ = (λ x. absurd (omega (arith, x, h))) in
    rw (ne_eqb a k e, row-below w k v (a + 1) n (omega (arith, h))) refl

row-put : (w : ℕ → ℕ) (k v a n : ℕ) → map (put w (a + k) v) (numbers_from a n) ≡ slice_set (map w (numbers_from a n)) k v
row-put w k v a zero = refl
row-put w zero v a (suc n) = let e : a ≡ a + 0 = omega arith in
    let t : (a == a + 0) ≡ true = eq-eqb a (a + 0) e in rw (t, row-below w (a + 0) v (a + 1) n (omega arith)) refl
row-put w (suc k) v a (suc n) = let e : a ≡ a + suc k → ⊥ = (λ x. absurd (omega (arith, x))) in
    let f : a + suc k ≡ (a + 1) + k = omega arith in
    rw (ne_eqb a (a + suc k) e) (ap (λ xs. w a ∷ xs) (ap (λ z. map (put w z v) (numbers_from (a + 1) n)) f ∙ row-put w k v (a + 1) n))

stored-row : (g : GuardedWords) (f at size : ℕ) (vs : List ℕ) →
    words_from (λ i. stored g f at vs (FrameWord f i)) size ≡ overwrite (words_from (λ i. g (FrameWord f i)) size) at vs
stored-row g f at size [] = refl
stored-row g f at size (v ∷ vs) =
    stored-row (set_guarded g (FrameWord f at) v) f (at + 1) size vs ∙ ap (λ xs. overwrite xs (at + 1) vs) one
  where
    row : (i : ℕ) → set_guarded g (FrameWord f at) v (FrameWord f i) ≡ put (λ j. g (FrameWord f j)) at v i
    row i = rw (eq-eqb f f refl) refl

    from_zero : 0 + at ≡ at
    from_zero = omega arith

    one : words_from (λ i. set_guarded g (FrameWord f at) v (FrameWord f i)) size ≡ slice_set (words_from (λ i. g (FrameWord f i)) size) at v
    one = ap (λ (w : ℕ → ℕ). words_from w size) (λ k i. (row i) k) ∙ ap (λ z. map (put (λ j. g (FrameWord f j)) z v) (below size)) (sym from_zero) ∙ row-put (λ j. g (FrameWord f j)) at v 0 size

-- both tables changed at u, by what is the same
pub put-seg-both : {X : Type 0} (P : SegId → X → Type 0) (f : SegId → X) (u v : SegId) (x : X) →
    (v ≡ u → P v x) → (same_seg v u ≡ false → P v (f v)) → P v (put_seg f u x v)
put-seg-both P f u v x here there = elim (same_seg v u) as (λ b. same_seg v u ≡ b → P v (if b then x else f v)) [
  | true ↦ λ e. here (same_seg-true v u e)
  | false ↦ λ e. there e
] refl

-- segments that have a frame have serials in range
abbrev pub InRange : GuardedWords → Type 0
InRange g = (u : SegId) (f : ℕ) → names_frame (home_of (g (HomeOf u))) f ≡ true → u.serial < 64

-- the frames of different segments are different
frames_apart : (pool : Pool) (g : GuardedWords) (part : Part) → ClassHolds pool g part → InRange g → (u v : SegId) (f : ℕ) →
    names_frame (home_of (g (HomeOf u))) f ≡ true → names_frame (home_of (g (HomeOf v))) f ≡ true → same_seg v u ≡ true
frames_apart pool g part holds range u v f a b =
    let e : g (FrameTenant f) ≡ seg_number u + 1 = (holds.frames f).is u a in
    let h : g (FrameTenant f) ≡ seg_number v + 1 = (holds.frames f).is v b in
    let x : u.serial < 64 = range u f a in let y : v.serial < 64 = range v f b in
    let m : v.mentor ≡ u.mentor = omega (arith, e, h, x, y) in
    let s : v.serial ≡ u.serial = omega (arith, e, h, x, y) in
    and_from _ _ (eq-eqb v.mentor u.mentor m) (eq-eqb v.serial u.serial s)

-- a body at one go comes to what the effect says
pub record GateLaw (pool : Pool) (ran : Ran Outcome) (e : Effect) : Type 0 where
  pub outcome : ran.shown ≡ e.outcome
  pub held : Holds pool ran.words e.part

module _ (pool : Pool) (g : GuardedWords) (part : Part) (u : SegId) (offset : ℕ) (words : List ℕ)
    (holds : Holds pool g part) (range : InRange g) (small : (part.cell u).writes < 2 ^ 64 - 1) where
  -- the words after an update into frame f
  abbrev after_words : ℕ → GuardedWords
  after_words f = set_guarded (stored g f offset words) (WritesOf u) ((stored g f offset words (WritesOf u) + 1) % 2 ^ 64)

  abbrev after_cell : Cell
  after_cell = record (part.cell u) { home = In (overwrite (live_words (part.cell u)) offset words); writes = (part.cell u).writes + 1 }

  -- the part after it
  abbrev after_part : Part
  after_part = with_cell part u after_cell

  counted : (f : ℕ) → (stored g f offset words (WritesOf u) + 1) % 2 ^ 64 ≡ (part.cell u).writes + 1
  counted f =
      let e : stored g f offset words (WritesOf u) ≡ (part.cell u).writes = stored-other g f offset words (WritesOf u) refl ∙ (holds.of_segments u).writes in
      omega (arith, e, small)

  other_words : (f : ℕ) (w : GuardedWord) → of_class_word w ≡ true → after_words f w ≡ g w
  other_words f (HomeOf v) k = stored-other g f offset words (HomeOf v) refl
  other_words f NextSerial k = stored-other g f offset words NextSerial refl
  other_words f (EntryOf v e) k = stored-other g f offset words (EntryOf v e) refl
  other_words f (FrameTenant h) k = stored-other g f offset words (FrameTenant h) refl
  other_words f (PageTenant h) k = stored-other g f offset words (PageTenant h) refl
  other_words f (PageWord h i) k = stored-other g f offset words (PageWord h i) refl
  other_words f (WritesOf v) k = cc
  other_words f (FrameWord h i) k = cc

  holds_after : (f size : ℕ) (page : Option ℕ) → home_of (g (HomeOf u)) ≡ H.Resident f page size → Holds pool (after_words f) after_part
  holds_after f size page at_f = record {
    of_class = class_same g (after_words f) (other_words f) pool part after_part refl
        (λ v. put-seg-both (λ v (c : Cell). c.entries ≡ (part.cell v).entries) part.cell u v after_cell (λ e. rw e refl) (λ e. refl))
        (λ v. put-seg-both (λ v (c : Cell). c.stored ≡ (part.cell v).stored) part.cell u v after_cell (λ e. rw e refl) (λ e. refl))
        holds.of_class;
    of_segments = λ v. put-seg-both (λ v (c : Cell). SegmentHolds (after_words f) v c) part.cell u v after_cell
        (λ e. rw e own)
        (λ e. segment_same g (after_words f) v (part.cell v) (other_words f (HomeOf v) refl) (others v e)
        (λ h i named. stored-other g f offset words (FrameWord h i) (ne_eqb h f (differ v h e named))) (holds.of_segments v));
  }
    where
      names : names_frame (home_of (g (HomeOf u))) f ≡ true
      names = rw at_f (eq-eqb f f refl)

      differ : (v : SegId) (h : ℕ) → same_seg v u ≡ false → names_frame (home_of (g (HomeOf v))) h ≡ true → h ≡ f → ⊥
      differ v h other named e = both_ways (same_seg v u) other (frames_apart pool g part holds.of_class range u v f names (rw e at named))

      others : (v : SegId) → same_seg v u ≡ false → after_words f (WritesOf v) ≡ g (WritesOf v)
      others v e = rw e (stored-other g f offset words (WritesOf v) refl)

      was : HomeHolds g (H.Resident f page size) (part.cell u).home
      was = rw at_f at (holds.of_segments u).home

      live : live_words (part.cell u) ≡ words_from (λ i. g (FrameWord f i)) size
      live = rw was refl

      own : SegmentHolds (after_words f) u after_cell
      own = record {
        home = subst (λ h. HomeHolds (after_words f) h after_cell.home) (sym (ap home_of (other_words f (HomeOf u) refl) ∙ at_f))
            (ap In (ap (λ xs. overwrite xs offset words) live ∙ sym (stored-row g f offset size words)));
        writes = rw (same_seg-refl u) (counted f);
      }

  -- the effect of an update of a cell that is In
  effect_in : (live : List ℕ) → (part.cell u).home ≡ In live → update_effect part u offset words ≡ record { part = after_part; outcome = Value ((part.cell u).writes + 1) }
  effect_in live e = ap (λ (h : CellHome). unless part ((is_deleted_home h ⇒ Gone) ∷ (not (is_in_home h) ⇒ NotIn) ∷ []) (record { part = after_part; outcome = Value ((part.cell u).writes + 1) })) e

  pub update-atomic : GateLaw pool (run_inner (update_body u offset words) g) (update_effect part u offset words)
  update-atomic = by_home (home_of (g (HomeOf u))) refl (holds.of_segments u).home
    where
      by_home : (h : Home) → home_of (g (HomeOf u)) ≡ h → HomeHolds g h (part.cell u).home → GateLaw pool (run_inner (update_home u offset words h) g) (update_effect part u offset words)
      by_home H.Never e k = rw k (record { outcome = refl; held = holds })
      by_home H.Deleted e k = rw k (record { outcome = refl; held = holds })
      by_home (H.Stored p size) e k = rw k (record { outcome = refl; held = holds })
      by_home (H.Resident f page size) e k =
          rw (run-store_words g f offset words (count_write u), effect_in (words_from (λ i. g (FrameWord f i)) size) k)
          (record { outcome = ap Value (counted f); held = holds_after f size page e })
