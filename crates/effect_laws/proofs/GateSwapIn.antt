-- Swapin at one go, on words that hold the part of their class.
use Rattle.std.proofs.Common.{ℕ, ◌+◌, ◌≤◌, ◌<◌, Bool, true, false, List, [], ◌∷◌, ◌≡◌, refl, sym, ap, subst, ◌∙◌, Option, Some, None, arith, ◌⊎◌, inl, inr, length}
use Rattle.std.specs.Prelude.{◌==◌, nat_le, replicate, unwrap_or}
use Rattle.std.proofs.lemmas.Bool.{eq-eqb, eqb-true, ne_eqb, cases_eq, lt-ltb, le-leb}
use Rattle.std.proofs.Math.ListN.{length-map}
use Rattle.lists.specs.Lists.{below, numbers_from}
use Rattle.words_layout.specs.declared.segment.SegId.{SegId}
use Rattle.words_layout.specs.declared.coding.Home.{Home}
use Rattle.words_layout.specs.declared.coding.Home.TheVariants as H
use Rattle.words_layout.specs.Segments.{seg_number, same_seg}
use Rattle.words_layout.specs.Words.{GuardedWord, GuardedWords, set_guarded, same_word, NextSerial, HomeOf, WritesOf, EntryOf, FrameTenant, FrameWord, PageTenant, PageWord}
use Rattle.words_layout.specs.Coding.{home_of, pack_home, home_in_range, page_in_range}
use Rattle.words_layout.proofs.CodingLaws.{home_of-pack_home}
use Rattle.words_layout.proofs.Names.{same_seg-refl}
use Rattle.policy.specs.Known.{Known}
use Rattle.policy.specs.Outcome.{Outcome, Value, Refused}
use Rattle.policy.specs.Verdict.{◌⇒◌}
use Rattle.policy.specs.declared.rule.Rule.TheVariants.{Gone, AlreadyIn, NoFrame}
use Rattle.turns.specs.Bodies.{Inner}
use Rattle.turns.specs.AtOnce.{run_inner, run_outer, Ran}
use Rattle.swap_gates.specs.Swap.{bring_in, swap_in_home, swap_in_body}
use Rattle.class_model.specs.Config.{Shared, Pool, pool_of, classes}
use Rattle.class_model.specs.State.{Part, Cell, In, with_cell, is_deleted, is_deleted_home, is_in, is_in_home, frames_in_use}
use Rattle.class_model.specs.Step.{Effect, unless, swap_in_effect}
use Rattle.machine.specs.Reading.{words_from}
use Rattle.machine.specs.Stands.{Holds, HomeHolds, StoredHolds, PageHolds, IsTenant, names_frame, names_page, is_page}
use Rattle.effect_laws.proofs.GateData.{GateLaw}
use Rattle.effect_laws.proofs.Filling.{filled, set-apart, run-zero_words, run-copy_words, filled-other, filled-row, zeros, FindsFree, FindsNone, finds}
use Rattle.effect_laws.proofs.Rehomed.{Rehomed, rehomed, tenant_kept, tenant_taken}
use Rattle.effect_laws.proofs.Pools.{IsIdentity, frame-free, frame-none}

-- what a law needs of the segment that moves, and of its class
pub record Movable (s : Shared) (d : ℕ) (part : Part) (u : SegId) (size : ℕ) : Type 0 where
  pub frames_few : (pool_of s d).frames ≤ 16
  pub pages_few : (pool_of s d).pages ≤ 32
  pub live : (v : SegId) (words : List ℕ) → (part.cell v).home ≡ In words → IsIdentity (classes s) v
  pub kept : (v : SegId) (words : List ℕ) → (part.cell v).stored ≡ Some words → IsIdentity (classes s) v
  pub live_size : (words : List ℕ) → (part.cell u).home ≡ In words → length words ≡ size
  pub kept_size : (words : List ℕ) → (part.cell u).stored ≡ Some words → length words ≡ size
  pub live_low : (words : List ℕ) → (part.cell u).home ≡ In words → 1 ≤ size
  pub size_high : size ≤ 64

pub length-words : (w : ℕ → ℕ) (size : ℕ) → length (words_from w size) ≡ size
length-words w size = length-map (below size) w ∙ length-numbers 0 size
  where
    length-numbers : (a n : ℕ) → length (numbers_from a n) ≡ n
    length-numbers a Rattle.std.proofs.Common.zero = refl
    length-numbers a (Rattle.std.proofs.Common.suc n) = ap Rattle.std.proofs.Common.suc (length-numbers (a + 1) n)

-- a law by equal words and an equal effect
pub law_by : (pool : Pool) (ran ran' : Ran Outcome) (e e' : Effect) → ran ≡ ran' → e ≡ e' → GateLaw pool ran' e' → GateLaw pool ran e
law_by pool ran ran' e e' a b law = subst (λ z. GateLaw pool z e) (sym a) (subst (GateLaw pool ran') (sym b) law)

pub row-frame : (f i j : ℕ) → same_word (FrameWord f i) (FrameWord f j) ≡ (i == j)
row-frame f i j = rw (eq-eqb f f refl) refl

pub row-page : (f i j : ℕ) → same_word (PageWord f i) (PageWord f j) ≡ (i == j)
row-page f i j = rw (eq-eqb f f refl) refl

pub frame-apart : (h f i j : ℕ) → (h == f) ≡ false → same_word (FrameWord h i) (FrameWord f j) ≡ false
frame-apart h f i j e = rw e refl

pub page-apart : (h f i j : ℕ) → (h == f) ≡ false → same_word (PageWord h i) (PageWord f j) ≡ false
page-apart h f i j e = rw e refl

module _ (s : Shared) (d : ℕ) (g : GuardedWords) (part : Part) (k : Known) (holds : Holds (pool_of s d) g part) (ok : Movable s d part k.seg k.size) (size_low : 1 ≤ k.size) where
  abbrev u : SegId
  u = k.seg

  abbrev pool : Pool
  pool = pool_of s d

  abbrev cell : Cell
  cell = part.cell k.seg

  -- the words of a segment that comes in
  abbrev value : Option ℕ → ℕ → ℕ
  value None j = 0
  value (Some q) j = g (PageWord q j)

  abbrev in_frame : Option ℕ → ℕ → GuardedWords
  in_frame page f = filled (set_guarded g (FrameTenant f) (seg_number k.seg + 1)) (FrameWord f) (value page) 0 k.size

  abbrev in_words : Option ℕ → ℕ → GuardedWords
  in_words page f = set_guarded (in_frame page f) (HomeOf k.seg) (pack_home (H.Resident f page k.size))

  run-bring_in : (page : Option ℕ) (f : ℕ) → run_inner (bring_in k page f) g ≡ record { words = in_words page f; shown = Value 0 }
  run-bring_in None f = run-zero_words (set_guarded g (FrameTenant f) (seg_number k.seg + 1)) f 0 k.size
      (Inner.Store (HomeOf k.seg) (pack_home (H.Resident f None k.size)) (Inner.Shows (Value 0)))
  run-bring_in (Some q) f = run-copy_words (PageWord q) (FrameWord f) (λ i j. refl) g (set_guarded g (FrameTenant f) (seg_number k.seg + 1)) (λ j. refl) 0 k.size
      (Inner.Store (HomeOf k.seg) (pack_home (H.Resident f (Some q) k.size)) (Inner.Shows (Value 0)))

  abbrev with_live : List ℕ → Part
  with_live live = with_cell part k.seg (record (part.cell k.seg) { home = In live })

  module _ (page : Option ℕ) (f : ℕ) (low : f < (pool_of s d).frames) (free : g (FrameTenant f) ≡ 0)
      (no_frame : (h : ℕ) → names_frame (home_of (g (HomeOf k.seg))) h ≡ false)
      (pages_named : (h : ℕ) → names_page (home_of (g (HomeOf k.seg))) h ≡ is_page page h)
      (stored_is : PageHolds g k.size page (part.cell k.seg).stored) where
    abbrev n : GuardedWords
    n = in_words page f

    abbrev before : SegId → Home
    before v = home_of (g (HomeOf v))

    abbrev after : SegId → Home
    after v = home_of (in_words page f (HomeOf v))

    n_other : (w : GuardedWord) → same_word w (HomeOf k.seg) ≡ false → ((j : ℕ) → same_word w (FrameWord f j) ≡ false) → same_word w (FrameTenant f) ≡ false → in_words page f w ≡ g w
    n_other w a b c = set-apart (in_frame page f) (HomeOf k.seg) w (pack_home (H.Resident f page k.size)) a
        ∙ filled-other (set_guarded g (FrameTenant f) (seg_number k.seg + 1)) (FrameWord f) (value page) 0 k.size w b
        ∙ set-apart g (FrameTenant f) w (seg_number k.seg + 1) c

    page_fits : (p : Option ℕ) → ((h : ℕ) → names_page (home_of (g (HomeOf k.seg))) h ≡ is_page p h) → page_in_range p ≡ true
    page_fits None e = refl
    page_fits (Some q) e =
        let l : q < (pool_of s d).pages = holds.of_class.pages_below k.seg q (e q ∙ eq-eqb q q refl) in
        let few : (pool_of s d).pages ≤ 32 = ok.pages_few in lt-ltb q 32 (omega (arith, l, few))

    in_range : home_in_range (H.Resident f page k.size) ≡ true
    in_range = let few : (pool_of s d).frames ≤ 16 = ok.frames_few in
        rw (lt-ltb f 16 (omega (arith, low, few)), page_fits page pages_named, le-leb 1 k.size size_low, le-leb k.size 64 ok.size_high) refl

    home_is : after k.seg ≡ H.Resident f page k.size
    home_is = ap home_of stored_here ∙ home_of-pack_home (H.Resident f page k.size) in_range
      where
        stored_here : in_words page f (HomeOf k.seg) ≡ pack_home (H.Resident f page k.size)
        stored_here = rw (same_seg-refl k.seg) refl

    others : (v : SegId) → same_seg v k.seg ≡ false → in_words page f (HomeOf v) ≡ g (HomeOf v)
    others v e = n_other (HomeOf v) e (λ j. refl) refl

    frame_here : in_words page f (FrameTenant f) ≡ seg_number k.seg + 1
    frame_here = filled-other (set_guarded g (FrameTenant f) (seg_number k.seg + 1)) (FrameWord f) (value page) 0 k.size (FrameTenant f) (λ j. refl) ∙ rw (eq-eqb f f refl) refl

    frames_hold : (h : ℕ) → IsTenant (λ v. names_frame (after v) h) (in_words page f (FrameTenant h))
    frames_hold h = by_frame (cases_eq h f)
      where
        by_frame : (h ≡ f) ⊎ (h ≡ f → ⊥) → IsTenant (λ v. names_frame (after v) h) (in_words page f (FrameTenant h))
        by_frame (inl e) = tenant_taken k.seg before after (λ v x. ap home_of (others v x)) names_frame h (g (FrameTenant h)) (in_words page f (FrameTenant h)) (holds.of_class.frames h)
            (ap (λ z. names_frame z h) home_is ∙ eq-eqb f h (sym e)) (ap (λ z. g (FrameTenant z)) e ∙ free) (ap (λ z. in_words page f (FrameTenant z)) e ∙ frame_here)
        by_frame (inr e) = tenant_kept k.seg before after (λ v x. ap home_of (others v x)) names_frame h (g (FrameTenant h)) (in_words page f (FrameTenant h)) (holds.of_class.frames h)
            (ap (λ z. names_frame z h) home_is ∙ ne_eqb f h (λ x. e (sym x)) ∙ sym (no_frame h)) (n_other (FrameTenant h) refl (λ j. refl) (ne_eqb h f e))

    pages_hold : (h : ℕ) → IsTenant (λ v. names_page (after v) h) (in_words page f (PageTenant h))
    pages_hold h = tenant_kept k.seg before after (λ v x. ap home_of (others v x)) names_page h (g (PageTenant h)) (in_words page f (PageTenant h)) (holds.of_class.pages h)
        (ap (λ z. names_page z h) home_is ∙ sym (pages_named h)) (n_other (PageTenant h) refl (λ j. refl) refl)

    differ : (v : SegId) (h : ℕ) → names_frame (home_of (g (HomeOf v))) h ≡ true → (h == f) ≡ false
    differ v h named = ne_eqb h f (λ e. (let t = (holds.of_class.frames h).is v named in let z : g (FrameTenant h) ≡ 0 = ap (λ x. g (FrameTenant x)) e ∙ free in absurd (omega (arith, t, z))))

    stored_after : (p : Option ℕ) (stored : Option (List ℕ)) → PageHolds g k.size p stored → PageHolds n k.size p stored
    stored_after None stored h = h
    stored_after (Some q) stored h = h ∙ ap (λ (w : ℕ → ℕ). Some (words_from w k.size)) (λ j i. (sym (n_other (PageWord q i) refl (λ x. refl) refl)) j)

    rehomes : Rehomed (pool_of s d) g n k.seg (record (part.cell k.seg) { home = In (words_from (value page) k.size) })
    rehomes = record {
      serial = n_other NextSerial refl (λ j. refl) refl;
      entry = λ v e. n_other (EntryOf v e) refl (λ j. refl) refl;
      writes = λ v. n_other (WritesOf v) refl (λ j. refl) refl;
      others = others;
      frames_below = λ h e. (let same : f ≡ h = eqb-true f h (sym (ap (λ z. names_frame z h) home_is) ∙ e) in omega (arith, same, low));
      pages_below = λ h e. holds.of_class.pages_below k.seg h (pages_named h ∙ sym (ap (λ z. names_page z h) home_is) ∙ e);
      frames = frames_hold;
      pages = pages_hold;
      frame_words = λ v e h i named. n_other (FrameWord h i) refl (λ j. frame-apart h f i j (differ v h named)) refl;
      page_words = λ v e h i named. n_other (PageWord h i) refl (λ j. refl) refl;
      home = subst (λ z. HomeHolds n z (In (words_from (value page) k.size))) (sym home_is)
          (ap In (sym (filled-row (FrameWord f) (value page) (row-frame f) (set_guarded g (FrameTenant f) (seg_number k.seg + 1)) k.size)));
      stored = subst (λ z. StoredHolds n z (part.cell k.seg).stored) (sym home_is) (stored_after page (part.cell k.seg).stored stored_is);
    }

    pub brought : Holds (pool_of s d) n (with_live (words_from (value page) k.size))
    brought = rehomed (pool_of s d) g n part k.seg (record (part.cell k.seg) { home = In (words_from (value page) k.size) }) holds rehomes refl refl

  abbrev by_tests : Bool → Bool → Bool → List ℕ → Effect
  by_tests dead is_here full live = unless part ((dead ⇒ Gone) ∷ (is_here ⇒ AlreadyIn) ∷ (full ⇒ NoFrame) ∷ []) (record { part = with_live live; outcome = Value 0 })

  effect_is : (x y z : Bool) (live : List ℕ) → is_deleted (part.cell k.seg) ≡ x → is_in (part.cell k.seg) ≡ y → nat_le (pool_of s d).frames (frames_in_use s part) ≡ z →
      unwrap_or (part.cell k.seg).stored (replicate k.size 0) ≡ live → swap_in_effect s d part k ≡ by_tests x y z live
  effect_is x y z live a b c l =
      ap (λ x. by_tests x (is_in (part.cell k.seg)) (nat_le (pool_of s d).frames (frames_in_use s part)) (unwrap_or (part.cell k.seg).stored (replicate k.size 0))) a
      ∙ ap (λ y. by_tests x y (nat_le (pool_of s d).frames (frames_in_use s part)) (unwrap_or (part.cell k.seg).stored (replicate k.size 0))) b
      ∙ ap (λ z. by_tests x y z (unwrap_or (part.cell k.seg).stored (replicate k.size 0))) c ∙ ap (by_tests x y z) l

  -- a segment that isn't here comes in where a frame is free
  comes_in : (page : Option ℕ) → is_deleted (part.cell k.seg) ≡ false → is_in (part.cell k.seg) ≡ false →
      ((h : ℕ) → names_frame (home_of (g (HomeOf k.seg))) h ≡ false) → ((h : ℕ) → names_page (home_of (g (HomeOf k.seg))) h ≡ is_page page h) →
      PageHolds g k.size page (part.cell k.seg).stored → unwrap_or (part.cell k.seg).stored (replicate k.size 0) ≡ words_from (value page) k.size →
      FindsFree g FrameTenant 0 (pool_of s d).frames (bring_in k page) (Inner.Shows (Refused NoFrame)) ⊎ FindsNone g FrameTenant 0 (pool_of s d).frames (bring_in k page) (Inner.Shows (Refused NoFrame)) →
      GateLaw (pool_of s d) (run_inner (Rattle.swap_gates.specs.Swap.find_free FrameTenant 0 (pool_of s d).frames (bring_in k page) (Inner.Shows (Refused NoFrame))) g) (swap_in_effect s d part k)
  comes_in page alive out no_frame pages_named stored_is live (inl r) =
      let low : r.at < (pool_of s d).frames = omega (arith, r.high) in
      law_by (pool_of s d) _ (record { words = in_words page r.at; shown = Value 0 }) _ (by_tests false false false (words_from (value page) k.size))
      (r.ran ∙ run-bring_in page r.at)
      (effect_is false false false (words_from (value page) k.size) alive out (frame-free s (pool_of s d) g part holds ok.live r.at low r.free) live)
      (record { outcome = refl; held = brought page r.at low r.free no_frame pages_named stored_is })
  comes_in page alive out no_frame pages_named stored_is live (inr r) =
      law_by (pool_of s d) _ (record { words = g; shown = Refused NoFrame }) _ (by_tests false false true (words_from (value page) k.size)) r.ran
      (effect_is false false true (words_from (value page) k.size) alive out (frame-none s (pool_of s d) g part holds ok.live (λ f l. r.taken f (omega arith) (omega (arith, l)))) live)
      (record { outcome = refl; held = holds })

  pub swap_in-atomic : GateLaw (pool_of s d) (run_outer (swap_in_body (pool_of s d).frames k) g) (swap_in_effect s d part k)
  swap_in-atomic = by_home (home_of (g (HomeOf k.seg))) refl (holds.of_segments k.seg).home (holds.of_class.stored k.seg)
    where
      by_home : (h : Home) → home_of (g (HomeOf k.seg)) ≡ h → HomeHolds g h (part.cell k.seg).home → StoredHolds g h (part.cell k.seg).stored →
          GateLaw (pool_of s d) (run_inner (swap_in_home (pool_of s d).frames k h) g) (swap_in_effect s d part k)
      by_home H.Deleted e a b = law_by (pool_of s d) _ _ _ (by_tests true (is_in (part.cell k.seg)) (nat_le (pool_of s d).frames (frames_in_use s part)) (unwrap_or (part.cell k.seg).stored (replicate k.size 0))) refl
          (effect_is true _ _ _ (ap is_deleted_home a) refl refl refl) (record { outcome = refl; held = holds })
      by_home (H.Resident f page size) e a b = law_by (pool_of s d) _ _ _ (by_tests false true (nat_le (pool_of s d).frames (frames_in_use s part)) (unwrap_or (part.cell k.seg).stored (replicate k.size 0))) refl
          (effect_is false true _ _ (ap is_deleted_home a) (ap is_in_home a) refl refl) (record { outcome = refl; held = holds })
      by_home H.Never e a b = comes_in None (ap is_deleted_home a) (ap is_in_home a) (λ h. ap (λ z. names_frame z h) e) (λ h. ap (λ z. names_page z h) e) b
          (ap (λ (o : Option (List ℕ)). unwrap_or o (replicate k.size 0)) b ∙ sym (zeros 0 k.size))
          (finds g FrameTenant 0 (pool_of s d).frames (bring_in k None) (Inner.Shows (Refused NoFrame)))
      by_home (H.Stored q size) e a b =
          let same : size ≡ k.size = sym (length-words (λ i. g (PageWord q i)) size) ∙ ok.kept_size (words_from (λ i. g (PageWord q i)) size) b in
          comes_in (Some q) (ap is_deleted_home a) (ap is_in_home a) (λ h. ap (λ z. names_frame z h) e) (λ h. ap (λ z. names_page z h) e)
          (b ∙ ap (λ z. Some (words_from (λ i. g (PageWord q i)) z)) same)
          (ap (λ (o : Option (List ℕ)). unwrap_or o (replicate k.size 0)) b ∙ ap (words_from (λ i. g (PageWord q i))) same)
          (finds g FrameTenant 0 (pool_of s d).frames (bring_in k (Some q)) (Inner.Shows (Refused NoFrame)))
