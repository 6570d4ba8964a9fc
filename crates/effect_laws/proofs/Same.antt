-- Words that hold what a part is go on to hold it where what they hold of it is the same.
use Rattle.std.proofs.Common.{ℕ, Bool, true, false, List, ◌≡◌, refl, sym, ap, subst, ◌∙◌, Option, Some, None}
use Rattle.std.proofs.lemmas.Bool.{eq-eqb}
use Rattle.words_layout.specs.declared.segment.SegId.{SegId}
use Rattle.words_layout.specs.declared.coding.Home.{Home}
use Rattle.words_layout.specs.declared.coding.Home.TheVariants as H
use Rattle.words_layout.specs.Words.{GuardedWord, GuardedWords, NextSerial, HomeOf, WritesOf, EntryOf, FrameTenant, FrameWord, PageTenant, PageWord}
use Rattle.words_layout.specs.Coding.{home_of, entry_of}
use Rattle.class_model.specs.Config.{Pool}
use Rattle.class_model.specs.State.{Part, Cell, CellHome}
use Rattle.machine.specs.Reading.{words_from}
use Rattle.machine.specs.Stands.{ClassHolds, SegmentHolds, StoredHolds, HomeHolds, names_frame, names_page, IsTenant}

-- the words that a class's turn guards besides those of free frames
abbrev pub of_class_word : GuardedWord → Bool
of_class_word (WritesOf u) = false
of_class_word (FrameWord f i) = false
of_class_word _ = true

module _ (c n : GuardedWords) (same : (w : GuardedWord) → of_class_word w ≡ true → n w ≡ c w) where
  page_words : (g : ℕ) → (let f : ℕ → ℕ = λ i. n (PageWord g i) in f) ≡ (λ i. c (PageWord g i))
  page_words g = λ k i. (same (PageWord g i) refl) k

  stored_same : (h : Home) (stored : Option (List ℕ)) → StoredHolds c h stored → StoredHolds n h stored
  stored_same H.Never stored k = k
  stored_same H.Deleted stored k = k
  stored_same (H.Stored g size) stored k = k ∙ ap (λ (f : ℕ → ℕ). Some (words_from f size)) (sym (page_words g))
  stored_same (H.Resident f None size) stored k = k
  stored_same (H.Resident f (Some g) size) stored k = k ∙ ap (λ (w : ℕ → ℕ). Some (words_from w size)) (sym (page_words g))

  home_same : (u : SegId) → home_of (n (HomeOf u)) ≡ home_of (c (HomeOf u))
  home_same u = ap home_of (same (HomeOf u) refl)

  pub class_same : (pool : Pool) (part part' : Part) → part'.next_serial ≡ part.next_serial →
      ((u : SegId) → (part'.cell u).entries ≡ (part.cell u).entries) → ((u : SegId) → (part'.cell u).stored ≡ (part.cell u).stored) →
      ClassHolds pool c part → ClassHolds pool n part'
  class_same pool part part' serial entries stored k = record {
    next_serial = same NextSerial refl ∙ k.next_serial ∙ sym serial;
    entries = λ u e. ap entry_of (same (EntryOf u e) refl) ∙ k.entries u e ∙ ap (λ xs. Rattle.std.specs.Prelude.slice_index_or xs e None) (sym (entries u));
    stored = λ u. subst (StoredHolds n (home_of (n (HomeOf u)))) (sym (stored u))
        (subst (λ h. StoredHolds n h (part.cell u).stored) (sym (home_same u)) (stored_same (home_of (c (HomeOf u))) (part.cell u).stored (k.stored u)));
    frames_below = λ u f h. k.frames_below u f (ap (λ z. names_frame z f) (sym (home_same u)) ∙ h);
    pages_below = λ u g h. k.pages_below u g (ap (λ z. names_page z g) (sym (home_same u)) ∙ h);
    frames = λ f. tenant_same (λ z. names_frame z f) (n (FrameTenant f)) (c (FrameTenant f)) (same (FrameTenant f) refl) (k.frames f);
    pages = λ g. tenant_same (λ z. names_page z g) (n (PageTenant g)) (c (PageTenant g)) (same (PageTenant g) refl) (k.pages g);
  }
    where
      tenant_same : (names : Home → Bool) (t t' : ℕ) → t ≡ t' → IsTenant (λ u. names (home_of (c (HomeOf u)))) t' → IsTenant (λ u. names (home_of (n (HomeOf u)))) t
      tenant_same names t t' e k = record {
        is = λ u h. e ∙ k.is u (ap names (sym (home_same u)) ∙ h);
        of_one = λ h. (let w : (u : SegId) × (names (home_of (c (HomeOf u))) ≡ true) = k.of_one (λ z. h (e ∙ z)) in (w.0, ap names (home_same w.0) ∙ w.1));
      }

-- so do the words of a segment
pub segment_same : (c n : GuardedWords) (u : SegId) (cell : Cell) → n (HomeOf u) ≡ c (HomeOf u) → n (WritesOf u) ≡ c (WritesOf u) →
    ((f i : ℕ) → names_frame (home_of (c (HomeOf u))) f ≡ true → n (FrameWord f i) ≡ c (FrameWord f i)) → SegmentHolds c u cell → SegmentHolds n u cell
segment_same c n u cell home writes word k = record {
  home = subst (λ h. HomeHolds n h cell.home) (sym (ap home_of home)) (by_home (home_of (c (HomeOf u))) refl k.home);
  writes = writes ∙ k.writes;
}
  where
    by_home : (h : Home) → home_of (c (HomeOf u)) ≡ h → HomeHolds c h cell.home → HomeHolds n h cell.home
    by_home H.Never e h = h
    by_home (H.Stored g size) e h = h
    by_home H.Deleted e h = h
    by_home (H.Resident f page size) e h = h ∙ ap (λ (w : ℕ → ℕ). CellHome.In (words_from w size)) (λ k i. (sym (word f i names)) k)
      where
        names : names_frame (home_of (c (HomeOf u))) f ≡ true
        names = rw e (eq-eqb f f refl)
