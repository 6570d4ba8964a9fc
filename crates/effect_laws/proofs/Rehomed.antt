-- A home that changes, with the tenants of its frame and page: the words then hold the part with that cell changed.
use Rattle.std.proofs.Common.{ℕ, ◌+◌, ◌<◌, Bool, true, false, List, ◌≡◌, refl, sym, ap, subst, ◌∙◌, Option, Some, None, arith}
use Rattle.std.specs.Prelude.{slice_index_or}
use Rattle.std.proofs.lemmas.Bool.{both_ways, eq-eqb, and_from}
use Rattle.words_layout.specs.declared.segment.SegId.{SegId}
use Rattle.words_layout.specs.declared.coding.Home.{Home}
use Rattle.words_layout.specs.declared.coding.Home.TheVariants as H
use Rattle.words_layout.specs.Segments.{seg_number, same_seg}
use Rattle.words_layout.specs.Words.{GuardedWords, NextSerial, HomeOf, WritesOf, EntryOf, FrameTenant, FrameWord, PageTenant, PageWord}
use Rattle.words_layout.specs.Coding.{home_of, entry_of}
use Rattle.words_layout.proofs.Names.{same_seg-true}
use Rattle.class_model.specs.Config.{Pool}
use Rattle.class_model.specs.State.{Part, Cell, entry_at, with_cell}
use Rattle.machine.specs.Reading.{words_from}
use Rattle.machine.specs.Stands.{Holds, SegmentHolds, StoredHolds, HomeHolds, names_frame, names_page, IsTenant}
use Rattle.effect_laws.proofs.Same.{segment_same}
use Rattle.effect_laws.proofs.GateData.{put-seg-both}

-- a test of an identity, by whether it is u
pub by_seg : (P : SegId → Type 0) (u v : SegId) → P u → (same_seg v u ≡ false → P v) → P v
by_seg P u v here there = elim (same_seg v u) as (λ b. same_seg v u ≡ b → P v) [
  | true ↦ λ e. subst P (sym (same_seg-true v u e)) here
  | false ↦ λ e. there e
] refl

-- the home of u changes: the tenant of a frame or page, by what names it
module _ (u : SegId) (before after : SegId → Home) (there : (v : SegId) → same_seg v u ≡ false → after v ≡ before v)
    (names : Home → ℕ → Bool) (x t t' : ℕ) (was : IsTenant (λ v. names (before v) x) t) where
  -- it is named as before
  pub tenant_kept : names (after u) x ≡ names (before u) x → t' ≡ t → IsTenant (λ v. names (after v) x) t'
  tenant_kept e same = record {
    is = λ v h. same ∙ was.is v (sym (alike v) ∙ h);
    of_one = λ h. (let w : (v : SegId) × (names (before v) x ≡ true) = was.of_one (λ z. h (same ∙ z)) in (w.0, alike w.0 ∙ w.1));
  }
    where
      alike : (v : SegId) → names (after v) x ≡ names (before v) x
      alike v = by_seg (λ v. names (after v) x ≡ names (before v) x) u v e (λ k. ap (λ h. names h x) (there v k))

  -- it was free, and u takes it
  pub tenant_taken : names (after u) x ≡ true → t ≡ 0 → t' ≡ seg_number u + 1 → IsTenant (λ v. names (after v) x) t'
  tenant_taken named free is = record { is = λ v. by_seg (λ v. names (after v) x ≡ true → t' ≡ seg_number v + 1) u v (λ h. is) (other v); of_one = λ h. (u, named) }
    where
      other : (v : SegId) → same_seg v u ≡ false → names (after v) x ≡ true → t' ≡ seg_number v + 1
      other v e h = let tenant = was.is v (ap (λ z. names z x) (sym (there v e)) ∙ h) in absurd (omega (arith, tenant, free))

  -- it was that of u, and is freed
  pub tenant_freed : names (after u) x ≡ false → names (before u) x ≡ true → ((v : SegId) → names (before v) x ≡ true → v.serial < 64) → t' ≡ 0 → IsTenant (λ v. names (after v) x) t'
  tenant_freed unnamed named small is = record { is = λ v. by_seg (λ v. names (after v) x ≡ true → t' ≡ seg_number v + 1) u v (λ h. absurd (both_ways (names (after u) x) unnamed h)) (other v); of_one = λ h. absurd (h is) }
    where
      other : (v : SegId) → same_seg v u ≡ false → names (after v) x ≡ true → t' ≡ seg_number v + 1
      other v e h =
          let at_v : names (before v) x ≡ true = ap (λ z. names z x) (sym (there v e)) ∙ h in
          let tv = was.is v at_v in let tu = was.is u named in
          let sv = small v at_v in let su = small u named in
          let m : v.mentor ≡ u.mentor = omega (arith, tv, tu, sv, su) in
          let s : v.serial ≡ u.serial = omega (arith, tv, tu, sv, su) in
          absurd (both_ways (same_seg v u) e (and_from _ _ (eq-eqb v.mentor u.mentor m) (eq-eqb v.serial u.serial s)))

-- what holds of the words n where the home of u has changed from that in g to what a cell is
pub record Rehomed (pool : Pool) (g n : GuardedWords) (u : SegId) (cell : Cell) : Type 0 where
  pub serial : n NextSerial ≡ g NextSerial
  pub entry : (v : SegId) (e : ℕ) → n (EntryOf v e) ≡ g (EntryOf v e)
  pub writes : (v : SegId) → n (WritesOf v) ≡ g (WritesOf v)
  pub others : (v : SegId) → same_seg v u ≡ false → n (HomeOf v) ≡ g (HomeOf v)
  pub frames_below : (f : ℕ) → names_frame (home_of (n (HomeOf u))) f ≡ true → f < pool.frames
  pub pages_below : (f : ℕ) → names_page (home_of (n (HomeOf u))) f ≡ true → f < pool.pages
  pub frames : (f : ℕ) → IsTenant (λ v. names_frame (home_of (n (HomeOf v))) f) (n (FrameTenant f))
  pub pages : (f : ℕ) → IsTenant (λ v. names_page (home_of (n (HomeOf v))) f) (n (PageTenant f))
  pub frame_words : (v : SegId) → same_seg v u ≡ false → (f i : ℕ) → names_frame (home_of (g (HomeOf v))) f ≡ true → n (FrameWord f i) ≡ g (FrameWord f i)
  pub page_words : (v : SegId) → same_seg v u ≡ false → (f i : ℕ) → names_page (home_of (g (HomeOf v))) f ≡ true → n (PageWord f i) ≡ g (PageWord f i)
  pub home : HomeHolds n (home_of (n (HomeOf u))) cell.home
  pub stored : StoredHolds n (home_of (n (HomeOf u))) cell.stored

module _ (pool : Pool) (g n : GuardedWords) (part : Part) (u : SegId) (cell : Cell) (holds : Holds pool g part) (r : Rehomed pool g n u cell)
    (entries : cell.entries ≡ (part.cell u).entries) (writes : cell.writes ≡ (part.cell u).writes) where
  stored_by : (h : Home) (stored : Option (List ℕ)) → ((f i : ℕ) → names_page h f ≡ true → n (PageWord f i) ≡ g (PageWord f i)) → StoredHolds g h stored → StoredHolds n h stored
  stored_by H.Never stored words k = k
  stored_by H.Deleted stored words k = k
  stored_by (H.Stored f size) stored words k = k ∙ ap (λ (w : ℕ → ℕ). Some (words_from w size)) (λ j i. (sym (words f i (eq-eqb f f refl))) j)
  stored_by (H.Resident f None size) stored words k = k
  stored_by (H.Resident f (Some q) size) stored words k = k ∙ ap (λ (w : ℕ → ℕ). Some (words_from w size)) (λ j i. (sym (words q i (eq-eqb q q refl))) j)

  stored_other : (v : SegId) → same_seg v u ≡ false → StoredHolds n (home_of (n (HomeOf v))) (part.cell v).stored
  stored_other v e = subst (λ h. StoredHolds n h (part.cell v).stored) (sym (ap home_of (r.others v e)))
      (stored_by (home_of (g (HomeOf v))) (part.cell v).stored (r.page_words v e) (holds.of_class.stored v))

  pub rehomed : Holds pool n (with_cell part u cell)
  rehomed = record {
    of_class = record {
      next_serial = r.serial ∙ holds.of_class.next_serial;
      entries = λ v e. ap entry_of (r.entry v e) ∙ put-seg-both (λ v (c : Cell). entry_of (g (EntryOf v e)) ≡ entry_at c e) part.cell u v cell
          (λ q. rw q (holds.of_class.entries u e ∙ ap (λ xs. slice_index_or xs e None) (sym entries))) (λ q. holds.of_class.entries v e);
      stored = λ v. put-seg-both (λ v (c : Cell). StoredHolds n (home_of (n (HomeOf v))) c.stored) part.cell u v cell (λ q. rw q r.stored) (stored_other v);
      frames_below = λ v. by_seg (λ v. (f : ℕ) → names_frame (home_of (n (HomeOf v))) f ≡ true → f < pool.frames) u v r.frames_below
          (λ e f h. holds.of_class.frames_below v f (ap (λ z. names_frame (home_of z) f) (sym (r.others v e)) ∙ h));
      pages_below = λ v. by_seg (λ v. (f : ℕ) → names_page (home_of (n (HomeOf v))) f ≡ true → f < pool.pages) u v r.pages_below
          (λ e f h. holds.of_class.pages_below v f (ap (λ z. names_page (home_of z) f) (sym (r.others v e)) ∙ h));
      frames = r.frames;
      pages = r.pages;
    };
    of_segments = λ v. put-seg-both (λ v (c : Cell). SegmentHolds n v c) part.cell u v cell
        (λ q. rw q (record { home = r.home; writes = r.writes u ∙ (holds.of_segments u).writes ∙ sym writes }))
        (λ q. segment_same g n v (part.cell v) (r.others v q) (r.writes v) (r.frame_words v q) (holds.of_segments v));
  }
