-- Delete at one go, on words that hold the part of their class.
use Rattle.std.proofs.Common.{ℕ, ◌+◌, ◌<◌, Bool, true, false, ◌&&◌, [], ◌∷◌, ◌≡◌, refl, sym, ap, subst, ◌∙◌, Option, Some, None, arith, ◌⊎◌, inl, inr, length}
use Rattle.std.specs.Prelude.{◌==◌, if◌then◌else◌}
use Rattle.std.proofs.lemmas.Bool.{eq-eqb, eqb-true, eqb-false, ne_eqb, cases_eq, both_ways}
use Rattle.std.proofs.lemmas.List.{get_or-set_same, get_or-set_other}
use Rattle.words_layout.specs.declared.segment.SegId.{SegId}
use Rattle.words_layout.specs.declared.coding.Home.{Home}
use Rattle.words_layout.specs.declared.coding.Home.TheVariants as H
use Rattle.words_layout.specs.declared.coding.Alias.{Alias}
use Rattle.words_layout.specs.Segments.{seg, same_seg}
use Rattle.words_layout.specs.Words.{GuardedWord, GuardedWords, set_guarded, same_word, NextSerial, HomeOf, WritesOf, EntryOf, FrameTenant, FrameWord, PageTenant, PageWord}
use Rattle.words_layout.specs.Coding.{home_of, entry_of, pack_home}
use Rattle.words_layout.proofs.Names.{same_seg-true, same_seg-refl}
use Rattle.policy.specs.Outcome.{Outcome, Value, Refused}
use Rattle.policy.specs.Verdict.{◌⇒◌}
use Rattle.policy.specs.declared.rule.Rule.TheVariants.{NotEmpty}
use Rattle.turns.specs.Bodies.{Inner, Outer}
use Rattle.turns.specs.AtOnce.{run_inner, run_outer, Ran}
use Rattle.tree_gates.specs.Tree.{check_entries, free_page, free_home, delete_child, delete_entry, delete_body}
use Rattle.class_model.specs.Config.{Pool}
use Rattle.class_model.specs.State.{Part, Cell, Deleted, entry_at, has_entry}
use Rattle.class_model.specs.Step.{Effect, unless, delete_effect, deleted, emptied, with_entry}
use Rattle.machine.specs.Stands.{Holds, SegmentHolds, HomeHolds, StoredHolds, IsTenant, names_frame, names_page, is_page}
use Rattle.effect_laws.proofs.Same.{segment_same}
use Rattle.effect_laws.proofs.GateData.{GateLaw, put-seg-both}
use Rattle.effect_laws.proofs.Filling.{set-apart, run-check_entries}
use Rattle.effect_laws.proofs.Rehomed.{Rehomed, rehomed, tenant_kept, tenant_freed}
use Rattle.effect_laws.proofs.GateSwapIn.{law_by}

-- an entry that is emptied
module _ (pool : Pool) (g : GuardedWords) (part : Part) (u : SegId) (e : ℕ) (holds : Holds pool g part) (eight : e < length (part.cell u).entries) where
  abbrev without : GuardedWords
  without = set_guarded g (EntryOf u e) 0

  entries_after : (v : SegId) (f : ℕ) → entry_of (without (EntryOf v f)) ≡ entry_at ((emptied part u e).cell v) f
  entries_after v f = elim (same_seg v u) as
      (λ t. same_seg v u ≡ t → entry_of (if (t && f == e) then 0 else g (EntryOf v f)) ≡ entry_at (if t then with_entry (part.cell u) e None else part.cell v) f) [
        | true ↦ λ k. (elim (f == e) as (λ t. (f == e) ≡ t → entry_of (if t then 0 else g (EntryOf v f)) ≡ entry_at (with_entry (part.cell u) e None) f) [
          | true ↦ λ i. rw (eqb-true f e i) (sym (get_or-set_same (part.cell u).entries e None None eight))
          | false ↦ λ i. rw (same_seg-true v u k) (holds.of_class.entries u f ∙ sym (get_or-set_other (part.cell u).entries e f None None (eqb-false f e i)))
        ] refl)
        | false ↦ λ k. holds.of_class.entries v f
      ] refl

  pub empties : Holds pool without (emptied part u e)
  empties = record {
    of_class = record {
      next_serial = holds.of_class.next_serial;
      entries = entries_after;
      stored = λ v. put-seg-both (λ v (c : Cell). StoredHolds g (home_of (g (HomeOf v))) c.stored) part.cell u v (with_entry (part.cell u) e None) (λ k. rw k (holds.of_class.stored u)) (λ k. holds.of_class.stored v);
      frames_below = holds.of_class.frames_below;
      pages_below = holds.of_class.pages_below;
      frames = holds.of_class.frames;
      pages = holds.of_class.pages;
    };
    of_segments = λ v. put-seg-both (λ v (c : Cell). SegmentHolds without v c) part.cell u v (with_entry (part.cell u) e None)
        (λ k. rw k (segment_same g without u (with_entry (part.cell u) e None) refl refl (λ h i k. refl) (record { home = (holds.of_segments u).home; writes = (holds.of_segments u).writes })))
        (λ k. segment_same g without v (part.cell v) refl refl (λ h i k. refl) (holds.of_segments v));
  }

-- the words after the tenants of a home are freed
abbrev pub page_freed : GuardedWords → Option ℕ → GuardedWords
page_freed g None = g
page_freed g (Some q) = set_guarded g (PageTenant q) 0

abbrev pub home_freed : GuardedWords → Home → GuardedWords
home_freed g H.Never = g
home_freed g H.Deleted = g
home_freed g (H.Stored q size) = page_freed g (Some q)
home_freed g (H.Resident f page size) = page_freed (set_guarded g (FrameTenant f) 0) page

run-free_page : (g : GuardedWords) (page : Option ℕ) (rest : Inner Outcome) → run_inner (free_page page rest) g ≡ run_inner rest (page_freed g page)
run-free_page g None rest = refl
run-free_page g (Some q) rest = refl

run-free_home : (g : GuardedWords) (h : Home) (rest : Inner Outcome) → run_inner (free_home h rest) g ≡ run_inner rest (home_freed g h)
run-free_home g H.Never rest = refl
run-free_home g H.Deleted rest = refl
run-free_home g (H.Stored q size) rest = refl
run-free_home g (H.Resident f page size) rest = run-free_page (set_guarded g (FrameTenant f) 0) page rest

-- a word that is no tenant is as it was
abbrev Stays : GuardedWord → Type 0
Stays w = ((f : ℕ) → same_word w (FrameTenant f) ≡ false) × ((q : ℕ) → same_word w (PageTenant q) ≡ false)

page_freed-other : (g : GuardedWords) (page : Option ℕ) (w : GuardedWord) → ((q : ℕ) → same_word w (PageTenant q) ≡ false) → page_freed g page w ≡ g w
page_freed-other g None w k = refl
page_freed-other g (Some q) w k = set-apart g (PageTenant q) w 0 (k q)

home_freed-other : (g : GuardedWords) (h : Home) (w : GuardedWord) → Stays w → home_freed g h w ≡ g w
home_freed-other g H.Never w k = refl
home_freed-other g H.Deleted w k = refl
home_freed-other g (H.Stored q size) w k = set-apart g (PageTenant q) w 0 (k.1 q)
home_freed-other g (H.Resident f page size) w k = page_freed-other (set_guarded g (FrameTenant f) 0) page w k.1 ∙ set-apart g (FrameTenant f) w 0 (k.0 f)

-- what becomes of the tenant of a frame, and of a page
frame_tenant : (g : GuardedWords) (h : Home) (f : ℕ) → home_freed g h (FrameTenant f) ≡ (if names_frame h f then 0 else g (FrameTenant f))
frame_tenant g H.Never f = refl
frame_tenant g H.Deleted f = refl
frame_tenant g (H.Stored q size) f = refl
frame_tenant g (H.Resident x page size) f = page_freed-other (set_guarded g (FrameTenant x) 0) page (FrameTenant f) (λ q. refl)
    ∙ ap (λ (b : Bool). if b then 0 else g (FrameTenant f)) (flip f x)
  where
    flip : (a b : ℕ) → (a == b) ≡ (b == a)
    flip a b = by_cases (cases_eq a b)
      where
        by_cases : (a ≡ b) ⊎ (a ≡ b → ⊥) → (a == b) ≡ (b == a)
        by_cases (inl e) = eq-eqb a b e ∙ sym (eq-eqb b a (sym e))
        by_cases (inr e) = ne_eqb a b e ∙ sym (ne_eqb b a (λ x. e (sym x)))

page_tenant_of : (g : GuardedWords) (page : Option ℕ) (q : ℕ) → page_freed g page (PageTenant q) ≡ (if is_page page q then 0 else g (PageTenant q))
page_tenant_of g None q = refl
page_tenant_of g (Some x) q = ap (λ (b : Bool). if b then 0 else g (PageTenant q)) (Rattle.effect_laws.proofs.Pools.eqb-sym q x)

page_tenant : (g : GuardedWords) (h : Home) (q : ℕ) → home_freed g h (PageTenant q) ≡ (if names_page h q then 0 else g (PageTenant q))
page_tenant g H.Never q = refl
page_tenant g H.Deleted q = refl
page_tenant g (H.Stored x size) q = page_tenant_of g (Some x) q
page_tenant g (H.Resident x page size) q = page_tenant_of (set_guarded g (FrameTenant x) 0) page q

-- a segment that is deleted
module _ (pool : Pool) (g : GuardedWords) (part : Part) (holds : Holds pool g part) (child : SegId)
    (frame_small : (v : SegId) (f : ℕ) → names_frame (home_of (g (HomeOf v))) f ≡ true → v.serial < 64)
    (page_small : (v : SegId) (f : ℕ) → names_page (home_of (g (HomeOf v))) f ≡ true → v.serial < 64) where
  abbrev old : Home
  old = home_of (g (HomeOf child))

  abbrev pub gone : GuardedWords
  gone = set_guarded (home_freed g (home_of (g (HomeOf child)))) (HomeOf child) (pack_home H.Deleted)

  gone-other : (w : GuardedWord) → Stays w → same_word w (HomeOf child) ≡ false → gone w ≡ g w
  gone-other w k e = set-apart (home_freed g old) (HomeOf child) w (pack_home H.Deleted) e ∙ home_freed-other g old w k

  others : (v : SegId) → same_seg v child ≡ false → gone (HomeOf v) ≡ g (HomeOf v)
  others v e = gone-other (HomeOf v) (λ f. refl, λ q. refl) e

  home_is : home_of (gone (HomeOf child)) ≡ H.Deleted
  home_is = ap home_of here
    where
      here : gone (HomeOf child) ≡ pack_home H.Deleted
      here = rw (same_seg-refl child) refl

  freed_by : (names : Home → ℕ → Bool) (x t t' : ℕ) → IsTenant (λ v. names (home_of (g (HomeOf v))) x) t → names H.Deleted x ≡ false →
      ((v : SegId) → names (home_of (g (HomeOf v))) x ≡ true → v.serial < 64) → t' ≡ (if names old x then 0 else t) → IsTenant (λ v. names (home_of (gone (HomeOf v))) x) t'
  freed_by names x t t' was no_name small is = by_test (names old x) refl is
    where
      by_test : (b : Bool) → names old x ≡ b → t' ≡ (if b then 0 else t) → IsTenant (λ v. names (home_of (gone (HomeOf v))) x) t'
      by_test true e z = tenant_freed child (λ v. home_of (g (HomeOf v))) (λ v. home_of (gone (HomeOf v))) (λ v y. ap home_of (others v y)) names x t t' was
          (ap (λ z. names z x) home_is ∙ no_name) e small z
      by_test false e z = tenant_kept child (λ v. home_of (g (HomeOf v))) (λ v. home_of (gone (HomeOf v))) (λ v y. ap home_of (others v y)) names x t t' was
          (ap (λ z. names z x) home_is ∙ no_name ∙ sym e) z

  rehomes : Rehomed pool g gone child (record (part.cell child) { home = Deleted; stored = None })
  rehomes = record {
    serial = gone-other NextSerial (λ f. refl, λ q. refl) refl;
    entry = λ v e. gone-other (EntryOf v e) (λ f. refl, λ q. refl) refl;
    writes = λ v. gone-other (WritesOf v) (λ f. refl, λ q. refl) refl;
    others = others;
    frames_below = λ h e. absurd (both_ways (names_frame (home_of (gone (HomeOf child))) h) (ap (λ z. names_frame z h) home_is) e);
    pages_below = λ h e. absurd (both_ways (names_page (home_of (gone (HomeOf child))) h) (ap (λ z. names_page z h) home_is) e);
    frames = λ f. freed_by names_frame f (g (FrameTenant f)) (gone (FrameTenant f)) (holds.of_class.frames f) refl (λ v. frame_small v f) (frame_tenant g old f);
    pages = λ q. freed_by names_page q (g (PageTenant q)) (gone (PageTenant q)) (holds.of_class.pages q) refl (λ v. page_small v q) (page_tenant g old q);
    frame_words = λ v e h i named. gone-other (FrameWord h i) (λ f. refl, λ q. refl) refl;
    page_words = λ v e h i named. gone-other (PageWord h i) (λ f. refl, λ q. refl) refl;
    home = subst (λ z. HomeHolds gone z Deleted) (sym home_is) refl;
    stored = subst (λ z. StoredHolds gone z None) (sym home_is) refl;
  }

  pub deletes : Holds pool gone (deleted part child)
  deletes = rehomed pool g gone part child (record (part.cell child) { home = Deleted; stored = None }) holds rehomes refl refl

-- the whole gate
module _ (pool : Pool) (d : ℕ) (g : GuardedWords) (part : Part) (u : SegId) (e : ℕ) (holds : Holds pool g part) (eight : (v : SegId) → length (part.cell v).entries ≡ 8) (small : e < 8)
    (frame_small : (v : SegId) (f : ℕ) → names_frame (home_of (g (HomeOf v))) f ≡ true → v.serial < 64)
    (page_small : (v : SegId) (f : ℕ) → names_page (home_of (g (HomeOf v))) f ≡ true → v.serial < 64) where
  abbrev by_tests : Bool → Bool → SegId → Effect
  by_tests own full child = unless part ((own && full ⇒ NotEmpty) ∷ []) (record { part = emptied (if own then deleted part child else part) u e; outcome = Value 0 })

  short : (p : Part) → length (p.cell u).entries ≡ 8 → e < length (p.cell u).entries
  short p l = omega (arith, l, small)

  emptied_only : GateLaw pool (record { words = set_guarded g (EntryOf u e) 0; shown = Value 0 }) (record { part = emptied part u e; outcome = Value 0 })
  emptied_only = record { outcome = refl; held = empties pool g part u e holds (short part (eight u)) }

  module _ (child : SegId) where
    run-child : run_inner (delete_child child u e) g ≡ record { words = set_guarded (gone pool g part holds child frame_small page_small) (EntryOf u e) 0; shown = Value 0 }
    run-child = run-free_home g (home_of (g (HomeOf child))) (Inner.Store (HomeOf child) (pack_home H.Deleted) (Inner.Store (EntryOf u e) 0 (Inner.Shows (Value 0))))

    still_eight : length ((deleted part child).cell u).entries ≡ 8
    still_eight = put-seg-both (λ v (c : Cell). length c.entries ≡ 8) part.cell child u (record (part.cell child) { home = Deleted; stored = None }) (λ q. eight child) (λ q. eight u)

    with_child : GateLaw pool (record { words = set_guarded (gone pool g part holds child frame_small page_small) (EntryOf u e) 0; shown = Value 0 })
        (record { part = emptied (deleted part child) u e; outcome = Value 0 })
    with_child = record {
      outcome = refl;
      held = empties pool (gone pool g part holds child frame_small page_small) (deleted part child) u e (deletes pool g part holds child frame_small page_small) (short (deleted part child) still_eight);
    }

    checked : run_outer (check_entries child 0 8 (Outer.Enter child (delete_child child u e))) g
        ≡ (if has_entry (part.cell child) then record { words = g; shown = Refused NotEmpty } else record { words = set_guarded (gone pool g part holds child frame_small page_small) (EntryOf u e) 0; shown = Value 0 })
    checked = ap (λ n. run_outer (check_entries child 0 n (Outer.Enter child (delete_child child u e))) g) (sym (eight child))
        ∙ run-check_entries g child (Outer.Enter child (delete_child child u e)) (part.cell child).entries 0
        (λ j l. (let z : 0 + j ≡ j = omega arith in ap (λ i. entry_of (g (EntryOf child i))) z ∙ holds.of_class.entries child j))
        ∙ ap (λ (r : Ran Outcome). if has_entry (part.cell child) then record { words = g; shown = Refused NotEmpty } else r) run-child

    own_child : (full : Bool) → has_entry (part.cell child) ≡ full →
        GateLaw pool (run_outer (check_entries child 0 8 (Outer.Enter child (delete_child child u e))) g) (by_tests true (has_entry (part.cell child)) child)
    own_child true h = law_by pool _ (record { words = g; shown = Refused NotEmpty }) _ (by_tests true true child)
        (checked ∙ ap (λ (b : Bool). if b then record { words = g; shown = Refused NotEmpty } else record { words = set_guarded (gone pool g part holds child frame_small page_small) (EntryOf u e) 0; shown = Value 0 }) h)
        (ap (λ b. by_tests true b child) h) (record { outcome = refl; held = holds })
    own_child false h = law_by pool _ (record { words = set_guarded (gone pool g part holds child frame_small page_small) (EntryOf u e) 0; shown = Value 0 }) _ (by_tests true false child)
        (checked ∙ ap (λ (b : Bool). if b then record { words = g; shown = Refused NotEmpty } else record { words = set_guarded (gone pool g part holds child frame_small page_small) (EntryOf u e) 0; shown = Value 0 }) h)
        (ap (λ b. by_tests true b child) h) with_child

  by_entry : (o : Option Alias) → GateLaw pool (run_outer (delete_entry d u e o) g) (delete_effect d part u e o)
  by_entry None = record { outcome = refl; held = holds }
  by_entry (Some x) = by_class (x.class == d) refl
    where
      by_class : (b : Bool) → (x.class == d) ≡ b → GateLaw pool (run_outer (if b then check_entries (seg d x.serial) 0 8 (Outer.Enter (seg d x.serial) (delete_child (seg d x.serial) u e)) else Outer.Store (EntryOf u e) 0 (Outer.Shows (Value 0))) g)
          (by_tests b (has_entry (part.cell (seg d x.serial))) (seg d x.serial))
      by_class true c = own_child (seg d x.serial) (has_entry (part.cell (seg d x.serial))) refl
      by_class false c = emptied_only

  pub delete-atomic : GateLaw pool (run_outer (delete_body d u e) g) (delete_effect d part u e (entry_at (part.cell u) e))
  delete-atomic = law_by pool _ (run_outer (delete_entry d u e (entry_at (part.cell u) e)) g) _ _ (ap (λ o. run_outer (delete_entry d u e o) g) (holds.of_class.entries u e)) refl (by_entry (entry_at (part.cell u) e))
