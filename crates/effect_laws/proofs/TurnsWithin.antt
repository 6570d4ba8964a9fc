-- The words of swapin, swapout and delete are guarded by the turns that they take.
use Rattle.std.proofs.Common.{ℕ, zero, suc, ◌+◌, ◌-◌, ◌^◌, ◌<◌, Bool, true, false, ◌≡◌, refl, ap, ◌∙◌, Option, Some, None}
use Rattle.std.specs.Prelude.{◌==◌, if◌then◌else◌, is_some}
use Rattle.std.proofs.lemmas.Bool.{eq-eqb, eqb-true, and_from}
use Rattle.words_layout.specs.Segments.{seg, seg_number}
use Rattle.words_layout.specs.declared.segment.SegId.{SegId}
use Rattle.words_layout.specs.declared.coding.Home.{Home}
use Rattle.words_layout.specs.declared.coding.Home.TheVariants as H
use Rattle.words_layout.specs.declared.coding.Alias.{Alias}
use Rattle.words_layout.specs.Words.{GuardedWord, GuardedWords, set_guarded, HomeOf, EntryOf, FrameTenant, FrameWord, PageTenant, PageWord}
use Rattle.words_layout.specs.Coding.{home_of, entry_of, pack_home}
use Rattle.words_layout.proofs.Names.{same_seg-refl}
use Rattle.policy.specs.Known.{Known}
use Rattle.policy.specs.Outcome.{Outcome}
use Rattle.policy.specs.declared.rule.Rule.TheVariants.{NoFrame, NoPage}
use Rattle.turns.specs.Bodies.{Inner, Outer}
use Rattle.tree_gates.specs.Tree.{check_entries, free_page, free_home, delete_child, delete_entry, delete_body}
use Rattle.swap_gates.specs.Swap.{find_free, zero_words, copy_words, fill_frame, bring_in, swap_in_home, swap_in_body, take_out, take_page, swap_out_home, swap_out_body}
use Rattle.class_model.specs.State.{State}
use Rattle.effect_laws.proofs.Good.{Good}
use Rattle.machine.specs.Machine.{ClassPart}
use Rattle.machine.specs.Stands.{names_frame}
use Rattle.effect_laws.proofs.Guards.{both, covers, may_store, frame_guard}
use Rattle.effect_laws.proofs.Paths.{InnerWithin, OuterWithin}
use Rattle.effect_laws.proofs.Refinement.{Standing}
use Rattle.effect_laws.proofs.StandFor.{tenant_guard}
use Rattle.effect_laws.proofs.GateLaws.{in_range}

module _ (c : GuardedWords) (u : SegId) where
  abbrev Within : Inner Outcome → GuardedWords → Type 0
  Within b v = InnerWithin c (both u) b v

  -- the home may be stored
  home_stored : (x : ℕ) → may_store c (both u) (HomeOf u) x ≡ true
  home_stored x = same_seg-refl u

  shown_within : (x : ℕ) (o : Outcome) (v : GuardedWords) → Within (Inner.Store (HomeOf u) x (Inner.Shows o)) v
  shown_within x o v = (home_stored x, tt)

  -- tenants are loaded, and what is found has none
  find_within : (tenant : ℕ → GuardedWord) → ((i : ℕ) → covers c (both u) (tenant i) ≡ true) → (i n : ℕ) (found : ℕ → Inner Outcome) (none : Inner Outcome) →
      ((j : ℕ) → c (tenant j) ≡ 0 → Within (found j) c) → Within none c → Within (find_free tenant i n found none) c
  find_within tenant covered i zero found none a b = b
  find_within tenant covered i (suc n) found none a b = (covered i, by_test (find_within tenant covered (i + 1) n found none a b) (c (tenant i) == 0) refl)
    where
      by_test : Within (find_free tenant (i + 1) n found none) c → (t : Bool) → (c (tenant i) == 0) ≡ t → Within (if t then found i else find_free tenant (i + 1) n found none) c
      by_test next true e = a i (eqb-true (c (tenant i)) 0 e)
      by_test next false e = next

  -- words are copied where both are guarded
  copy_within : (from to : ℕ → GuardedWord) → ((i : ℕ) → covers c (both u) (from i) ≡ true) → ((i x : ℕ) → may_store c (both u) (to i) x ≡ true) → (i n : ℕ) (rest : Inner Outcome) →
      ((v : GuardedWords) → Within rest v) → (v : GuardedWords) → Within (copy_words from to i n rest) v
  copy_within from to a b i zero rest k v = k v
  copy_within from to a b i (suc n) rest k v = (a i, (b i (v (from i)), copy_within from to a b (i + 1) n rest k (set_guarded v (to i) (v (from i)))))

  zero_within : (f : ℕ) → ((i x : ℕ) → may_store c (both u) (FrameWord f i) x ≡ true) → (i n : ℕ) (rest : Inner Outcome) → ((v : GuardedWords) → Within rest v) →
      (v : GuardedWords) → Within (zero_words f i n rest) v
  zero_within f a i zero rest k v = k v
  zero_within f a i (suc n) rest k v = (a i 0, zero_within f a (i + 1) n rest k (set_guarded v (FrameWord f i) 0))

  -- the words of a free frame, and of the segment's own
  free_words : (f i x : ℕ) → c (FrameTenant f) ≡ 0 → may_store c (both u) (FrameWord f i) x ≡ true
  free_words f i x e = ap (λ t. both u (frame_guard t)) e

  module _ (small : u.serial < 64) where
    guard_is : both u (frame_guard (seg_number u + 1)) ≡ true
    guard_is = ap (both u) (tenant_guard u small) ∙ same_seg-refl u

    own_words : (f i : ℕ) → c (FrameTenant f) ≡ seg_number u + 1 → covers c (both u) (FrameWord f i) ≡ true
    own_words f i e = ap (λ t. both u (frame_guard t)) e ∙ guard_is

    -- a free frame's tenant becomes the segment, the segment's frame becomes free
    tenant_taken : (f : ℕ) → c (FrameTenant f) ≡ 0 → may_store c (both u) (FrameTenant f) (seg_number u + 1) ≡ true
    tenant_taken f e = and_from (both u (frame_guard (c (FrameTenant f)))) (both u (frame_guard (seg_number u + 1))) (ap (λ t. both u (frame_guard t)) e) guard_is

    tenant_freed : (f : ℕ) → c (FrameTenant f) ≡ seg_number u + 1 → may_store c (both u) (FrameTenant f) 0 ≡ true
    tenant_freed f e = and_from (both u (frame_guard (c (FrameTenant f)))) true (ap (λ t. both u (frame_guard t)) e ∙ guard_is) refl

module _ (n : ℕ) (m : ℕ → ClassPart) (committed : ℕ → GuardedWords) (a : State) (n_small : n < 2 ^ 64 - 1) (good : Good n a) (agrees : Standing m committed a) (d : ℕ) where
  abbrev c0 : GuardedWords
  c0 = committed d

  tenant_is : (u : SegId) (f : ℕ) → names_frame (home_of (c0 (HomeOf u))) f ≡ true → c0 (FrameTenant f) ≡ seg_number u + 1
  tenant_is u f k = ((agrees.holds d).of_class.frames f).is u k

  module _ (k : Known) (small : k.seg.serial < 64) where
    bring_within : (page : Option ℕ) (f : ℕ) → c0 (FrameTenant f) ≡ 0 → InnerWithin c0 (both k.seg) (bring_in k page f) c0
    bring_within page f e = (tenant_taken c0 k.seg small f e, filled page)
      where
        last : Option ℕ → Inner Outcome
        last page = Inner.Store (HomeOf k.seg) (pack_home (H.Resident f page k.size)) (Inner.Shows (Outcome.Value 0))

        ends : (page : Option ℕ) (v : GuardedWords) → InnerWithin c0 (both k.seg) (last page) v
        ends page v = shown_within c0 k.seg (pack_home (H.Resident f page k.size)) (Outcome.Value 0) v

        filled : (page : Option ℕ) → InnerWithin c0 (both k.seg) (fill_frame f k.size page (last page)) (set_guarded c0 (FrameTenant f) (seg_number k.seg + 1))
        filled None = zero_within c0 k.seg f (λ i x. free_words c0 k.seg f i x e) 0 k.size (last None) (ends None) (set_guarded c0 (FrameTenant f) (seg_number k.seg + 1))
        filled (Some g) = copy_within c0 k.seg (PageWord g) (FrameWord f) (λ i. refl) (λ i x. free_words c0 k.seg f i x e) 0 k.size (last (Some g)) (ends (Some g)) (set_guarded c0 (FrameTenant f) (seg_number k.seg + 1))

    pub swap_in_within : (frames : ℕ) → OuterWithin c0 (swap_in_body frames k) c0
    swap_in_within frames = (refl, by_home (home_of (c0 (HomeOf k.seg))))
      where
        by_home : (h : Home) → InnerWithin c0 (both k.seg) (swap_in_home frames k h) c0
        by_home H.Deleted = tt
        by_home (H.Resident f page size) = tt
        by_home H.Never = find_within c0 k.seg FrameTenant (λ i. refl) 0 frames (bring_in k None) (Inner.Shows (Outcome.Refused NoFrame)) (λ j e. bring_within None j e) tt
        by_home (H.Stored g size) = find_within c0 k.seg FrameTenant (λ i. refl) 0 frames (bring_in k (Some g)) (Inner.Shows (Outcome.Refused NoFrame)) (λ j e. bring_within (Some g) j e) tt

    out_within : (f size g : ℕ) → c0 (FrameTenant f) ≡ seg_number k.seg + 1 → (v : GuardedWords) → InnerWithin c0 (both k.seg) (take_out k f size g) v
    out_within f size g e v = copy_within c0 k.seg (FrameWord f) (PageWord g) (λ i. own_words c0 k.seg small f i e) (λ i x. refl) 0 k.size
        (Inner.Store (FrameTenant f) 0 (Inner.Store (HomeOf k.seg) (pack_home (H.Stored g size)) (Inner.Shows (Outcome.Value 0))))
        (λ w. (tenant_freed c0 k.seg small f e, shown_within c0 k.seg (pack_home (H.Stored g size)) (Outcome.Value 0) (set_guarded w (FrameTenant f) 0))) v

    pub swap_out_within : (pages : ℕ) → OuterWithin c0 (swap_out_body pages k) c0
    swap_out_within pages = (refl, by_home (home_of (c0 (HomeOf k.seg))) refl)
      where
        by_page : (f size : ℕ) (page : Option ℕ) → c0 (FrameTenant f) ≡ seg_number k.seg + 1 → InnerWithin c0 (both k.seg) (swap_out_home pages k (H.Resident f page size)) c0
        by_page f size None e = find_within c0 k.seg PageTenant (λ i. refl) 0 pages (take_page k f size) (Inner.Shows (Outcome.Refused NoPage)) (λ j z. (refl, out_within f size j e (set_guarded c0 (PageTenant j) (seg_number k.seg + 1)))) tt
        by_page f size (Some g) e = out_within f size g e c0

        by_home : (h : Home) → home_of (c0 (HomeOf k.seg)) ≡ h → InnerWithin c0 (both k.seg) (swap_out_home pages k h) c0
        by_home H.Deleted e = tt
        by_home H.Never e = tt
        by_home (H.Stored g size) e = tt
        by_home (H.Resident f page size) e = by_page f size page (tenant_is k.seg f (rw e (eq-eqb f f refl)))

  module _ (u : SegId) (e : ℕ) where
    child_within : (child : SegId) → InnerWithin c0 (both child) (delete_child child u e) c0
    child_within child = (refl, by_home (home_of (c0 (HomeOf child))) refl)
      where
        ends : (v : GuardedWords) → InnerWithin c0 (both child) (Inner.Store (HomeOf child) (pack_home H.Deleted) (Inner.Store (EntryOf u e) 0 (Inner.Shows (Outcome.Value 0)))) v
        ends v = (same_seg-refl child, (refl, tt))

        by_page : (page : Option ℕ) (v : GuardedWords) → InnerWithin c0 (both child) (free_page page (Inner.Store (HomeOf child) (pack_home H.Deleted) (Inner.Store (EntryOf u e) 0 (Inner.Shows (Outcome.Value 0))))) v
        by_page None v = ends v
        by_page (Some g) v = (refl, ends (set_guarded v (PageTenant g) 0))

        by_home : (h : Home) → home_of (c0 (HomeOf child)) ≡ h →
            InnerWithin c0 (both child) (free_home h (Inner.Store (HomeOf child) (pack_home H.Deleted) (Inner.Store (EntryOf u e) 0 (Inner.Shows (Outcome.Value 0))))) c0
        by_home H.Deleted k = ends c0
        by_home H.Never k = ends c0
        by_home (H.Stored g size) k = by_page (Some g) c0
        by_home (H.Resident f page size) k =
            let named : names_frame (home_of (c0 (HomeOf child))) f ≡ true = rw k (eq-eqb f f refl) in
            (tenant_freed c0 child (in_range n m committed a n_small good agrees d child f named) f (tenant_is child f named), by_page page (set_guarded c0 (FrameTenant f) 0))

    checked_within : (child : SegId) (i j : ℕ) (rest : Outer Outcome) → OuterWithin c0 rest c0 → OuterWithin c0 (check_entries child i j rest) c0
    checked_within child i zero rest k = k
    checked_within child i (suc j) rest k = (refl, by_test (checked_within child (i + 1) j rest k) (is_some (entry_of (c0 (EntryOf child i)))))
      where
        by_test : OuterWithin c0 (check_entries child (i + 1) j rest) c0 → (t : Bool) → OuterWithin c0 (if t then Outer.Shows (Outcome.Refused Rattle.policy.specs.declared.rule.Rule.TheVariants.NotEmpty) else check_entries child (i + 1) j rest) c0
        by_test next true = tt
        by_test next false = next

    pub delete_within : OuterWithin c0 (delete_body d u e) c0
    delete_within = (refl, by_entry (entry_of (c0 (EntryOf u e))))
      where
        by_class : (t : Bool) (x : Alias) → OuterWithin c0 (if t then check_entries (seg d x.serial) 0 8 (Outer.Enter (seg d x.serial) (delete_child (seg d x.serial) u e)) else Outer.Store (EntryOf u e) 0 (Outer.Shows (Outcome.Value 0))) c0
        by_class true x = checked_within (seg d x.serial) 0 8 (Outer.Enter (seg d x.serial) (delete_child (seg d x.serial) u e)) (child_within (seg d x.serial))
        by_class false x = (refl, tt)

        by_entry : (o : Option Alias) → OuterWithin c0 (delete_entry d u e o) c0
        by_entry None = tt
        by_entry (Some x) = by_class (x.class == d) x
