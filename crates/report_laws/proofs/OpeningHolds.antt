-- The guarded words of the opening hold what the cells of the opening are.
use Rattle.std.proofs.Common.{ℕ, zero, suc, ◌+◌, ◌<◌, ◌≤◌, ◌≢◌, true, ◌&&◌, List, [], ◌∷◌, ◌≡◌, refl, sym, ap, subst, ◌∙◌, Option, Some, None, arith, length, map}
use Rattle.std.proofs.lemmas.Bool.{and_parts, and_from, eqb-true, eq-eqb, lt-ltb, le-leb, leb-true}
use Rattle.std.specs.Prelude.{◌==◌, nat_le, slice_get, slice_index, is_some}
use Rattle.std.specs.List.{find}
use Rattle.std.specs.Option.{option_map, option_map_or, option_and_then}
use Rattle.lists.specs.Lists.{numbers_from}
use Rattle.rings.specs.Brackets.{in_order}
use Rattle.words_layout.specs.Coding.{home_of, entry_of, pack_alias, alias_in_range, size_in_range, home_in_range}
use Rattle.words_layout.proofs.CodingLaws.{home_of-pack_home, entry_of-pack_entry}
use Rattle.words_layout.specs.Segments.{seg_number, same_seg}
use Rattle.words_layout.specs.Words.{PageTenant, PageWord}
use Rattle.words_layout.specs.declared.coding.Alias.{Alias}
use Rattle.words_layout.specs.declared.coding.Home.{Home}
use Rattle.words_layout.specs.declared.coding.Home.TheVariants as H
use Rattle.words_layout.specs.declared.segment.SegId.{SegId}
use Rattle.class_model.specs.Config.{Config, SegRecord, pool_of, shared_of}
use Rattle.class_model.specs.Run.{alias_of, kept_of, opening_cell, opening_entry, opening_home, opening_part}
use Rattle.class_model.specs.State.{entry_at}
use Rattle.machine.specs.Opening.{paged, page_size, opening_guarded, opening_home_word, opening_page}
use Rattle.machine.specs.Reading.{words_from}
use Rattle.machine.specs.Stands.{ClassHolds, SegmentHolds, StoredHolds, HomeHolds, Holds, names_frame, names_page}
use Rattle.flow_laws.proofs.Lists.{filtered_at}
use Rattle.flow_laws.proofs.LowValid.{seg_is}
use Rattle.report_laws.proofs.Paged.{find_true, PositionIs, position_is, position_none, position_of, get_within, find_passes, apart_filter, kept_found}
use Rattle.report_laws.proofs.Recorded.{FitRecords, IsSmall, is_small, small_record}

-- the words of a list, read by their places
read_words : (at : ℕ → ℕ) (ws : List ℕ) (a : ℕ) → ((i : ℕ) → at (a + i) ≡ slice_index ws i) → map at (numbers_from a (length ws)) ≡ ws
read_words at [] a each = refl
read_words at (w ∷ ws) a each =
    ap (λ x. x ∷ map at (numbers_from (a + 1) (length ws))) first
    ∙ ap (λ xs. w ∷ xs) (read_words at ws (a + 1) (λ i. next i ∙ each (suc i)))
  where
    first : at a ≡ w
    first = let z : a ≡ a + 0 = omega arith in ap at z ∙ each 0

    next : (i : ℕ) → at (a + 1 + i) ≡ at (a + suc i)
    next i = let z : a + 1 + i ≡ a + suc i = omega arith in ap at z

module _ (k : Config) (fit : FitRecords k) (d : ℕ) where
  -- a page that is there is that of a small record of the class, with kept words
  pub record IsPage (g : ℕ) (r : SegRecord) : Type 0 where
    pub small : IsSmall (length k.table) r
    pub below_32 : g < 32
    pub in_pool : g < (pool_of (shared_of k) d).pages
    pub words : List ℕ
    pub kept : r.kept ≡ Some words
    pub size : length words ≡ r.size

  is_page : (g : ℕ) (r : SegRecord) → slice_get (paged k d) g ≡ Some r → IsPage g r
  is_page g r h =
      let passes = filtered_at (small_record (length k.table)) (λ (r : SegRecord). r.class == d && is_some r.kept) k.records g r fit.small h in
      let small : IsSmall (length k.table) r = is_small (length k.table) r passes.0 in
      let both : ((r.class == d) ≡ true) × (is_some r.kept ≡ true) = and_parts _ _ passes.1 in
      let within : g < length (paged k d) = get_within (paged k d) g r h in
      let pages = fit.pages d in let limit = fit.limit d in
      by_kept small (omega (arith, within, pages, limit)) (omega (arith, within, pages)) r.kept refl both.1 small.kept
    where
      by_kept : IsSmall (length k.table) r → g < 32 → g < (pool_of (shared_of k) d).pages → (o : Option (List ℕ)) → r.kept ≡ o → is_some o ≡ true → option_map_or (λ (words : List ℕ). length words == r.size) o true ≡ true → IsPage g r
      by_kept small few there None e s t = cc
      by_kept small few there (Some ws) e s t = record { small = small; below_32 = few; in_pool = there; words = ws; kept = e; size = eqb-true (length ws) r.size t }

  -- the home of a page, if there is one
  abbrev home_for : Option ℕ → Home
  home_for None = H.Never
  home_for (Some g) = H.Stored g (page_size k d g)

  home_is : (u : SegId) (o : Option ℕ) → opening_page k d u ≡ o → home_of (opening_home_word k d u) ≡ home_for o
  home_is u None e = rw e refl
  home_is u (Some g) e =
      let p : PositionIs (λ (r : SegRecord). same_seg r.seg u) (paged k d) g = position_is (λ (r : SegRecord). same_seg r.seg u) (paged k d) g e in
      let page : IsPage g p.item = is_page g p.item p.there in
      let size : page_size k d g ≡ p.item.size = ap (λ o. option_map_or (λ (r : SegRecord). r.size) o 0) p.there in
      let range : home_in_range (H.Stored g (page_size k d g)) ≡ true = and_from _ _ (lt-ltb g 32 page.below_32) (ap size_in_range size ∙ page.small.size) in
      rw e (home_of-pack_home (H.Stored g (page_size k d g)) range)

  kept_is : (u : SegId) → kept_of k d u ≡ option_and_then (λ (r : SegRecord). r.kept) (find (λ (r : SegRecord). same_seg r.seg u) (paged k d))
  kept_is u = kept_found d u k.records fit.apart

  none_kept : (u : SegId) → opening_page k d u ≡ None → kept_of k d u ≡ None
  none_kept u e = kept_is u ∙ ap (option_and_then (λ (r : SegRecord). r.kept)) (position_none (λ (r : SegRecord). same_seg r.seg u) (paged k d) e)

  page_kept : (u : SegId) (g : ℕ) → opening_page k d u ≡ Some g → kept_of k d u ≡ Some (words_from (λ i. opening_guarded k d (PageWord g i)) (page_size k d g))
  page_kept u g e =
      let p : PositionIs (λ (r : SegRecord). same_seg r.seg u) (paged k d) g = position_is (λ (r : SegRecord). same_seg r.seg u) (paged k d) g e in
      let page : IsPage g p.item = is_page g p.item p.there in
      let ws : List ℕ = page.words in
      let size : page_size k d g ≡ length page.words = ap (λ o. option_map_or (λ (r : SegRecord). r.size) o 0) p.there ∙ sym page.size in
      let each : (i : ℕ) → opening_guarded k d (PageWord g (0 + i)) ≡ slice_index page.words i =
      λ i. (let z : 0 + i ≡ i = omega arith in
      ap (λ o. option_map_or (λ words. slice_index words (0 + i)) (option_and_then (λ (r : SegRecord). r.kept) o) 0) p.there
      ∙ ap (λ o. option_map_or (λ words. slice_index words (0 + i)) o 0) page.kept ∙ ap (slice_index page.words) z) in
      kept_is u ∙ ap (option_and_then (λ (r : SegRecord). r.kept)) p.found ∙ page.kept
      ∙ ap Some (sym (read_words (λ i. opening_guarded k d (PageWord g i)) page.words 0 each) ∙ ap (λ n. words_from (λ i. opening_guarded k d (PageWord g i)) n) (sym size))

  stored_holds : (u : SegId) (o : Option ℕ) → opening_page k d u ≡ o → StoredHolds (opening_guarded k d) (home_for o) (kept_of k d u)
  stored_holds u None e = none_kept u e
  stored_holds u (Some g) e = page_kept u g e

  home_holds : (u : SegId) (o : Option ℕ) → opening_page k d u ≡ o → HomeHolds (opening_guarded k d) (home_for o) (opening_home (kept_of k d u))
  home_holds u None e = ap opening_home (none_kept u e)
  home_holds u (Some g) e = ap opening_home (page_kept u g e)

  -- ---- entries

  -- an entry of the opening is that of a small record
  pub record IsEntry (e : ℕ) (a : Alias) : Type 0 where
    pub of_one : SegRecord
    pub small : IsSmall (length k.table) of_one
    pub place : of_one.entry ≡ e
    pub is : alias_of of_one ≡ a

  is_entry : (u : SegId) (e : ℕ) (a : Alias) → opening_entry k d u e ≡ Some a → IsEntry e a
  is_entry u e a h = by_found (find (λ (r : SegRecord). r.seg.mentor == d && same_seg r.mentor u && r.entry == e) k.records) refl h
    where
      by_found : (o : Option SegRecord) → find (λ (r : SegRecord). r.seg.mentor == d && same_seg r.mentor u && r.entry == e) k.records ≡ o → option_map alias_of o ≡ Some a → IsEntry e a
      by_found None f g = cc
      by_found (Some r) f g =
          let passes : (r.seg.mentor == d && same_seg r.mentor u && r.entry == e) ≡ true = find_true (λ (r : SegRecord). r.seg.mentor == d && same_seg r.mentor u && r.entry == e) k.records r f in
          let last = and_parts _ (r.entry == e) passes in
          let same : alias_of r ≡ a = cc in
          record {
            of_one = r;
            small = is_small (length k.table) r (find_passes (λ (r : SegRecord). r.seg.mentor == d && same_seg r.mentor u && r.entry == e) (small_record (length k.table)) k.records r fit.small f);
            place = eqb-true r.entry e last.1;
            is = same;
          }

  alias_range : (r : SegRecord) → IsSmall (length k.table) r → alias_in_range (alias_of r) ≡ true
  alias_range r s =
      let b = and_parts (nat_le r.brackets.r1 r.brackets.r2 && nat_le r.brackets.r2 r.brackets.r3) (nat_le r.brackets.r3 7) s.in_order in
      let c = and_parts (nat_le r.brackets.r1 r.brackets.r2) (nat_le r.brackets.r2 r.brackets.r3) b.0 in
      let r12 : r.brackets.r1 ≤ r.brackets.r2 = leb-true _ _ c.0 in
      let r23 : r.brackets.r2 ≤ r.brackets.r3 = leb-true _ _ c.1 in
      let r37 : r.brackets.r3 ≤ 7 = leb-true _ _ b.1 in
      let class = s.class in let few = fit.few in
      and_from _ _ (and_from _ _ (and_from _ _ (and_from _ _ (and_from _ _ (lt-ltb r.class 16 (omega (arith, class, few))) (le-leb r.brackets.r1 7 (omega (arith, r12, r23, r37))))
      (le-leb r.brackets.r2 7 (omega (arith, r23, r37)))) (le-leb r.brackets.r3 7 r37)) s.size) (lt-ltb r.seg.serial 64 s.serial)

  entry_read : (u : SegId) (e : ℕ) → entry_of (pack_alias (opening_entry k d u e)) ≡ opening_entry k d u e
  entry_read u e = by_entry (opening_entry k d u e) refl
    where
      by_entry : (o : Option Alias) → opening_entry k d u e ≡ o → entry_of (pack_alias o) ≡ o
      by_entry None h = refl
      by_entry (Some a) h = let i : IsEntry e a = is_entry u e a h in
          entry_of-pack_entry a (subst (λ x. alias_in_range x ≡ true) i.is (alias_range i.of_one i.small))

  entry_past : (u : SegId) (e : ℕ) → 8 ≤ e → opening_entry k d u e ≡ None
  entry_past u e past = by_entry (opening_entry k d u e) refl
    where
      by_entry : (o : Option Alias) → opening_entry k d u e ≡ o → o ≡ None
      by_entry None h = refl
      by_entry (Some a) h = let i : IsEntry e a = is_entry u e a h in let small = i.small.entry in let place = i.place in absurd (omega (arith, small, place, past))

  entry_there : (u : SegId) (e : ℕ) → opening_entry k d u e ≡ entry_at (opening_cell k d u) e
  entry_there u zero = refl
  entry_there u (suc zero) = refl
  entry_there u (suc (suc zero)) = refl
  entry_there u (suc (suc (suc zero))) = refl
  entry_there u (suc (suc (suc (suc zero)))) = refl
  entry_there u (suc (suc (suc (suc (suc zero))))) = refl
  entry_there u (suc (suc (suc (suc (suc (suc zero)))))) = refl
  entry_there u (suc (suc (suc (suc (suc (suc (suc zero))))))) = refl
  entry_there u (suc (suc (suc (suc (suc (suc (suc (suc e)))))))) = entry_past u (suc (suc (suc (suc (suc (suc (suc (suc e)))))))) (omega arith)

  -- ---- frames and pages

  no_frame : (o : Option ℕ) (f : ℕ) → names_frame (home_for o) f ≡ true → ⊥
  no_frame None f h = cc
  no_frame (Some g) f h = cc

  names_no_frame : (u : SegId) (f : ℕ) → names_frame (home_of (opening_home_word k d u)) f ≡ true → ⊥
  names_no_frame u f h = no_frame (opening_page k d u) f (ap (λ z. names_frame z f) (sym (home_is u (opening_page k d u) refl)) ∙ h)

  names_its_page : (u : SegId) (g : ℕ) → names_page (home_of (opening_home_word k d u)) g ≡ true → opening_page k d u ≡ Some g
  names_its_page u g h = by_page (opening_page k d u) refl (ap (λ z. names_page z g) (sym (home_is u (opening_page k d u) refl)) ∙ h)
    where
      by_page : (o : Option ℕ) → opening_page k d u ≡ o → names_page (home_for o) g ≡ true → opening_page k d u ≡ Some g
      by_page None e n = cc
      by_page (Some f) e n = e ∙ ap Some (eqb-true f g n)

  page_in_pool : (u : SegId) (g : ℕ) → names_page (home_of (opening_home_word k d u)) g ≡ true → g < (pool_of (shared_of k) d).pages
  page_in_pool u g h =
      let p : PositionIs (λ (r : SegRecord). same_seg r.seg u) (paged k d) g = position_is (λ (r : SegRecord). same_seg r.seg u) (paged k d) g (names_its_page u g h) in
      (is_page g p.item p.there).in_pool

  tenant_is : (g : ℕ) (u : SegId) → names_page (home_of (opening_home_word k d u)) g ≡ true → opening_guarded k d (PageTenant g) ≡ seg_number u + 1
  tenant_is g u h =
      let p : PositionIs (λ (r : SegRecord). same_seg r.seg u) (paged k d) g = position_is (λ (r : SegRecord). same_seg r.seg u) (paged k d) g (names_its_page u g h) in
      ap (λ o. option_map_or (λ (r : SegRecord). seg_number r.seg + 1) o 0) p.there ∙ ap (λ z. seg_number z + 1) (seg_is p.item.seg u p.passes)

  tenant_of_one : (g : ℕ) → opening_guarded k d (PageTenant g) ≢ 0 → (u : SegId) × (names_page (home_of (opening_home_word k d u)) g ≡ true)
  tenant_of_one g ne = by_page (slice_get (paged k d) g) refl ne
    where
      by_page : (o : Option SegRecord) → slice_get (paged k d) g ≡ o → option_map_or (λ (r : SegRecord). seg_number r.seg + 1) o 0 ≢ 0 → (u : SegId) × (names_page (home_of (opening_home_word k d u)) g ≡ true)
      by_page None e n = absurd (n refl)
      by_page (Some r) e n =
          let place : opening_page k d r.seg ≡ Some g = position_of (paged k d) g r (apart_filter (λ (r : SegRecord). r.class == d && is_some r.kept) k.records fit.apart) e in
          (r.seg, ap (λ z. names_page z g) (home_is r.seg (Some g) place) ∙ eq-eqb g g refl)

  -- ---- the part

  pub opening_class_holds : ClassHolds (pool_of (shared_of k) d) (opening_guarded k d) (opening_part k d)
  opening_class_holds = record {
    next_serial = refl;
    entries = λ u e. entry_read u e ∙ entry_there u e;
    stored = λ u. subst (λ h. StoredHolds (opening_guarded k d) h (kept_of k d u)) (sym (home_is u (opening_page k d u) refl)) (stored_holds u (opening_page k d u) refl);
    frames_below = λ u f h. absurd (names_no_frame u f h);
    pages_below = page_in_pool;
    frames = λ f. record { is = λ u h. absurd (names_no_frame u f h); of_one = λ n. absurd (n refl) };
    pages = λ g. record { is = tenant_is g; of_one = tenant_of_one g };
  }

  pub opening_segment_holds : (u : SegId) → SegmentHolds (opening_guarded k d) u (opening_cell k d u)
  opening_segment_holds u = record {
    home = subst (λ h. HomeHolds (opening_guarded k d) h (opening_home (kept_of k d u))) (sym (home_is u (opening_page k d u) refl)) (home_holds u (opening_page k d u) refl);
    writes = refl;
  }

  -- the words of the opening hold what its part is
  pub opening_holds : Holds (pool_of (shared_of k) d) (opening_guarded k d) (opening_part k d)
  opening_holds = record { of_class = opening_class_holds; of_segments = opening_segment_holds }
