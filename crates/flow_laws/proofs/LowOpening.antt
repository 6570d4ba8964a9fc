-- At the opening, what is at or below a class is the same for a configuration and for its part at or below the class.
use Rattle.std.proofs.Common.{ℕ, ◌+◌, Bool, true, false, ◌&&◌, List, [], ◌∷◌, ◌≡◌, refl, sym, ap, ◌∙◌, Option, Some, None, map, max}
use Rattle.std.proofs.lemmas.Bool.{and_parts, eqb-true, both_ways}
use Rattle.std.specs.Prelude.{◌==◌, if◌then◌else◌, is_some, slice_get, slice_index}
use Rattle.std.specs.List.{list_all, position}
use Rattle.std.specs.Option.{option_map, option_map_or, option_and_then}
use Rattle.lists.specs.Lists.{below}
use Rattle.labels.specs.Label.{at_or_below}
use Rattle.labels.proofs.Order.{flows_trans}
use Rattle.words_layout.specs.Coding.{pack_home, pack_alias}
use Rattle.words_layout.specs.Segments.{seg_number, same_seg}
use Rattle.words_layout.specs.Words.{GuardedWord, GuardedWords, NextSerial, HomeOf, WritesOf, EntryOf, FrameTenant, FrameWord, PageTenant, PageWord}
use Rattle.words_layout.specs.declared.coding.Home.TheVariants as H
use Rattle.words_layout.specs.declared.segment.SegId.{SegId}
use Rattle.class_model.specs.Config.{Config, Script, Gate, ProcessLine, SegRecord, shared_of, low_shared, low_config, low_record, kept_below}
use Rattle.class_model.specs.Process.{Process, new_process}
use Rattle.class_model.specs.Run.{alias_of, opening_entry, opening_serial, opening_slots}
use Rattle.class_model.specs.Valid.{record_ok}
use Rattle.machine.specs.Machine.{ClassPart, VirtualProcessor}
use Rattle.machine.specs.Low.{low_part}
use Rattle.machine.specs.Opening.{paged, opening_guarded, opening_words, opening_vp, at_rest, opening}
use Rattle.flow_laws.proofs.Lists.{passed, filter_through, picked, find_through, gone_on, fold_through, filter_filter}
use Rattle.flow_laws.proofs.Records.{is_record}
use Rattle.flow_laws.proofs.Unwinding.{SameLow, low_part_same}

-- a number that isn't low isn't one that is
apart : (low : ℕ → Bool) (x d : ℕ) → low d ≡ true → low x ≡ false → (x == d) ≡ false
apart low x d h e = elim (x == d) as (λ b. (x == d) ≡ b → b ≡ false) [
  | true ↦ λ g. absurd (both_ways _ e (ap low (eqb-true x d g) ∙ h))
  | false ↦ λ g. refl
] refl

module _ (k : Config) (c : ℕ) where
  abbrev low : ℕ → Bool
  low x = at_or_below k.table x c

  abbrev less : Config
  less = low_config c k

  -- ---- what no step changes

  twice : {X : Type 0} (class : X → ℕ) (o : Option X) → kept_below class low (kept_below class low o) ≡ kept_below class low o
  twice class None = refl
  twice class (Some x) = elim (low (class x)) as (λ b. low (class x) ≡ b → kept_below class low (if b then Some x else None) ≡ (if b then Some x else None)) [
    | true ↦ λ e. rw e refl
    | false ↦ λ e. refl
  ] refl

  all_twice : {X : Type 0} (class : X → ℕ) (xs : List (Option X)) → map (kept_below class low) (map (kept_below class low) xs) ≡ map (kept_below class low) xs
  all_twice class [] = refl
  all_twice class (x ∷ xs) = ap (λ y. y ∷ map (kept_below class low) (map (kept_below class low) xs)) (twice class x) ∙ ap (λ ys. kept_below class low x ∷ ys) (all_twice class xs)

  shared_less : low_shared c (shared_of k) ≡ low_shared c (shared_of less)
  shared_less =
      ap (λ (x : List (Option Script)). record (low_shared c (shared_of k)) { scripts = x }) (sym (all_twice (λ (x : Script). x.class) k.scripts))
      ∙ ap (λ (x : List (Option Gate)). record (low_shared c (shared_of less)) { gates = x }) (sym (all_twice (λ (x : Gate). x.class) k.gates))

  -- a record, if its mentor is low
  abbrev lowered : Bool → SegRecord → Option SegRecord
  lowered b r = if b then Some (record r { kept = if low r.class then r.kept else None }) else None

  module _ (d : ℕ) (d_c : low d ≡ true) where
    -- ---- the records

    abbrev serial_by : ℕ → SegRecord → ℕ
    serial_by n r = if r.seg.mentor == d then max n (r.seg.serial + 1) else n

    serial_less : opening_serial k d ≡ opening_serial less d
    serial_less = sym (fold_through serial_by (low_record low) each k.records (if d == 0 then 1 else 0))
      where
        each : (n : ℕ) (r : SegRecord) → gone_on serial_by n (low_record low r) ≡ serial_by n r
        each n r = by_test (low r.seg.mentor) refl
          where
            by_test : (b : Bool) → low r.seg.mentor ≡ b →
                gone_on serial_by n (lowered b r)
                ≡ serial_by n r
            by_test true e = refl
            by_test false e = rw (apart low r.seg.mentor d d_c e) refl

    abbrev stands_at : SegId → ℕ → SegRecord → Bool
    stands_at u e r = r.seg.mentor == d && same_seg r.mentor u && r.entry == e

    entry_less : (u : SegId) (e : ℕ) → opening_entry k d u e ≡ opening_entry less d u e
    entry_less u e = sym (find_through alias_of (stands_at u e) (low_record low) each k.records)
      where
        each : (r : SegRecord) → picked alias_of (stands_at u e) (low_record low r) ≡ picked alias_of (stands_at u e) (Some r)
        each r = by_test (low r.seg.mentor) refl
          where
            by_test : (b : Bool) → low r.seg.mentor ≡ b →
                picked alias_of (stands_at u e) (lowered b r)
                ≡ picked alias_of (stands_at u e) (Some r)
            by_test true f = refl
            by_test false f = rw (apart low r.seg.mentor d d_c f) refl

    -- a kept record of the class
    abbrev is_paged : SegRecord → Bool
    is_paged r = r.class == d && is_some r.kept

    paged_less : list_all (record_ok k) k.records ≡ true → paged less d ≡ paged k d
    paged_less ok = filter_through (record_ok k) is_paged (low_record low) each k.records ok
      where
        not_both : (x y : Bool) → x ≡ false → (x && y) ≡ false
        not_both false y e = refl
        not_both true y e = cc

        gone : (x y : Bool) → y ≡ false → (x && y) ≡ false
        gone true false e = refl
        gone false y e = refl
        gone true true e = cc

        -- whatever the class of the record: the words are kept, or there were none of this class
        by_class : (r : SegRecord) (b : Bool) → low r.class ≡ b → passed is_paged (Some (record r { kept = if b then r.kept else None })) ≡ passed is_paged (Some r)
        by_class r true e = refl
        by_class r false e = let other : (r.class == d) ≡ false = apart low r.class d d_c e in rw other refl

        by_mentor : (r : SegRecord) → record_ok k r ≡ true → (b : Bool) → low r.seg.mentor ≡ b → passed is_paged (lowered b r) ≡ passed is_paged (Some r)
        by_mentor r v true e = by_class r (low r.class) refl
        by_mentor r v false e =
            let above : low r.class ≡ false = elim (low r.class) as (λ x. low r.class ≡ x → x ≡ false) [
              | true ↦ λ g. absurd (both_ways _ e (flows_trans k.table r.seg.mentor r.class c (is_record k r v).flows_up g))
              | false ↦ λ g. refl
            ] refl in
            let other : (r.class == d) ≡ false = apart low r.class d d_c above in rw other refl

        each : (r : SegRecord) → record_ok k r ≡ true → passed is_paged (low_record low r) ≡ passed is_paged (Some r)
        each r v = by_mentor r v (low r.seg.mentor) refl

    -- ---- the words

    -- what the words say of pages, by the kept records
    abbrev home_by : List SegRecord → SegId → ℕ
    home_by ps u = option_map_or (λ g. pack_home (H.Stored g (option_map_or (λ (r : SegRecord). r.size) (slice_get ps g) 0))) (position (λ (r : SegRecord). same_seg r.seg u) ps) 0

    abbrev tenant_by : List SegRecord → ℕ → ℕ
    tenant_by ps g = option_map_or (λ (r : SegRecord). seg_number r.seg + 1) (slice_get ps g) 0

    abbrev word_by : List SegRecord → ℕ → ℕ → ℕ
    word_by ps g i = option_map_or (λ words. slice_index words i) (option_and_then (λ (r : SegRecord). r.kept) (slice_get ps g)) 0

    module _ (ok : list_all (record_ok k) k.records ≡ true) where
      guarded_less : (w : GuardedWord) → opening_guarded k d w ≡ opening_guarded less d w
      guarded_less NextSerial = serial_less
      guarded_less (HomeOf u) = ap (λ ps. home_by ps u) (sym (paged_less ok))
      guarded_less (WritesOf u) = refl
      guarded_less (EntryOf u e) = ap pack_alias (entry_less u e)
      guarded_less (FrameTenant f) = refl
      guarded_less (FrameWord f i) = refl
      guarded_less (PageTenant g) = ap (λ ps. tenant_by ps g) (sym (paged_less ok))
      guarded_less (PageWord g i) = ap (λ ps. word_by ps g i) (sym (paged_less ok))

      -- ---- the processes

      slots_less : (p : ℕ) → opening_slots k d p ≡ opening_slots less d p
      slots_less p = ap (λ (ls : List ProcessLine). map (λ i. option_map (λ (l : ProcessLine). new_process d l.script l.ring 0) (slice_get ls i)) (below 4))
          (sym (filter_filter (λ (l : ProcessLine). l.processor == p && l.class == d) (λ (l : ProcessLine). low l.class) is_low k.processes))
        where
          is_low : (l : ProcessLine) → (l.processor == p && l.class == d) ≡ true → low l.class ≡ true
          is_low l e = let a : ((l.processor == p) ≡ true) × ((l.class == d) ≡ true) = and_parts _ _ e in
              ap low (eqb-true l.class d a.1) ∙ d_c

      abbrev vp_with : List (Option Process) → VirtualProcessor
      vp_with slots = record { slots = map (option_map at_rest) slots; current = 0; lines = [] }

      abbrev part_with : GuardedWords → (ℕ → VirtualProcessor) → ClassPart
      part_with w f = record { words = record (opening_words k d) { guarded = w }; vp = f }

      part_less : (opening k).part d ≡ (opening less).part d
      part_less = ap (λ (w : GuardedWords). part_with w (opening_vp k d)) (λ i w. guarded_less w i)
          ∙ ap (part_with (opening_guarded less d)) (λ i p. vp_with (slots_less p i))

  pub opening_same_low : list_all (record_ok k) k.records ≡ true → SameLow c (opening k) (opening less)
  opening_same_low ok = record { shared = shared_less; parts = λ d low_d. part_less d low_d ok }

  -- the opening machines agree at or below the class
  pub opening_low_part : list_all (record_ok k) k.records ≡ true → low_part c (opening k) ≡ low_part c (opening less)
  opening_low_part ok = low_part_same c (opening k) (opening less) (opening_same_low ok)
