-- The volumes that a run leaves load again.
use Rattle.std.proofs.Common.{ℕ, zero, suc, ◌+◌, ◌≤◌, ◌<◌, ◌^◌, Bool, true, false, not, ◌&&◌, List, [], ◌∷◌, ◌++◌, ◌≡◌, ◌⊎◌, inl, inr, refl, sym, ap, subst, ◌∙◌, Option, Some, None, arith, length, map}
use Rattle.std.specs.Prelude.{◌==◌, if◌then◌else◌, nat_le, nat_lt, count_by, slice_index, Contains}
use Rattle.std.specs.List.{AllByRecursion, find, list_all, list_any}
use Rattle.std.specs.Option.{option_map_or}
use Rattle.std.proofs.lemmas.Bool.{and_parts, both_ways, cases_eq, eqb-true, eq-eqb, false_from_ne_true, leb-true, ltb-true, or_left, or_right}
use Rattle.lists.specs.Lists.{numbers_from}
use Rattle.text_lines.specs.Faults.{HasNoCode}
use Rattle.text_lines.proofs.FirstFault.{has_no_code}
use Rattle.words_layout.specs.Segments.{seg, same_seg}
use Rattle.words_layout.proofs.Names.{same_seg-true, same_seg-refl}
use Rattle.config_text.specs.declared.config.Config.{Config as ConfigText}
use Rattle.config_text.specs.declared.config.Pool.{Pool as PoolText}
use Rattle.class_model.specs.Config.{Config, SegRecord, Shared, pool_of, shared_of}
use Rattle.class_model.specs.Process.{ProcName}
use Rattle.class_model.specs.Run.{run}
use Rattle.class_model.specs.State.{State, pages_in_use}
use Rattle.class_model.specs.Valid.{IsConfig, is_root, first_record}
use Rattle.class_model.specs.Volume.{volume_of, volume}
use Rattle.volume_image.specs.Valid.{IsVolume}
use Rattle.machine.specs.Opening.{opening, effects}
use Rattle.loader.specs.Configuration.{configuration}
use Rattle.loader.specs.Records.{AreVolumes, Loads, Ascend, records_of, numbers_of, named_by, names_volume, same_entry, mentor_right, is_kept, tests_at, no_record, volume_at, record_at, before}
use Rattle.loader.proofs.NamedVolumes.{named_yes, named_no}
use Rattle.loader.proofs.Records.{loaded_config}
use Rattle.end_volumes.specs.After.{tree_of_state, origin, record_of}
use Rattle.end_volumes.specs.declared.origins.Origin.{Origin}
use Rattle.effect_laws.proofs.Good.{Good}
use Rattle.effect_laws.proofs.StandsAfter.{good_run}
use Rattle.volume_laws.specs.Sound.{HasWords}
use Rattle.volume_laws.proofs.Members.{Has, has_left, has_flat, of_flat, has_map, of_map, has_filter, of_filter, find_some, find_none, has_numbers, of_numbers}
use Rattle.volume_laws.proofs.Single.{Placed}
use Rattle.volume_laws.proofs.Steps.{placed_run}
use Rattle.volume_laws.proofs.Valid.{run_shared}
use Rattle.volume_laws.proofs.Ended.{words_agree}
use Rattle.volume_laws.proofs.Loaded.{effects_few, loaded_words}
use Rattle.volume_laws.proofs.Sound.{volumes_are_valid}
use Rattle.volume_reload.specs.Reload.{LoadsAgain, WordsLoadAgain, numbers_named, volumes_after, volumes_told}
use Rattle.volume_reload.proofs.Pages.{pages_fit}
use Rattle.volume_reload.proofs.Members.{of_contains, to_contains, ascend_filter, ascend_above, count_append, count_none, any_none, Apart, apart_append, apart_records, apart_before, IsSplit, split_at, has_at}
use Rattle.volume_reload.proofs.After.{IsIn, HasMentor, of_volume, to_volume, one_volume, one_entry, mentor_is, kept_few}

-- ---- numbers of volumes

named_pool : (pools : List PoolText) (c : ℕ) → not (slice_index (map (λ (p : PoolText). p.volume) pools) c == 0) ≡ true →
    list_any (λ (p : PoolText). p.volume == slice_index (map (λ (p : PoolText). p.volume) pools) c) pools ≡ true
named_pool [] c h = cc
named_pool (p ∷ pools) zero h = or_left _ _ (eq-eqb p.volume p.volume refl)
named_pool (p ∷ pools) (suc c) h = or_right _ _ (named_pool pools c h)

low_at : (ns : List ℕ) (c : ℕ) → list_all (λ v. nat_le v 4) ns ≡ true → slice_index ns c ≤ 4
low_at [] c h = omega arith
low_at (n ∷ ns) zero h = leb-true n 4 (and_parts (nat_le n 4) _ h).0
low_at (n ∷ ns) (suc c) h = low_at ns c (and_parts (nat_le n 4) _ h).1

some_origin : (x y : Origin) → Some x ≡ Some y → x ≡ y
some_origin x y e = cc

not_zero : (n : ℕ) → not (n == 0) ≡ true → 1 ≤ n
not_zero zero h = cc
not_zero (suc n) h = omega arith

module _ (k : ConfigText) (all : List SegRecord) (names : List ProcName) (valid : IsConfig (configuration k all)) (words : HasWords (configuration k all)) (few : length names < 2 ^ 64) where
  abbrev config : Config
  config = configuration k all

  abbrev a : State
  a = run (configuration k all) names

  good : Good (length names) (run (configuration k all) names)
  good = good_run (configuration k all) valid names

  placed : Placed (run (configuration k all) names)
  placed = placed_run (configuration k all) valid names

  -- a number with its volume
  abbrev left : ℕ → ℕ × List SegRecord
  left v = (v, volume (configuration k all) v (run (configuration k all) names))

  abbrev In : ℕ → SegRecord → Type 0
  In v r = IsIn (configuration k all) (length names) (run (configuration k all) names) good placed v r

  is_in : (v : ℕ) (r : SegRecord) → Has r (volume (configuration k all) v (run (configuration k all) names)) → In v r
  is_in v r h = of_volume (configuration k all) (length names) (run (configuration k all) names) good placed v r h

  -- ---- the volumes

  numbers_left : (ns : List ℕ) → numbers_of (map left ns) ≡ ns
  numbers_left [] = refl
  numbers_left (n ∷ ns) = ap (λ ms. n ∷ ms) (numbers_left ns)

  one_valid : (v : ℕ) → IsVolume k.table (volume (configuration k all) v (run (configuration k all) names))
  one_valid v = volumes_are_valid (configuration k all) names v valid words few

  all_valid : (ns : List ℕ) → AllByRecursion (λ (v : ℕ × List SegRecord). IsVolume k.table v.1) (map left ns)
  all_valid [] = tt
  all_valid (n ∷ ns) = (one_valid n, all_valid ns)

  of_records : (ns : List ℕ) (x : SegRecord) → Has x (records_of (map left ns)) → (n : ℕ) × Has n ns × Has x (volume (configuration k all) n (run (configuration k all) names))
  of_records ns x h =
      let f = of_flat (λ (v : ℕ × List SegRecord). v.1) (map left ns) x h in
      let m = of_map left ns f.0 f.1 in
      (m.0, m.1, subst (λ (v : ℕ × List SegRecord). Has x v.1) (sym m.2) f.2)

  to_records : (ns : List ℕ) (n : ℕ) (x : SegRecord) → Has n ns → Has x (volume (configuration k all) n (run (configuration k all) names)) → Has x (records_of (map left ns))
  to_records ns n x h g = has_flat (λ (v : ℕ × List SegRecord). v.1) (map left ns) (left n) x (has_map left ns n h) g

  all_apart : (b : ℕ) (ns : List ℕ) → Ascend b ns → Apart (records_of (map left ns))
  all_apart b [] up = tt
  all_apart b (n ∷ ns) up = apart_append (volume (configuration k all) n (run (configuration k all) names)) (records_of (map left ns))
      (apart_records k.table (seg 0 0) (volume (configuration k all) n (run (configuration k all) names)) (one_valid n).records)
      (all_apart n ns up.1)
      (λ x y h m e. (let q = of_records ns y m in
      let same : n ≡ q.0 = one_volume (configuration k all) (length names) (run (configuration k all) names) good placed n q.0 x y (is_in n x h) (is_in q.0 y q.2) e in
      let lt : n < q.0 = ascend_above n ns q.0 up.1 q.1 in absurd (omega (arith, same, lt))))

  at_place : (ns : List ℕ) (v : ℕ) → v < length (map left ns) → (n : ℕ) × Has n ns × (volume_at (map left ns) v ≡ left n)
  at_place [] v h = absurd (omega (arith, h))
  at_place (n ∷ ns) zero h = (n, inl refl, refl)
  at_place (n ∷ ns) (suc v) h = let r = at_place ns v (omega (arith, h)) in (r.0, inr r.1, r.2)

  -- ---- kept records

  -- a record of another volume isn't of the class
  of_other : (c v : ℕ) → (volume_of (configuration k all) c ≡ v → ⊥) → (x : SegRecord) → Has x (volume (configuration k all) v (run (configuration k all) names)) → is_kept c x ≡ false
  of_other c v ne x h = false_from_ne_true (is_kept c x) (λ kept.
      let class : x.class ≡ c = eqb-true x.class c (and_parts (x.class == c) _ kept).0 in
      let here = is_in v x h in
      ne (ap (volume_of (configuration k all)) (sym class) ∙ eqb-true (volume_of (configuration k all) x.class) v here.in_volume))

  count_all : (c b : ℕ) (ns : List ℕ) → Ascend b ns → count_by (is_kept c) (records_of (map left ns)) ≤ pages_in_use (run (configuration k all) names).shared ((run (configuration k all) names).part c)
  count_all c b [] up = omega arith
  count_all c b (n ∷ ns) up = by_volume (cases_eq (volume_of (configuration k all) c) n)
      (count_append (is_kept c) (volume (configuration k all) n (run (configuration k all) names)) (records_of (map left ns))) (count_all c n ns up.1)
    where
      by_volume : (volume_of (configuration k all) c ≡ n) ⊎ (volume_of (configuration k all) c ≡ n → ⊥) →
          count_by (is_kept c) (volume (configuration k all) n (run (configuration k all) names) ++ records_of (map left ns))
          ≡ count_by (is_kept c) (volume (configuration k all) n (run (configuration k all) names)) + count_by (is_kept c) (records_of (map left ns)) →
          count_by (is_kept c) (records_of (map left ns)) ≤ pages_in_use (run (configuration k all) names).shared ((run (configuration k all) names).part c) →
          count_by (is_kept c) (records_of (map left (n ∷ ns))) ≤ pages_in_use (run (configuration k all) names).shared ((run (configuration k all) names).part c)
      by_volume (inl e) sum rest =
          let here = kept_few (configuration k all) (length names) (run (configuration k all) names) good placed n c in
          let none : count_by (is_kept c) (records_of (map left ns)) ≡ 0 = count_none (is_kept c) (records_of (map left ns)) (λ x m.
          let q = of_records ns x m in
          let lt : n < q.0 = ascend_above n ns q.0 up.1 q.1 in
          of_other c q.0 (λ f. absurd (omega (arith, e, f, lt))) x q.2) in
          omega (arith, sum, here, none)
      by_volume (inr ne) sum rest =
          let none : count_by (is_kept c) (volume (configuration k all) n (run (configuration k all) names)) ≡ 0 = count_none (is_kept c) (volume (configuration k all) n (run (configuration k all) names)) (of_other c n ne) in
          omega (arith, sum, rest, none)

  -- ---- mentors

  named_number : (c : ℕ) → not (volume_of (configuration k all) c == 0) ≡ true → Has (volume_of (configuration k all) c) (numbers_named k)
  named_number c h =
      let low = not_zero (volume_of (configuration k all) c) h in
      let high = low_at (configuration k all).volumes c (and_parts _ (list_all (λ v. nat_le v 4) (configuration k all).volumes) valid.volumes).1 in
      has_filter (names_volume k) (numbers_from 1 4) (volume_of (configuration k all) c) (has_numbers (volume_of (configuration k all) c) 1 4 low (omega (arith, high))) (named_pool k.pools c h)

  module _ (r : SegRecord) (m : HasMentor (configuration k all) (length names) (run (configuration k all) names) good placed r) where
    -- the mentor is a record
    member : Has (record_of (tree_of_state (run (configuration k all) names)) r.mentor m.at) (records_of (map left (numbers_named k)))
    member = to_records (numbers_named k) (volume_of (configuration k all) r.seg.mentor) (record_of (tree_of_state (run (configuration k all) names)) r.mentor m.at) (named_number r.seg.mentor m.in_volume)
        (to_volume (configuration k all) (length names) (run (configuration k all) names) good placed (volume_of (configuration k all) r.seg.mentor) r.mentor m.at m.there
        (eq-eqb (volume_of (configuration k all) m.at.alias.class) (volume_of (configuration k all) r.seg.mentor) (ap (volume_of (configuration k all)) m.class)) m.led)

    -- the first record of its identity has the class that the identity of r says
    first_right : (o : Option SegRecord) → find (λ (x : SegRecord). same_seg x.seg r.mentor) (records_of (map left (numbers_named k))) ≡ o → option_map_or (λ (x : SegRecord). x.class == r.seg.mentor) o false ≡ true
    first_right None e = absurd (both_ways (same_seg r.mentor r.mentor) (find_none (λ (x : SegRecord). same_seg x.seg r.mentor) (records_of (map left (numbers_named k))) (record_of (tree_of_state (run (configuration k all) names)) r.mentor m.at) e member) (same_seg-refl r.mentor))
    first_right (Some x) e =
        let f = find_some (λ (x : SegRecord). same_seg x.seg r.mentor) (records_of (map left (numbers_named k))) x e in
        let q = of_records (numbers_named k) x f.0 in
        let here = is_in q.0 x q.2 in
        let own : x.seg ≡ r.mentor = same_seg-true x.seg r.mentor f.1 in
        let at : here.at ≡ m.at = some_origin here.at m.at (sym here.there ∙ ap (origin (tree_of_state (run (configuration k all) names))) own ∙ m.there) in
        eq-eqb x.class r.seg.mentor (sym (ap (λ (z : SegRecord). z.class) here.is) ∙ ap (λ (o : Origin). o.alias.class) at ∙ m.class)

  mentor_good : (v : ℕ) (r : SegRecord) → In v r → mentor_right (records_of (map left (numbers_named k))) r ≡ true
  mentor_good v r h = by_mentor (mentor_is (configuration k all) (length names) (run (configuration k all) names) good placed v r h)
    where
      by_mentor : ((is_root r.mentor ≡ true) × ((r.seg.mentor == 0) ≡ true)) ⊎ HasMentor (configuration k all) (length names) (run (configuration k all) names) good placed r →
          mentor_right (records_of (map left (numbers_named k))) r ≡ true
      by_mentor (inl root) = ap (λ (b : Bool). if b then r.seg.mentor == 0 else option_map_or (λ (x : SegRecord). x.class == r.seg.mentor) (first_record (records_of (map left (numbers_named k))) r.mentor) false) root.0 ∙ root.1
      by_mentor (inr m) = ap (λ (b : Bool). if b then r.seg.mentor == 0 else option_map_or (λ (x : SegRecord). x.class == r.seg.mentor) (first_record (records_of (map left (numbers_named k))) r.mentor) false) m.other
          ∙ first_right r m (first_record (records_of (map left (numbers_named k))) r.mentor) refl

  -- ---- no record is at fault

  ascending : Ascend 0 (numbers_named k)
  ascending = ascend_filter (names_volume k) 0 1 4 (omega arith)

  pub left_volumes : AreVolumes k (volumes_after k all names)
  left_volumes = record {
    valid = all_valid (numbers_named k);
    ascend = subst (Ascend 0) (sym (numbers_left (numbers_named k))) ascending;
    named = λ n c. (
        let f = of_filter (names_volume k) (numbers_from 1 4) n (of_contains (numbers_named k) n (subst (λ ns. Contains ns n) (numbers_left (numbers_named k)) c)) in
        let b = of_numbers n 1 4 f.0 in
        let lt = b.1 in (omega (arith, lt), named_yes k n true (sym f.1) refl));
    all = λ n low high c. subst (λ ns. Contains ns n) (sym (numbers_left (numbers_named k)))
        (to_contains (numbers_named k) n (has_filter (names_volume k) (numbers_from 1 4) n (has_numbers n 1 4 low (omega (arith, high))) (is_named n (names_volume k n) refl c)));
  }
    where
      is_named : (n : ℕ) (b : Bool) → b ≡ names_volume k n → Contains (named_by k) n → names_volume k n ≡ true
      is_named n true e c = sym e
      is_named n false e c = absurd (named_no k n false e refl c)

  module _ (v : ℕ) (there : v < length (map left (numbers_named k))) (i : ℕ) (lt : i < length (volume_at (map left (numbers_named k)) v).1) where
    place : (n : ℕ) × Has n (numbers_named k) × (volume_at (map left (numbers_named k)) v ≡ left n)
    place = at_place (numbers_named k) v there

    abbrev r : SegRecord
    r = record_at (map left (numbers_named k)) v i

    here : In place.0 (record_at (map left (numbers_named k)) v i)
    here = is_in place.0 (record_at (map left (numbers_named k)) v i)
        (subst (λ (w : ℕ × List SegRecord). Has (record_at (map left (numbers_named k)) v i) w.1) place.2 (has_at (volume_at (map left (numbers_named k)) v).1 i no_record lt))

    split : IsSplit (records_of (map left (numbers_named k))) (before (map left (numbers_named k)) v i) (record_at (map left (numbers_named k)) v i)
    split = split_at (map left (numbers_named k)) v i there lt

    is_before : (x : SegRecord) → Has x (before (map left (numbers_named k)) v i) → (n : ℕ) × In n x
    is_before x m = let q = of_records (numbers_named k) x (subst (Has x) (sym split.is) (has_left x (before (map left (numbers_named k)) v i) (record_at (map left (numbers_named k)) v i ∷ split.behind) m)) in (q.0, is_in q.0 x q.2)

    other : (x : SegRecord) → Has x (before (map left (numbers_named k)) v i) → x.seg ≡ (record_at (map left (numbers_named k)) v i).seg → ⊥
    other x m e = apart_before (before (map left (numbers_named k)) v i) (record_at (map left (numbers_named k)) v i) split.behind (subst Apart split.is (all_apart 0 (numbers_named k) ascending)) x m e

    pool : not (slice_index (named_by k) r.class == (volume_at (map left (numbers_named k)) v).0) ≡ false
    pool = ap not (subst (λ n. (slice_index (named_by k) (record_at (map left (numbers_named k)) v i).class == n) ≡ true) (sym (ap (λ (w : ℕ × List SegRecord). w.0) place.2)) here.in_volume)

    fresh : list_any (λ (x : SegRecord). same_seg x.seg r.seg) (before (map left (numbers_named k)) v i) ≡ false
    fresh = any_none (λ (x : SegRecord). same_seg x.seg r.seg) (before (map left (numbers_named k)) v i)
        (λ x m. false_from_ne_true (same_seg x.seg r.seg) (λ s. other x m (same_seg-true x.seg r.seg s)))

    mentor : not (mentor_right (records_of (map left (numbers_named k))) r) ≡ false
    mentor = ap not (mentor_good place.0 r here)

    free : list_any (same_entry r) (before (map left (numbers_named k)) v i) ≡ false
    free = any_none (same_entry r) (before (map left (numbers_named k)) v i) (λ x m. false_from_ne_true (same_entry r x) (λ s.
        let p = and_parts (same_seg x.mentor r.mentor && x.seg.mentor == r.seg.mentor) (x.entry == r.entry) s in
        let q = and_parts (same_seg x.mentor r.mentor) (x.seg.mentor == r.seg.mentor) p.0 in
        let b = is_before x m in
        other x m (one_entry (configuration k all) (length names) (run (configuration k all) names) good placed b.0 place.0 x r b.1 here
        (same_seg-true x.mentor r.mentor q.0) (eqb-true x.seg.mentor r.seg.mentor q.1) (eqb-true x.entry r.entry p.1))))

    most : count_by (is_kept r.class) (before (map left (numbers_named k)) v i ++ r ∷ []) ≤ (pool_of (shared_of (configuration k [])) r.class).pages
    most =
        let whole = ap (count_by (is_kept r.class)) split.is in
        let one = count_append (is_kept r.class) (before (map left (numbers_named k)) v i) (r ∷ []) in
        let two = count_append (is_kept r.class) (before (map left (numbers_named k)) v i) (r ∷ split.behind) in
        let three = count_append (is_kept r.class) (r ∷ []) split.behind in
        let kept = count_all r.class 0 (numbers_named k) ascending in
        let room = subst (λ (s : Shared). pages_in_use (run (configuration k all) names).shared ((run (configuration k all) names).part r.class) ≤ (pool_of s r.class).pages)
        (run_shared (configuration k all) names) (pages_fit (configuration k all) valid names r.class) in
        omega (arith, whole, one, two, three, kept, room)

    fits : nat_lt (pool_of (shared_of (configuration k [])) r.class).pages (count_by (is_kept r.class) (before (map left (numbers_named k)) v i ++ r ∷ [])) ≡ false
    fits = false_from_ne_true _ (λ t. let lt : (pool_of (shared_of (configuration k [])) r.class).pages < count_by (is_kept r.class) (before (map left (numbers_named k)) v i ++ r ∷ []) = ltb-true _ _ t in
        let le = most in absurd (omega (arith, lt, le)))

    no_fault : HasNoCode (tests_at k (map left (numbers_named k)) v i)
    no_fault = has_no_code (tests_at k (map left (numbers_named k)) v i) (pool, (fresh, (mentor, (free, (fits, tt)))))

  pub left_loads : Loads k (volumes_after k all names)
  left_loads v there i lt = no_fault v there i lt

pub loads_again : LoadsAgain
loads_again k vs names valid ok loads few =
    let config : IsConfig (configuration k (records_of vs)) = loaded_config k valid vs ok loads in
    let words = loaded_words k vs valid ok in
    (left_volumes k (records_of vs) names config words few, left_loads k (records_of vs) names config words few)

pub words_load_again : WordsLoadAgain
words_load_again k vs events valid ok loads few none =
    let config : IsConfig (configuration k (records_of vs)) = loaded_config k valid vs ok loads in
    let less = effects_few (opening (configuration k (records_of vs))) events in
    let told : volumes_after k (records_of vs) (effects (configuration k (records_of vs)) events) ≡ volumes_told k (records_of vs) events = λ i. map (λ v. (v, sym (words_agree (configuration k (records_of vs)) events v config few none) i)) (numbers_named k) in
    subst (λ ws. AreVolumes k ws × Loads k ws) told (loads_again k vs (effects (configuration k (records_of vs)) events) valid ok loads (omega (arith, less, few)))
