-- What the words at the opening rest on: the records of a valid configuration are in order.
use Rattle.std.proofs.Common.{ℕ, ◌<◌, ◌≤◌, Bool, true, false, not, ◌&&◌, ◌||◌, List, [], ◌∷◌, ◌≡◌, refl, sym, subst, arith, length}
use Rattle.std.proofs.lemmas.Bool.{and_parts, and_from, ltb-true, lt-ltb, leb-true, le-leb, eqb-true, ltb-false}
use Rattle.std.proofs.lemmas.List.Sums.{length-filter}
use Rattle.std.specs.Prelude.{◌==◌, nat_le, nat_lt, is_some}
use Rattle.std.specs.List.{count_by, filter, list_all}
use Rattle.std.specs.Option.{option_map_or}
use Rattle.lists.specs.Lists.{below}
use Rattle.labels.specs.Label.{at_or_below}
use Rattle.rings.specs.Brackets.{in_order}
use Rattle.words_layout.specs.Segments.{same_seg}
use Rattle.class_model.specs.Config.{Config, SegRecord, shared_of, pool_of}
use Rattle.class_model.specs.Valid.{IsConfig, record_ok, records_distinct, pages_ok, within, is_root, mentor_ok}
use Rattle.machine.specs.Opening.{paged}
use Rattle.flow_laws.proofs.Records.{IsRecord, is_record}
use Rattle.flow_laws.proofs.FlowLaws.{records_ok}
use Rattle.flow_laws.proofs.LowValid.{all_more}
use Rattle.flow_laws.proofs.Sound.{few_classes, is_shared, all_below}
use Rattle.report_laws.proofs.Paged.{segs_apart}

-- within the limits of the layout, its class in the table, its words as many as its size
abbrev pub small_record : ℕ → SegRecord → Bool
small_record classes r = nat_lt r.class classes && nat_lt r.seg.serial 64 && in_order r.brackets && within 1 64 r.size && nat_lt r.entry 8 &&
    option_map_or (λ (words : List ℕ). length words == r.size) r.kept true

pub record FitRecords (k : Config) : Type 0 where
  pub few : length k.table ≤ 16
  pub small : list_all (small_record (length k.table)) k.records ≡ true
  pub apart : segs_apart k.records ≡ true
  pub pages : (c : ℕ) → length (paged k c) ≤ (pool_of (shared_of k) c).pages
  pub limit : (c : ℕ) → (pool_of (shared_of k) c).pages ≤ 32

-- what a small record is
pub record IsSmall (classes : ℕ) (r : SegRecord) : Type 0 where
  pub class : r.class < classes
  pub serial : r.seg.serial < 64
  pub in_order : in_order r.brackets ≡ true
  pub size : (nat_le 1 r.size && nat_le r.size 64) ≡ true
  pub entry : r.entry < 8
  pub kept : option_map_or (λ (words : List ℕ). length words == r.size) r.kept true ≡ true

pub is_small : (classes : ℕ) (r : SegRecord) → small_record classes r ≡ true → IsSmall classes r
is_small classes r h =
    let a1 = and_parts _ (option_map_or (λ (words : List ℕ). length words == r.size) r.kept true) h in
    let a2 = and_parts _ (nat_lt r.entry 8) a1.0 in
    let a3 = and_parts _ (within 1 64 r.size) a2.0 in
    let a4 = and_parts _ (in_order r.brackets) a3.0 in
    let a5 = and_parts (nat_lt r.class classes) (nat_lt r.seg.serial 64) a4.0 in
    record {
      class = ltb-true r.class classes a5.0;
      serial = ltb-true r.seg.serial 64 a5.1;
      in_order = a4.1;
      size = a3.1;
      entry = ltb-true r.entry 8 a2.1;
      kept = a1.1;
    }

-- ---- of a valid configuration

-- more of what a record of a valid configuration is
pub record RecordStands (k : Config) (r : SegRecord) : Type 0 where
  pub other : not (is_root r.seg) ≡ true
  pub flows_up : at_or_below k.table r.mentor.mentor r.seg.mentor ≡ true
  pub later : (not (r.mentor.mentor == r.seg.mentor) || nat_lt r.mentor.serial r.seg.serial) ≡ true

pub record_stands : (k : Config) (r : SegRecord) → record_ok k r ≡ true → RecordStands k r
record_stands k r h =
    let a1 = and_parts _ (mentor_ok k r) h in
    let a2 = and_parts _ (option_map_or (λ (words : List ℕ). length words == r.size) r.kept true) a1.0 in
    let a3 = and_parts _ (not (r.mentor.mentor == r.seg.mentor) || nat_lt r.mentor.serial r.seg.serial) a2.0 in
    let a4 = and_parts _ (at_or_below k.table r.mentor.mentor r.seg.mentor) a3.0 in
    let a5 = and_parts _ (nat_lt r.entry 8) a4.0 in
    let a6 = and_parts _ (nat_lt r.mentor.serial 64) a5.0 in
    let a7 = and_parts _ (within 1 64 r.size) a6.0 in
    let a8 = and_parts _ (in_order r.brackets) a7.0 in
    let a9 = and_parts _ (at_or_below k.table r.seg.mentor r.class) a8.0 in
    let b1 = and_parts _ (nat_lt r.mentor.mentor (length k.table)) a9.0 in
    let b2 = and_parts _ (nat_lt r.class (length k.table)) b1.0 in
    let b3 = and_parts _ (not (is_root r.seg)) b2.0 in
    record { other = b3.1; flows_up = a4.1; later = a3.1 }

small_of : (k : Config) (r : SegRecord) → record_ok k r ≡ true → small_record (length k.table) r ≡ true
small_of k r h =
    let f : IsRecord k r = is_record k r h in
    and_from _ _ (and_from _ _ (and_from _ _ (and_from _ _ (and_from _ _ (lt-ltb r.class (length k.table) f.class) (lt-ltb r.seg.serial 64 f.serial)) f.in_order)
    (and_from _ _ (le-leb 1 r.size f.some_size) (le-leb r.size 64 f.size))) (lt-ltb r.entry 8 f.entry)) f.kept

distinct_apart : (rs : List SegRecord) → records_distinct rs ≡ true → segs_apart rs ≡ true
distinct_apart [] h = refl
distinct_apart (r ∷ rs) h =
    let a = and_parts (list_all (λ (x : SegRecord). not (same_seg x.seg r.seg) && not (same_seg x.mentor r.mentor && x.seg.mentor == r.seg.mentor && x.entry == r.entry)) rs) (records_distinct rs) h in
    and_from _ _ (all_more (λ (x : SegRecord). not (same_seg x.seg r.seg) && not (same_seg x.mentor r.mentor && x.seg.mentor == r.seg.mentor && x.entry == r.entry)) (λ (x : SegRecord). not (same_seg x.seg r.seg))
    (λ x e. (let b = and_parts (not (same_seg x.seg r.seg)) (not (same_seg x.mentor r.mentor && x.seg.mentor == r.seg.mentor && x.entry == r.entry)) e in b.0)) rs a.0) (distinct_apart rs a.1)

-- a class that isn't in the table has no records
none_of_class : (k : Config) (c : ℕ) → length k.table ≤ c → (rs : List SegRecord) → list_all (record_ok k) rs ≡ true → filter (λ (r : SegRecord). r.class == c && is_some r.kept) rs ≡ []
none_of_class k c out [] h = refl
none_of_class k c out (r ∷ rs) h =
    let a : (record_ok k r ≡ true) × (list_all (record_ok k) rs ≡ true) = and_parts _ _ h in
    let f : r.class < length k.table = (is_record k r a.0).class in
    let other : (r.class == c) ≡ false = by_test (r.class == c) refl f in
    rw other (none_of_class k c out rs a.1)
  where
    by_test : (b : Bool) → (r.class == c) ≡ b → r.class < length k.table → b ≡ false
    by_test true e f = absurd (let same : r.class ≡ c = eqb-true r.class c e in omega arith)
    by_test false e f = refl

pub valid_records : (k : Config) → IsConfig k → FitRecords k
valid_records k valid =
    let a = and_parts (list_all (record_ok k) k.records && records_distinct k.records) (list_all (pages_ok k) (below (length k.table))) valid.records in
    let b = and_parts (list_all (record_ok k) k.records) (records_distinct k.records) a.0 in
    record {
      few = few_classes k valid;
      small = all_more (record_ok k) (small_record (length k.table)) (small_of k) k.records b.0;
      apart = distinct_apart k.records b.1;
      pages = λ c. by_class c a.1 (nat_lt c (length k.table)) refl;
      limit = (is_shared k valid).pages;
    }
  where
    by_class : (c : ℕ) → list_all (pages_ok k) (below (length k.table)) ≡ true → (t : Bool) → nat_lt c (length k.table) ≡ t → length (paged k c) ≤ (pool_of (shared_of k) c).pages
    by_class c ok true e =
        let count : count_by (λ (r : SegRecord). r.class == c && is_some r.kept) k.records ≤ (pool_of (shared_of k) c).pages =
        leb-true _ _ (all_below (pages_ok k) (length k.table) c ok (ltb-true c (length k.table) e)) in
        subst (λ n. n ≤ (pool_of (shared_of k) c).pages) (sym (length-filter (λ (r : SegRecord). r.class == c && is_some r.kept) k.records)) count
    by_class c ok false e =
        let none : paged k c ≡ [] = none_of_class k c (ltb-false c (length k.table) e) k.records (records_ok k valid) in
        rw none (omega arith)
