-- The records of a valid configuration are those that loading asks for.
use Rattle.std.proofs.Common.{ℕ, ◌<◌, ◌≤◌, true, not, ◌&&◌, ◌||◌, List, [], ◌≡◌, refl, sym, ap, subst, ◌∙◌, Option, Some, None, arith, length}
use Rattle.std.proofs.lemmas.Bool.{and_parts, and_from, eqb-true, leb-true, ltb-true, lt-ltb, le-leb}
use Rattle.std.specs.Prelude.{◌==◌, nat_le, nat_lt, count_by, unwrap_or}
use Rattle.std.specs.List.{list_all}
use Rattle.std.specs.Option.{option_map_or}
use Rattle.lists.specs.Lists.{below}
use Rattle.labels.specs.Label.{at_or_below}
use Rattle.rings.specs.Brackets.{in_order, Brackets}
use Rattle.class_model.specs.Config.{Config, Pool, SegRecord, pool_of, shared_of}
use Rattle.class_model.specs.Valid.{IsConfig, within, record_ok, records_distinct, pages_ok, mentor_ok}
use Rattle.flow_laws.proofs.Records.{IsRecord, is_record}
use Rattle.flow_laws.proofs.Sound.{all_or, all_below}
use Rattle.config_text.specs.declared.config.Config.{Config as ConfigText}
use Rattle.config_text.specs.Valid.{IsValid}
use Rattle.loader.specs.Configuration.{configuration}
use Rattle.loader.specs.Records.{Volumes, AreVolumes, Loads, records_of, is_kept}
use Rattle.loader.specs.Seen.{seen, sees}
use Rattle.loader.specs.Stores.{IsStorable, AreStorable}
use Rattle.loader.proofs.Seen.{part_by, seen_is, seen_valid, all_of}
use Rattle.loader.proofs.Records.{loaded_config}

-- its mentor's class is in the table, and its mentor's serial below 64
mentor_there : (k : Config) (r : SegRecord) → record_ok k r ≡ true → (r.mentor.mentor < length k.table) × (r.mentor.serial < 64)
mentor_there k r h =
    let a1 = and_parts _ (mentor_ok k r) h in
    let a2 = and_parts _ (option_map_or (λ (words : List ℕ). length words == r.size) r.kept true) a1.0 in
    let a3 = and_parts _ (not (r.mentor.mentor == r.seg.mentor) || nat_lt r.mentor.serial r.seg.serial) a2.0 in
    let a4 = and_parts _ (at_or_below k.table r.mentor.mentor r.seg.mentor) a3.0 in
    let a5 = and_parts _ (nat_lt r.entry 8) a4.0 in
    let a6 = and_parts _ (nat_lt r.mentor.serial 64) a5.0 in
    let a7 = and_parts _ (within 1 64 r.size) a6.0 in
    let a8 = and_parts _ (in_order r.brackets) a7.0 in
    let a9 = and_parts _ (at_or_below k.table r.seg.mentor r.class) a8.0 in
    let b1 = and_parts _ (nat_lt r.mentor.mentor (length k.table)) a9.0 in
    (ltb-true r.mentor.mentor (length k.table) b1.1, ltb-true r.mentor.serial 64 a6.1)

rings_low : (b : Brackets) → in_order b ≡ true → (b.r1 ≤ 7) × (b.r2 ≤ 7) × (b.r3 ≤ 7)
rings_low b h =
    let x = and_parts (nat_le b.r1 b.r2 && nat_le b.r2 b.r3) (nat_le b.r3 7) h in
    let y = and_parts (nat_le b.r1 b.r2) (nat_le b.r2 b.r3) x.0 in
    let c : b.r3 ≤ 7 = leb-true b.r3 7 x.1 in
    let d : b.r2 ≤ b.r3 = leb-true b.r2 b.r3 y.1 in
    let e : b.r1 ≤ b.r2 = leb-true b.r1 b.r2 y.0 in
    (omega (arith, c, d, e), omega (arith, c, d), c)

words_few : (o : Option (List ℕ)) (size : ℕ) → size ≤ 64 → option_map_or (λ (words : List ℕ). length words == size) o true ≡ true → length (unwrap_or o []) ≤ 64
words_few None size le h = omega arith
words_few (Some words) size le h = let e : length words ≡ size = eqb-true (length words) size h in omega (arith, e, le)

record_storable : (k : Config) (r : SegRecord) → length k.table ≤ 16 → record_ok k r ≡ true → IsStorable (length k.table) r
record_storable k r few h =
    let is : IsRecord k r = is_record k r h in
    let mentor = mentor_there k r h in
    let rings = rings_low r.brackets is.in_order in
    record {
      under = is.mentor;
      class = is.class;
      seg = (omega (arith, few, is.mentor), is.serial);
      mentor = (omega (arith, few, mentor.0), mentor.1);
      entry = is.entry;
      alias = and_from _ _ (and_from _ _ (and_from _ _ (and_from _ _ (and_from _ _
          (lt-ltb r.class 16 (omega (arith, few, is.class))) (le-leb r.brackets.r1 7 rings.0)) (le-leb r.brackets.r2 7 rings.1)) (le-leb r.brackets.r3 7 rings.2))
          (and_from _ _ (le-leb 1 r.size is.some_size) (le-leb r.size 64 is.size))) (lt-ltb r.seg.serial 64 is.serial);
      words = words_few r.kept r.size is.size is.kept;
    }

pub storable : (k : Config) → IsConfig k → AreStorable (length k.table) k.records
storable k valid =
    let table = and_parts _ _ (and_parts _ _ (and_parts _ _ (and_parts _ _ valid.table).0).0).0 in
    let few : length k.table ≤ 16 = leb-true (length k.table) 16 table.1 in
    let parts = and_parts (list_all (record_ok k) k.records && records_distinct k.records) (list_all (pages_ok k) (below (length k.table))) valid.records in
    let each = and_parts (list_all (record_ok k) k.records) (records_distinct k.records) parts.0 in
    record {
      each = all_of (record_ok k) (IsStorable (length k.table)) (λ r h. record_storable k r few h) k.records each.0;
      distinct = each.1;
      pages = λ c known.
          (let most = leb-true (count_by (is_kept c) k.records) (pool_of (shared_of k) c).pages (all_below (pages_ok k) (length k.table) c parts.1 known) in
          let room : (nat_le (pool_of (shared_of k) c).frames 16 && nat_le (pool_of (shared_of k) c).pages 32) ≡ true = all_or (λ (p : Pool). nat_le p.frames 16 && nat_le p.pages 32) k.pools c
          (record { frames = 0; pages = 0 }) (and_parts _ _ valid.pools).1 refl in
          let pages = leb-true (pool_of (shared_of k) c).pages 32 (and_parts _ _ room).1 in
          omega (arith, most, pages));
    }

-- so they are where no record is at fault, as a view shows them
pub shown_storable : (k : ConfigText) (vs : Volumes) (view : Option ℕ) → IsValid k → AreVolumes k vs → Loads k vs → (rs : List SegRecord) → rs ≡ (seen (configuration k (records_of vs)) view).records → AreStorable (length k.table) rs
shown_storable k vs view valid ok loads rs is =
    let all : Config = configuration k (records_of vs) in
    let same : rs ≡ (part_by (sees k.table view) all).records = is ∙ ap (λ (x : Config). x.records) (seen_is all view) in
    subst (AreStorable (length k.table)) (sym same) (storable (part_by (sees k.table view) all) (seen_valid all view (loaded_config k valid vs ok loads)))
