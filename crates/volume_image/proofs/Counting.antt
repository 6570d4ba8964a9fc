-- Identities rise, so there are no more records than identities; and how long an image gets.
use Rattle.std.proofs.Common.{◌≡◌, ℕ, ◌+◌, ◌*◌, ◌^◌, ◌<◌, ◌≤◌, true, ◌&&◌, eqb, leb, ltb, List, [], ◌∷◌, ◌++◌, length, get_or, take, drop, Option, Some, None, refl, sym, ap, ◌∙◌, append_assoc, length-append, arith, inl, inr}
use Rattle.std.specs.Int.{w16, w64, to_be_bytes}
use Rattle.std.specs.List.{flat_map}
use Rattle.std.specs.Prelude.{IfSome}
use Rattle.std.proofs.lemmas.Bool.{and_parts, and_from, or_cases, ltb-true, lt-ltb, leb-true, eqb-true}
use Rattle.std.proofs.lemmas.List.Concat.{flat_map-cons, flat_map-append}
use Rattle.std.proofs.lemmas.List.{take_all, take_more, take-append-drop, flat_map_more}
use Rattle.labels.specs.Label.{ClassEntry}
use Rattle.labels.specs.Table.{IsTable}
use Rattle.words_layout.specs.Segments.{seg, seg_number}
use Rattle.words_layout.specs.declared.segment.SegId.{SegId}
use Rattle.class_model.specs.Config.{SegRecord}
use Rattle.volume_image.specs.declared.head.Format.{Format}
use Rattle.volume_image.specs.declared.head.Format.TheVariants.{One, Two}
use Rattle.volume_image.specs.Valid.{serials, is_identity, is_above, AreWords, IsRecord, AreRecords, IsVolume}
use Rattle.volume_image.specs.Written.{class_bytes, kept_bytes, record_bytes, start, header, front, spelling, written}
use Rattle.volume_image.specs.Images.{Drawn, largest, IsMadeFor, begun}

-- ---- how many records

-- what an identity is, in numbers
pub record IsId (table : List ClassEntry) (u : SegId) : Type 0 where
  pub mentor : u.mentor < length table
  pub serial : u.serial < 64

few_serials : (f : Format) (n : ℕ) → n < serials f → n < 64
few_serials One n lt = omega (arith, lt)
few_serials Two n lt = lt

pub id_numbers : (f : Format) (table : List ClassEntry) (u : SegId) → is_identity f table u ≡ true → IsId table u
id_numbers f table u h =
    let p = and_parts _ _ h in
    record { mentor = ltb-true _ _ p.0; serial = few_serials f u.serial (ltb-true _ _ p.1) }

number_rises : (before u : SegId) → before.serial < 64 → is_above before u ≡ true → seg_number before < seg_number u
number_rises before u small h =
    elim (or_cases (ltb before.mentor u.mentor) (eqb before.mentor u.mentor && ltb before.serial u.serial) h) [
      | inl e ↦ (let lt : before.mentor < u.mentor = ltb-true _ _ e in omega (arith, lt, small))
      | inr e ↦ (let p = and_parts _ _ e in
          let same : before.mentor ≡ u.mentor = eqb-true _ _ p.0 in
          let lt : before.serial < u.serial = ltb-true _ _ p.1 in
          omega (arith, same, lt))
    ]

counted : (f : Format) (table : List ClassEntry) (before : SegId) (rs : List SegRecord) → IsId table before → AreRecords f table before rs → seg_number before + length rs < 64 * length table
counted f table before [] id ok = omega (arith, id.mentor, id.serial)
counted f table before (r ∷ rs) id ok =
    let next = counted f table r.seg rs (id_numbers f table r.seg ok.0.seg) ok.1 in
    omega (arith, next, number_rises before r.seg id.serial ok.0.above)

root_id : (table : List ClassEntry) → IsTable table → IsId table (seg 0 0)
root_id table ok = record { mentor = ok.some; serial = omega arith }

pub record_count : (f : Format) (table : List ClassEntry) (rs : List SegRecord) → IsTable table → AreRecords f table (seg 0 0) rs → length rs < 64 * length table
record_count f table rs ok records = omega (arith, counted f table (seg 0 0) rs (root_id table ok) records)

pub few_records : (f : Format) (table : List ClassEntry) (rs : List SegRecord) → IsTable table → AreRecords f table (seg 0 0) rs → length rs < 2 ^ 16
few_records f table rs ok records = omega (arith, record_count f table rs ok records, ok.few)

-- ---- how many bytes

words_length : (ws : List ℕ) → length (flat_map (to_be_bytes w64) ws) ≡ 8 * length ws
words_length [] = refl
words_length (w ∷ ws) =
    let parts : length (flat_map (to_be_bytes w64) (w ∷ ws)) ≡ 8 + length (flat_map (to_be_bytes w64) ws) =
    ap length (flat_map-cons (to_be_bytes w64) w ws) ∙ length-append (to_be_bytes w64 w) (flat_map (to_be_bytes w64) ws) in
    omega (arith, parts, words_length ws)

kept_length : (size : ℕ) (kept : Option (List ℕ)) → size ≤ 64 → IfSome kept (AreWords size) → length (kept_bytes kept) ≤ 513
kept_length size None le ok = omega arith
kept_length size (Some ws) le ok = omega (arith, words_length ws, ok.0, le)

record_length : (f : Format) (table : List ClassEntry) (before : SegId) (r : SegRecord) → IsRecord f table before r → length (record_bytes r) ≤ 523
unfolding record_bytes
record_length f table before r ok =
    let p = and_parts (leb 1 r.size) (leb r.size 64) ok.size in
    omega (arith, kept_length r.size r.kept (leb-true _ _ p.1) ok.kept)

records_length : (f : Format) (table : List ClassEntry) (before : SegId) (rs : List SegRecord) → AreRecords f table before rs → length (flat_map record_bytes rs) ≤ 523 * length rs
records_length f table before [] ok = omega arith
records_length f table before (r ∷ rs) ok =
    let parts : length (flat_map record_bytes (r ∷ rs)) ≡ length (record_bytes r) + length (flat_map record_bytes rs) =
    ap length (flat_map-cons record_bytes r rs) ∙ length-append (record_bytes r) (flat_map record_bytes rs) in
    omega (arith, parts, record_length f table before r ok.0, records_length f table r.seg rs ok.1)

pub front_length : (table : List ClassEntry) (n m : ℕ) → length (front table n) ≡ length (front table m)
unfolding front
front_length table n m = omega (arith, length-append (header Two table) (to_be_bytes w16 n), length-append (header Two table) (to_be_bytes w16 m))

pub front_size : (table : List ClassEntry) → length (front table 0) ≡ 11 + length (flat_map (class_bytes Two) table)
unfolding front header
front_size table = omega (arith, length-append (header Two table) (to_be_bytes w16 0), length-append (start Two table) (flat_map (class_bytes Two) table))

pub image_length : (table : List ClassEntry) (rs : List SegRecord) → IsTable table → IsVolume table rs → length (written table rs) ≤ largest table
unfolding spelling front
image_length table rs ok valid =
    let all = flat_map record_bytes rs in
    omega (arith, length-append (header Two table) (to_be_bytes w16 (length rs) ++ all), length-append (header Two table) (to_be_bytes w16 0), records_length Two table (seg 0 0) rs valid.records, record_count Two table rs ok valid.records)

-- ---- an image in the making

next_bytes : (v : List SegRecord) (i : ℕ) (d : SegRecord) → i < length v → flat_map record_bytes (take (i + 1) v) ≡ flat_map record_bytes (take i v) ++ record_bytes (get_or v i d)
next_bytes v i d lt = ap (flat_map record_bytes) (take_more v i d lt) ∙ sym (flat_map_more record_bytes [] (take i v) (get_or v i d))

pub begun_next : (table : List ClassEntry) (v : List SegRecord) (i : ℕ) (d : SegRecord) → i < length v → begun table v i ++ record_bytes (get_or v i d) ≡ begun table v (i + 1)
begun_next table v i d lt =
    append_assoc (front table (length v)) (flat_map record_bytes (take i v)) (record_bytes (get_or v i d)) ∙ ap (λ (x : List ℕ). front table (length v) ++ x) (sym (next_bytes v i d lt))

pub begun_whole : (table : List ClassEntry) (v : List SegRecord) → begun table v (length v) ≡ written table v
unfolding front spelling
begun_whole table v =
    ap (λ (rs : List SegRecord). front table (length v) ++ flat_map record_bytes rs) (take_all (length v) v (omega arith)) ∙ append_assoc (header Two table) (to_be_bytes w16 (length v)) (flat_map record_bytes v)

part_length : (v : List SegRecord) (i : ℕ) → length (flat_map record_bytes (take i v)) ≤ length (flat_map record_bytes v)
part_length v i =
    let parts : flat_map record_bytes v ≡ flat_map record_bytes (take i v) ++ flat_map record_bytes (drop i v) =
    ap (flat_map record_bytes) (sym (take-append-drop i v)) ∙ flat_map-append record_bytes (take i v) (drop i v) in
    omega (arith, ap length parts, length-append (flat_map record_bytes (take i v)) (flat_map record_bytes (drop i v)))

pub next_fits : (table : List ClassEntry) (v : List SegRecord) (i : ℕ) (d : SegRecord) (image : Drawn) → IsTable table → IsVolume table v → IsMadeFor table image → image.bytes ≡ begun table v i → i < length v →
    length (record_bytes (get_or v i d)) ≤ image.spare
next_fits table v i d image ok valid made is lt =
    let a = front table (length v) in
    let b = flat_map record_bytes (take i v) in
    let c = record_bytes (get_or v i d) in
    omega (
      arith,
      made,
      ap length is,
      length-append a b,
      ap length (next_bytes v i d lt),
      length-append b c,
      part_length v (i + 1),
      records_length Two table (seg 0 0) v valid.records,
      record_count Two table v ok valid.records,
      front_length table (length v) 0,
    )

-- ---- what format 1 can spell, format 2 can

wider_id : (f : Format) (table : List ClassEntry) (u : SegId) → is_identity f table u ≡ true → is_identity Two table u ≡ true
wider_id f table u h =
    let n = id_numbers f table u h in
    and_from _ _ (lt-ltb _ _ n.mentor) (lt-ltb _ _ n.serial)

wider_records : (f : Format) (table : List ClassEntry) (before : SegId) (rs : List SegRecord) → AreRecords f table before rs → AreRecords Two table before rs
wider_records f table before [] ok = tt
wider_records f table before (r ∷ rs) ok =
    let o = ok.0 in (
      record {
        seg = wider_id f table r.seg o.seg;
        other = o.other;
        above = o.above;
        class = o.class;
        flows = o.flows;
        brackets = o.brackets;
        size = o.size;
        mentor = wider_id f table r.mentor o.mentor;
        stands = o.stands;
        entry = o.entry;
        kept = o.kept;
      },
      wider_records f table r.seg rs ok.1,
    )

pub wider : (f : Format) (table : List ClassEntry) (rs : List SegRecord) → AreRecords f table (seg 0 0) rs → IsVolume table rs
wider f table rs ok = record { room = refl; records = wider_records f table (seg 0 0) rs ok }
