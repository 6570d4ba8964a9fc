-- What a record of a valid configuration is, part by part.
use Rattle.std.proofs.Common.{ℕ, ◌<◌, ◌≤◌, true, not, ◌||◌, List, ◌≡◌, length}
use Rattle.std.proofs.lemmas.Bool.{and_parts, leb-true, ltb-true}
use Rattle.std.specs.Prelude.{◌==◌, nat_le, nat_lt}
use Rattle.std.specs.Option.{option_map_or}
use Rattle.labels.specs.Label.{at_or_below}
use Rattle.rings.specs.Brackets.{in_order}
use Rattle.class_model.specs.Config.{Config, SegRecord}
use Rattle.class_model.specs.Valid.{record_ok, is_root, mentor_ok, within}

pub record IsRecord (k : Config) (r : SegRecord) : Type 0 where
  pub mentor : r.seg.mentor < length k.table
  pub serial : r.seg.serial < 64
  pub class : r.class < length k.table
  pub entry : r.entry < 8
  pub flows_up : at_or_below k.table r.seg.mentor r.class ≡ true
  pub in_order : in_order r.brackets ≡ true
  pub some_size : 1 ≤ r.size
  pub size : r.size ≤ 64
  pub kept : option_map_or (λ (words : List ℕ). length words == r.size) r.kept true ≡ true

pub is_record : (k : Config) (r : SegRecord) → record_ok k r ≡ true → IsRecord k r
is_record k r h =
    let t : ℕ = length k.table in
    let a1 = and_parts _ (mentor_ok k r) h in
    let a2 = and_parts _ (option_map_or (λ (words : List ℕ). length words == r.size) r.kept true) a1.0 in
    let a3 = and_parts _ (not (r.mentor.mentor == r.seg.mentor) || nat_lt r.mentor.serial r.seg.serial) a2.0 in
    let a4 = and_parts _ (at_or_below k.table r.mentor.mentor r.seg.mentor) a3.0 in
    let a5 = and_parts _ (nat_lt r.entry 8) a4.0 in
    let a6 = and_parts _ (nat_lt r.mentor.serial 64) a5.0 in
    let a7 = and_parts _ (within 1 64 r.size) a6.0 in
    let a8 = and_parts _ (in_order r.brackets) a7.0 in
    let a9 = and_parts _ (at_or_below k.table r.seg.mentor r.class) a8.0 in
    let b1 = and_parts _ (nat_lt r.mentor.mentor (length k.table)) a9.0 in
    let b2 = and_parts _ (nat_lt r.class (length k.table)) b1.0 in
    let b3 = and_parts _ (not (is_root r.seg)) b2.0 in
    let b4 = and_parts _ (nat_lt r.seg.serial 64) b3.0 in
    let b5 = and_parts _ (nat_lt r.seg.mentor (length k.table)) b4.0 in
    let sizes = and_parts (nat_le 1 r.size) (nat_le r.size 64) a7.1 in
    record {
      mentor = ltb-true r.seg.mentor (length k.table) b5.1;
      serial = ltb-true r.seg.serial 64 b4.1;
      class = ltb-true r.class (length k.table) b2.1;
      entry = ltb-true r.entry 8 a5.1;
      flows_up = a9.1;
      in_order = a8.1;
      some_size = leb-true 1 r.size sizes.0;
      size = leb-true r.size 64 sizes.1;
      kept = a2.1;
    }
