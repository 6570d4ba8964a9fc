-- What is judged, record by record: where each stands, that there are few, and that the first fault is found.
use Rattle.std.proofs.Common.{ℕ, zero, suc, ◌+◌, ◌*◌, ◌<◌, ◌≤◌, true, List, [], ◌∷◌, ◌++◌, ◌≡◌, ◌⊎◌, inl, inr, refl, ap, subst, ◌∙◌, Some, None, arith, length, get_or, take, length-append}
use Rattle.std.proofs.lemmas.Bool.{and_parts, eqb-true, ltb-true, cases_lt}
use Rattle.std.proofs.lemmas.List.{length-map, length-take-le, get_or_default}
use Rattle.std.proofs.lemmas.List.Concat.{flat_map-cons}
use Rattle.std.proofs.lemmas.List.Folds.{length-flat_map-take}
use Rattle.std.specs.Prelude.{◌==◌, Contains}
use Rattle.std.specs.List.{list_all, AllByRecursion}
use Rattle.text_lines.specs.Faults.{HasNoCode, IsLeastCode, first_code}
use Rattle.text_lines.proofs.FirstFault.{first_holds, none_holds}
use Rattle.labels.specs.Label.{ClassEntry}
use Rattle.labels.specs.Table.{IsTable}
use Rattle.words_layout.specs.Segments.{seg}
use Rattle.words_layout.specs.declared.segment.SegId.{SegId}
use Rattle.config_text.specs.declared.config.Config.{Config as ConfigText}
use Rattle.config_text.specs.Valid.{IsValid, pool_ok}
use Rattle.class_model.specs.Config.{SegRecord}
use Rattle.volume_image.specs.declared.head.Format.{Format}
use Rattle.volume_image.specs.declared.head.Format.TheVariants.{Two}
use Rattle.volume_image.specs.Valid.{is_class, AreRecords, IsVolume}
use Rattle.volume_image.proofs.Counting.{record_count}
use Rattle.loader.specs.Records.{Volumes, records_of, numbers_of, Ascend, AreVolumes, tests_of, volume_at, no_record, record_at, tests_at, AreFaultless, FaultlessBelow, Loads}

-- ---- there are few records

few_numbers : (ns : List ℕ) (low : ℕ) → low ≤ 4 → Ascend low ns → ((n : ℕ) → Contains ns n → n ≤ 4) → low + length ns ≤ 4
few_numbers [] low le up all = omega (arith, le)
few_numbers (n ∷ ns) low le up all =
    let first : n ≤ 4 = all n (0, omega arith, refl) in
    let later = few_numbers ns n first up.1 (λ m at. all m (suc at.0, omega (arith, at.1), at.2)) in
    omega (arith, up.0, later)

few_of_each : (table : List ClassEntry) → IsTable table → (vs : Volumes) → AllByRecursion (λ (v : ℕ × List SegRecord). IsVolume table v.1) vs → length (records_of vs) ≤ 1024 * length vs
few_of_each table ok [] all = omega arith
few_of_each table ok (v ∷ vs) all =
    let parts : length (records_of (v ∷ vs)) ≡ length v.1 + length (records_of vs) = ap length (flat_map-cons (λ (w : ℕ × List SegRecord). w.1) v vs) ∙ length-append v.1 (records_of vs) in
    omega (arith, parts, record_count Two table v.1 ok all.0.records, ok.few, few_of_each table ok vs all.1)

class_in_volume : (f : Format) (table : List ClassEntry) (u : SegId) (rs : List SegRecord) (i : ℕ) → AreRecords f table u rs → i < length rs → is_class table (get_or rs i no_record).class ≡ true
class_in_volume f table u [] i ok lt = absurd (omega (arith, lt))
class_in_volume f table u (r ∷ rs) zero ok lt = ok.0.class
class_in_volume f table u (r ∷ rs) (suc i) ok lt = class_in_volume f table r.seg rs i ok.1 (omega (arith, lt))

pub volume_valid : (table : List ClassEntry) (vs : Volumes) (v : ℕ) → AllByRecursion (λ (w : ℕ × List SegRecord). IsVolume table w.1) vs → v < length vs → IsVolume table (volume_at vs v).1
volume_valid table [] v all lt = absurd (omega (arith, lt))
volume_valid table (w ∷ vs) zero all lt = all.0
volume_valid table (w ∷ vs) (suc v) all lt = volume_valid table vs v all.1 (omega (arith, lt))

module _ (k : ConfigText) (vs : Volumes) (valid : IsValid k) (ok : AreVolumes k vs) where
  few_volumes : length vs ≤ 4
  few_volumes = omega (arith, few_numbers (numbers_of vs) 0 (omega arith) ok.ascend (λ n at. (ok.named n at).0), length-map vs (λ (v : ℕ × List SegRecord). v.0))

  few_records : length (records_of vs) ≤ 4096
  few_records = omega (arith, few_of_each k.table valid.table vs ok.valid, few_volumes)

  -- so many records stand before one, with it
  pub few_before : (v i : ℕ) (x : ℕ × List SegRecord) (rs : List SegRecord) → v < length vs → rs ≡ (get_or vs v x).1 → i < length rs → length (records_of (take v vs)) + i < 4096
  few_before v i x rs there e lt = omega (arith, few_records, ap length e, lt, length-flat_map-take (λ (w : ℕ × List SegRecord). w.1) vs v x there)

  pub few_in_front : (v i : ℕ) (x : ℕ × List SegRecord) (rs : List SegRecord) → v < length vs → rs ≡ (get_or vs v x).1 → i < length rs → length (records_of (take v vs)) + length (take i rs) < 65536
  few_in_front v i x rs there e lt = omega (arith, few_before v i x rs there e lt, length-take-le i rs (omega (arith, lt)))

  -- the class of a record is in the table
  pub class_there : (v i : ℕ) → v < length vs → i < length (volume_at vs v).1 → (record_at vs v i).class < length k.pools
  class_there v i there lt =
      let classes = ltb-true (record_at vs v i).class (length k.table) (class_in_volume Two k.table (seg 0 0) (volume_at vs v).1 i (volume_valid k.table vs v ok.valid there).records lt) in
      let same : length k.pools ≡ length k.table = eqb-true _ _ (and_parts (length k.pools == length k.table) (list_all pool_ok k.pools) valid.pools).0 in
      omega (arith, classes, same)

-- ---- where a record stands

module _ (k : ConfigText) (vs : Volumes) where
  pub volume_is : (v : ℕ) (x : ℕ × List SegRecord) → v < length vs → get_or vs v x ≡ volume_at vs v
  volume_is v x lt = get_or_default vs v x (0, []) lt

  pub record_is : (v i : ℕ) (rs : List SegRecord) (r : SegRecord) → rs ≡ (volume_at vs v).1 → i < length rs → r ≡ get_or rs i r → r ≡ record_at vs v i
  record_is v i rs r e lt is = is ∙ (get_or_default rs i r no_record lt ∙ ap (λ (t : List SegRecord). get_or t i no_record) e)

  pub tests_are : (v i number : ℕ) (earlier : Volumes) (rs front : List SegRecord) (r : SegRecord) → number ≡ (volume_at vs v).0 → earlier ≡ take v vs → rs ≡ (volume_at vs v).1 → front ≡ take i rs → r ≡ record_at vs v i →
      tests_of k (records_of vs) (records_of earlier ++ front) number r ≡ tests_at k vs v i
  tests_are v i number earlier rs front r a b e c d = λ j. tests_of k (records_of vs) (records_of (b j) ++ ((c ∙ ap (take i) e) j)) (a j) (d j)

  -- the volume that was read is that at place v
  pub records_are : (v : ℕ) (x : ℕ × List SegRecord) (rs : List SegRecord) → v < length vs → rs ≡ (get_or vs v x).1 → rs ≡ (volume_at vs v).1
  records_are v x rs there e = e ∙ ap (λ (p : ℕ × List SegRecord). p.1) (volume_is v x there)

  pub judged_as : (v i : ℕ) (x y : ℕ × List SegRecord) (rs : List SegRecord) (r : SegRecord) → v < length vs → rs ≡ (get_or vs v y).1 → i < length rs → r ≡ get_or rs i r →
      tests_of k (records_of vs) (records_of (take v vs) ++ take i rs) (get_or vs v x).0 r ≡ tests_at k vs v i
  judged_as v i x y rs r there e lt is =
      let own : rs ≡ (volume_at vs v).1 = records_are v y rs there e in
      tests_are v i (get_or vs v x).0 (take v vs) rs (take i rs) r (ap (λ (p : ℕ × List SegRecord). p.0) (volume_is v x there)) refl own refl (record_is v i rs r own lt is)

  -- ---- the first fault

  pub least : (v i code : ℕ) → first_code (tests_at k vs v i) ≡ Some code → IsLeastCode (λ n. n) (tests_at k vs v i) code
  least v i code e = first_holds (λ n. n) 0 (tests_at k vs v i) code (omega arith, (omega arith, (omega arith, (omega arith, (omega arith, tt))))) e

  pub no_code : (v i : ℕ) → first_code (tests_at k vs v i) ≡ None → HasNoCode (tests_at k vs v i)
  no_code v i e = none_holds (tests_at k vs v i) e

  pub none_yet : FaultlessBelow k vs 0
  none_yet = λ v lt. absurd (omega (arith, lt))

  pub no_item_yet : (v : ℕ) → AreFaultless k vs v 0
  no_item_yet v = λ i lt. absurd (omega (arith, lt))

  pub one_volume_more : (n : ℕ) → FaultlessBelow k vs n → AreFaultless k vs n (length (volume_at vs n).1) → FaultlessBelow k vs (n + 1)
  one_volume_more n below here v lt = either (cases_lt v n)
    where
      either : (v < n) ⊎ (n ≤ v) → AreFaultless k vs v (length (volume_at vs v).1)
      either (inl less) = below v less
      either (inr more) = let same : n ≡ v = omega (arith, lt, more) in subst (λ w. AreFaultless k vs w (length (volume_at vs w).1)) same here

  pub one_item_more : (v n : ℕ) → AreFaultless k vs v n → HasNoCode (tests_at k vs v n) → AreFaultless k vs v (n + 1)
  one_item_more v n below here i lt = either (cases_lt i n)
    where
      either : (i < n) ⊎ (n ≤ i) → HasNoCode (tests_at k vs v i)
      either (inl less) = below i less
      either (inr more) = let same : n ≡ i = omega (arith, lt, more) in subst (λ w. HasNoCode (tests_at k vs v w)) same here

  pub all_volumes : (n : ℕ) → FaultlessBelow k vs n → length vs ≤ n → Loads k vs
  all_volumes n below past = λ v lt. below v (omega (arith, lt, past))

  pub all_items : (v n : ℕ) (rs : List SegRecord) → AreFaultless k vs v n → rs ≡ (volume_at vs v).1 → length rs ≤ n → AreFaultless k vs v (length (volume_at vs v).1)
  all_items v n rs below e past = λ i lt. below i (omega (arith, lt, past, ap length e))
