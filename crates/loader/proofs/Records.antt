-- Where no record of the volumes is at fault, the configuration with these records is valid.
use Rattle.std.proofs.Common.{ℕ, suc, ◌<◌, ◌≤◌, Bool, true, false, not, ◌&&◌, List, [], ◌∷◌, ◌++◌, ◌≡◌, refl, sym, ap, subst, ◌∙◌, Option, Some, None, cond, arith, length, get_or, take, append_assoc}
use Rattle.std.proofs.lemmas.Bool.{and_from, and_parts, or_parts, eqb-true, eq-eqb, le-leb, ltb-false, not-false, not_from_false, false_from_ne_true}
use Rattle.std.proofs.lemmas.List.{append-nil}
use Rattle.std.proofs.lemmas.List.Folds.{list_any-append}
use Rattle.std.proofs.lemmas.List.Sums.{sum_by-append}
use Rattle.std.specs.Prelude.{◌==◌, nat_lt, count_by, is_some, slice_index, IfSome}
use Rattle.std.specs.List.{list_any, list_all, AllByRecursion}
use Rattle.std.specs.Option.{option_map_or}
use Rattle.lists.specs.Lists.{below}
use Rattle.text_lines.specs.Faults.{HasNoCode}
use Rattle.text_lines.proofs.FirstFault.{no_code_none}
use Rattle.words_layout.specs.Segments.{seg, same_seg}
use Rattle.words_layout.specs.declared.segment.SegId.{SegId}
use Rattle.config_text.specs.declared.config.Config.{Config as ConfigText}
use Rattle.config_text.specs.Valid.{IsValid}
use Rattle.class_model.specs.Config.{Config, SegRecord, pool_of, shared_of}
use Rattle.class_model.specs.Valid.{IsConfig, record_ok, records_distinct, pages_ok}
use Rattle.volume_image.specs.Valid.{is_class, AreWords, IsRecord, AreRecords, IsVolume}
use Rattle.volume_image.specs.declared.head.Format.TheVariants.{Two}
use Rattle.loader.specs.Configuration.{configuration}
use Rattle.loader.specs.Records.{Volumes, records_of, numbers_of, named_by, Ascend, AreVolumes, same_entry, mentor_right, is_kept, tests_of, volume_at, no_record, record_at, Loads}
use Rattle.loader.proofs.Validity.{is_config, numbers_pass}

-- ---- comparing is symmetric

same_back : (u v : SegId) → same_seg u v ≡ true → same_seg v u ≡ true
same_back u v e =
    let p = and_parts (u.mentor == v.mentor) (u.serial == v.serial) e in
    and_from _ _ (eq-eqb _ _ (sym (eqb-true u.mentor v.mentor p.0))) (eq-eqb _ _ (sym (eqb-true u.serial v.serial p.1)))

other_back : (u v : SegId) → same_seg u v ≡ false → same_seg v u ≡ false
other_back u v e = false_from_ne_true (same_seg v u) (λ same. let f = same_back v u same in absurd cc)

entry_back : (r x : SegRecord) → same_entry r x ≡ true → same_entry x r ≡ true
entry_back r x e =
    let p = and_parts (same_seg x.mentor r.mentor && x.seg.mentor == r.seg.mentor) (x.entry == r.entry) e in
    let q = and_parts (same_seg x.mentor r.mentor) (x.seg.mentor == r.seg.mentor) p.0 in
    and_from _ _ (and_from _ _ (same_back x.mentor r.mentor q.0) (eq-eqb _ _ (sym (eqb-true x.seg.mentor r.seg.mentor q.1)))) (eq-eqb _ _ (sym (eqb-true x.entry r.entry p.1)))

other_entry_back : (r x : SegRecord) → same_entry x r ≡ false → same_entry r x ≡ false
other_entry_back r x e = false_from_ne_true (same_entry r x) (λ same. let f = entry_back r x same in absurd cc)

-- ---- what is among the records before

-- Each test that none of these passes, r doesn't pass.
abbrev Has : List SegRecord → SegRecord → Type 0
Has before r = (p : SegRecord → Bool) → list_any p before ≡ false → p r ≡ false

has_more : (before : List SegRecord) (r x : SegRecord) → Has before r → Has (before ++ x ∷ []) r
has_more before r x has p none = has p (or_parts (list_any p before) (list_any p (x ∷ [])) (sym (list_any-append p before (x ∷ [])) ∙ none)).0

has_last : (before : List SegRecord) (r : SegRecord) → Has (before ++ r ∷ []) r
has_last before r p none = (or_parts (p r) false (or_parts (list_any p before) (list_any p (r ∷ [])) (sym (list_any-append p before (r ∷ [])) ∙ none)).1).0

words_pass : (o : Option (List ℕ)) (size : ℕ) → IfSome o (AreWords size) → option_map_or (λ (words : List ℕ). length words == size) o true ≡ true
words_pass None size ok = refl
words_pass (Some words) size ok = eq-eqb _ _ ok.0

module _ (k : ConfigText) (all : List SegRecord) where
  abbrev here : Config
  here = configuration k all

  abbrev pages : ℕ → ℕ
  pages c = (pool_of (shared_of (configuration k [])) c).pages

  record_passes : (u : SegId) (r : SegRecord) → IsRecord Two k.table u r → (slice_index (named_by k) r.class == 0) ≡ false → mentor_right all r ≡ true → record_ok here r ≡ true
  record_passes u r ok named mentor =
      let own = and_parts (is_class k.table r.seg.mentor) (nat_lt r.seg.serial 64) ok.seg in
      let up = and_parts (is_class k.table r.mentor.mentor) (nat_lt r.mentor.serial 64) ok.mentor in
      let stands = and_parts _ _ ok.stands in
      and_from _ _ (and_from _ _ (and_from _ _ (and_from _ _ (and_from _ _ (and_from _ _ (and_from _ _ (and_from _ _ (and_from _ _ (and_from _ _ (and_from _ _ (and_from _ _ (and_from _ _ (and_from _ _
      (not_from_false _ named) own.0) own.1) (not_from_false _ ok.other)) ok.class) up.0) ok.flows) ok.brackets) ok.size) up.1) ok.entry) stands.0) stands.1) (words_pass r.kept r.size ok.kept)) mentor

  -- what holds of a record that follows those before it
  record Good (before : List SegRecord) (r : SegRecord) : Type 0 where
    passes : record_ok here r ≡ true
    fresh : list_any (λ (x : SegRecord). same_seg x.seg r.seg) before ≡ false
    free : list_any (same_entry r) before ≡ false
    fits : nat_lt (pages r.class) (count_by (is_kept r.class) (before ++ r ∷ [])) ≡ false

  abbrev AllGood : List SegRecord → List SegRecord → Type 0
  AllGood before [] = Unit {0}
  AllGood before (r ∷ rs) = Good before r × AllGood (before ++ r ∷ []) rs

  good_append : (before xs ys : List SegRecord) → AllGood before xs → AllGood (before ++ xs) ys → AllGood before (xs ++ ys)
  good_append before [] ys good more = subst (λ (t : List SegRecord). AllGood t ys) (append-nil before) more
  good_append before (x ∷ xs) ys good more = (good.0, good_append (before ++ x ∷ []) xs ys good.1 (subst (λ (t : List SegRecord). AllGood t ys) (sym (append_assoc before (x ∷ []) xs)) more))

  -- ---- from the tests

  good_one : (before : List SegRecord) (number : ℕ) (u : SegId) (r : SegRecord) → 0 < number → IsRecord Two k.table u r → HasNoCode (tests_of k all before number r) → Good before r
  good_one before number u r some ok none =
      let tests = no_code_none (tests_of k all before number r) none in
      let named : slice_index (named_by k) r.class ≡ number = eqb-true _ _ (not-false _ tests.0) in
      record {
        passes = record_passes u r ok (false_from_ne_true (slice_index (named_by k) r.class == 0) (λ e. let z : slice_index (named_by k) r.class ≡ 0 = eqb-true _ _ e in absurd (omega (arith, z, named, some)))) (not-false _ tests.1.1.0);
        fresh = tests.1.0;
        free = tests.1.1.1.0;
        fits = tests.1.1.1.1.0;
      }

  good_volume : (before : List SegRecord) (number : ℕ) (u : SegId) (rs : List SegRecord) → 0 < number → AreRecords Two k.table u rs →
      ((i : ℕ) → i < length rs → HasNoCode (tests_of k all (before ++ take i rs) number (get_or rs i no_record))) → AllGood before rs
  good_volume before number u [] some ok none = tt
  good_volume before number u (r ∷ rs) some ok none = (
    good_one before number u r some ok.0 (subst (λ (t : List SegRecord). HasNoCode (tests_of k all t number r)) (append-nil before) (none 0 (omega arith))),
    good_volume (before ++ r ∷ []) number r.seg rs some ok.1 (λ i lt. subst (λ (t : List SegRecord). HasNoCode (tests_of k all t number (get_or rs i no_record))) (sym (append_assoc before (r ∷ []) (take i rs))) (none (suc i) (omega (arith, lt)))),
  )

  good_volumes : (before : List SegRecord) (low : ℕ) (vs : Volumes) → AllByRecursion (λ (v : ℕ × List SegRecord). IsVolume k.table v.1) vs → Ascend low (numbers_of vs) →
      ((v i : ℕ) → v < length vs → i < length (volume_at vs v).1 → HasNoCode (tests_of k all (before ++ (records_of (take v vs) ++ take i (volume_at vs v).1)) (volume_at vs v).0 (record_at vs v i))) → AllGood before (records_of vs)
  good_volumes before low [] ok up none = tt
  good_volumes before low (w ∷ vs) ok up none =
      good_append before w.1 (records_of vs) (good_volume before w.0 (seg 0 0) w.1 (omega (arith, up.0)) ok.0.records (λ i lt. none 0 i (omega arith) lt))
      (good_volumes (before ++ w.1) w.0 vs ok.1 up.1 (λ v i there lt. subst (λ (t : List SegRecord). HasNoCode (tests_of k all t (volume_at vs v).0 (record_at vs v i)))
      (ap (λ (t : List SegRecord). before ++ t) (append_assoc w.1 (records_of (take v vs)) (take i (volume_at vs v).1)) ∙ sym (append_assoc before w.1 (records_of (take v vs) ++ take i (volume_at vs v).1)))
      (none (suc v) i (omega (arith, there)) lt)))

  -- ---- to the parts of validity

  all_pass : (before rs : List SegRecord) → AllGood before rs → list_all (record_ok here) rs ≡ true
  all_pass before [] good = refl
  all_pass before (r ∷ rs) good = and_from _ _ good.0.passes (all_pass (before ++ r ∷ []) rs good.1)

  later_differ : (r : SegRecord) (before rs : List SegRecord) → Has before r → AllGood before rs → list_all (λ (x : SegRecord). not (same_seg x.seg r.seg) && not (same_seg x.mentor r.mentor && x.seg.mentor == r.seg.mentor && x.entry == r.entry)) rs ≡ true
  later_differ r before [] has good = refl
  later_differ r before (x ∷ rs) has good = and_from _ _
      (and_from _ _ (not_from_false _ (other_back r.seg x.seg (has (λ (y : SegRecord). same_seg y.seg x.seg) good.0.fresh))) (not_from_false _ (other_entry_back r x (has (same_entry x) good.0.free))))
      (later_differ r (before ++ x ∷ []) rs (has_more before r x has) good.1)

  all_differ : (before rs : List SegRecord) → AllGood before rs → records_distinct rs ≡ true
  all_differ before [] good = refl
  all_differ before (r ∷ rs) good = and_from _ _ (later_differ r (before ++ r ∷ []) rs (has_last before r) good.1) (all_differ (before ++ r ∷ []) rs good.1)

  one_fits : (c : ℕ) (before : List SegRecord) (r : SegRecord) → Good before r → count_by (is_kept c) before ≤ pages c → count_by (is_kept c) (before ++ r ∷ []) ≤ pages c
  one_fits c before r good le =
      elim (is_kept c r) as (λ b. is_kept c r ≡ b → count_by (is_kept c) (before ++ r ∷ []) ≤ pages c) [
        | true ↦ λ kept. (let same : r.class ≡ c = eqb-true _ _ (and_parts (r.class == c) (is_some r.kept) kept).0 in
            subst (λ d. count_by (is_kept d) (before ++ r ∷ []) ≤ pages d) same (ltb-false (pages r.class) (count_by (is_kept r.class) (before ++ r ∷ [])) good.fits))
        | false ↦ λ other. (let parts = sum_by-append (λ (x : SegRecord). cond (is_kept c x) 1 0) before (r ∷ []) in
            let none : count_by (is_kept c) (r ∷ []) ≡ 0 = rw other refl in
            omega (arith, parts, none, le))
      ] refl

  all_fit : (c : ℕ) (before rs : List SegRecord) → AllGood before rs → count_by (is_kept c) before ≤ pages c → count_by (is_kept c) (before ++ rs) ≤ pages c
  all_fit c before [] good le = subst (λ (t : List SegRecord). count_by (is_kept c) t ≤ pages c) (sym (append-nil before)) le
  all_fit c before (r ∷ rs) good le = subst (λ (t : List SegRecord). count_by (is_kept c) t ≤ pages c) (append_assoc before (r ∷ []) rs) (all_fit c (before ++ r ∷ []) rs good.1 (one_fits c before r good.0 le))

  records_pass : AllGood [] all → (list_all (record_ok here) all && records_distinct all && list_all (pages_ok here) (below (length k.table))) ≡ true
  records_pass good = and_from _ _ (and_from _ _ (all_pass [] all good) (all_differ [] all good)) (numbers_pass (pages_ok here) (length k.table) 0 (λ c a b. le-leb _ _ (all_fit c [] all good (omega arith))))

pub loaded_config : (k : ConfigText) → IsValid k → (vs : Volumes) → AreVolumes k vs → Loads k vs → IsConfig (configuration k (records_of vs))
loaded_config k valid vs ok loads =
    let base = is_config k valid in
    record {
      table = base.table;
      pools = base.pools;
      volumes = base.volumes;
      processors = base.processors;
      cycle = base.cycle;
      rounds = base.rounds;
      console = base.console;
      scripts = base.scripts;
      gates = base.gates;
      processes = base.processes;
      records = records_pass k (records_of vs) (good_volumes k (records_of vs) [] 0 vs ok.valid ok.ascend (λ v i there lt. loads v there i lt));
    }
