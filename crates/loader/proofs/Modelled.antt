-- How the state of the machine of whole instructions is built for what a class sees.
use Rattle.std.proofs.Common.{ℕ, zero, suc, ◌+◌, ◌<◌, ◌≤◌, ◌≡◌, ◌∙◌, Bool, true, false, ◌&&◌, List, [], ◌∷◌, ◌++◌, refl, sym, ap, subst, arith, length, take, get_or, map, cond, None}
use Rattle.std.proofs.lemmas.Bool.{and_parts, and_from, eqb-true, eq-eqb, ltb-true, leb-true}
use Rattle.std.proofs.lemmas.List.{map_more, append-nil}
use Rattle.std.proofs.lemmas.List.Elements.{filter-append}
use Rattle.std.proofs.lemmas.List.Sums.{sum_by-cons}
use Rattle.std.specs.Prelude.{◌==◌, nat_lt, nat_le, count_by}
use Rattle.std.specs.List.{filter, list_all, AllByRecursion}
use Rattle.labels.specs.Label.{at_or_below}
use Rattle.config_text.specs.declared.config.Config.{Config as ConfigText}
use Rattle.config_text.specs.declared.config.ProcessLine.{ProcessLine as ProcessText}
use Rattle.config_text.specs.Valid.{IsValid, is_class, uses_script}
use Rattle.config_text.specs.Valid.{process_ok as text_process_ok}
use Rattle.class_model.specs.Config.{Config, SegRecord, ProcessLine, low_config}
use Rattle.class_model.specs.Run.{opening}
use Rattle.class_model.specs.State.{process_at}
use Rattle.class_model.specs.Valid.{IsConfig, record_ok, records_distinct}
use Rattle.flow_laws.proofs.LowValid.{low_valid}
use Rattle.flow_laws.proofs.Records.{is_record}
use Rattle.whole_machine.specs.Building.{all_recorded, is_beside, with_new}
use Rattle.whole_machine.proofs.Built.{process_is, nobody_there, records_are, valid_fresh}
use Rattle.loader.specs.Building.{IsPut, name_of, low_of}
use Rattle.loader.specs.Configuration.{configuration, process_of_text}
use Rattle.loader.specs.Records.{Volumes, AreVolumes, Loads, records_of}
use Rattle.loader.proofs.Validity.{count_of_map, header_tests}
use Rattle.loader.proofs.Records.{loaded_config}

-- ---- lists

-- what passes throughout passes at a place
at_place : {X : Type 0} (test : X → Bool) (xs : List X) (i : ℕ) (d : X) → list_all test xs ≡ true → i < length xs → test (get_or xs i d) ≡ true
at_place test [] i d all lt = absurd (omega arith)
at_place test (x ∷ xs) zero d all lt = (and_parts (test x) (list_all test xs) all).0
at_place test (x ∷ xs) (suc i) d all lt = at_place test xs i d (and_parts (test x) (list_all test xs) all).1 (omega arith)

-- before an item that passes fewer pass than in the whole list
fewer_before : {X : Type 0} (test : X → Bool) (xs : List X) (i : ℕ) (d : X) → i < length xs → test (get_or xs i d) ≡ true → count_by test (take i xs) < count_by test xs
fewer_before test [] i d lt here = absurd (omega arith)
fewer_before test (x ∷ xs) zero d lt here =
    let own : ◌≡◌ {A = ℕ} (cond (test x) 1 0) 1 = ap (λ (t : Bool). cond {A = ℕ} t 1 0) here in
    omega (arith, sum_by-cons (λ y. cond (test y) 1 0) x xs, own)
fewer_before test (x ∷ xs) (suc i) d lt here =
    let rest : count_by test (take i xs) < count_by test xs = fewer_before test xs i d (omega arith) here in
    omega (arith, rest, sum_by-cons (λ y. cond (test y) 1 0) x xs, sum_by-cons (λ y. cond (test y) 1 0) x (take i xs))

-- where all that pass one test pass another, it is the same to count those that pass the other
count_filtered : {X : Type 0} (test low : X → Bool) → ((x : X) → test x ≡ true → low x ≡ true) → (xs : List X) → count_by test (filter low xs) ≡ count_by test xs
count_filtered test low all [] = refl
count_filtered test low all (x ∷ xs) = by_tests (count_filtered test low all xs) (test x) (low x) refl refl ∙ sym (sum_by-cons (λ y. cond (test y) 1 0) x xs)
  where
    by_tests : count_by test (filter low xs) ≡ count_by test xs → (t l : Bool) → test x ≡ t → low x ≡ l → count_by test (cond l (x ∷ filter low xs) (filter low xs)) ≡ cond t 1 0 + count_by test xs
    by_tests rest true true a b = sum_by-cons (λ y. cond (test y) 1 0) x (filter low xs) ∙ ap (λ (z : Bool). cond {A = ℕ} z 1 0 + count_by test (filter low xs)) a ∙ ap (λ n. 1 + n) rest
    by_tests rest true false a b = absurd (let e : true ≡ false = sym (all x a) ∙ b in cc)
    by_tests rest false true a b = sum_by-cons (λ y. cond (test y) 1 0) x (filter low xs) ∙ ap (λ (z : Bool). cond {A = ℕ} z 1 0 + count_by test (filter low xs)) a ∙ ap (λ n. 0 + n) rest
    by_tests rest false false a b = omega (arith, rest)

-- ---- processes

-- the lines at or below a class among the first n
abbrev pub low_lines : ConfigText → ℕ → ℕ → List ProcessLine
low_lines k c n = filter (λ (p : ProcessLine). at_or_below k.table p.class c) (map process_of_text (take n k.processes))

-- what is at or below the class, with no processes but those of the first n lines, and without records
abbrev pub low_first : ConfigText → ℕ → ℕ → Config
low_first k c n = record (low_of k c) { processes = low_lines k c n }

module _ (k : ConfigText) (c : ℕ) (valid : IsValid k) (n : ℕ) (x : ProcessText) (there : n < length k.processes) (read : x ≡ get_or k.processes n x) where
  abbrev line : ProcessLine
  line = process_of_text x

  abbrev front : List ProcessLine
  front = map process_of_text (take n k.processes)

  passes : text_process_ok k x ≡ true
  passes = subst (λ (y : ProcessText). text_process_ok k y ≡ true) (sym read) (at_place (text_process_ok k) k.processes n x valid.processes there)

  ranges : ((nat_lt x.processor k.processors ≡ true) × (is_class k x.class ≡ true))
  ranges = and_parts (nat_lt x.processor k.processors) (is_class k x.class) (and_parts _ (nat_le x.ring 7) (and_parts _ (uses_script k x.class x.script) passes).0).0

  pub line_class : x.class < length k.table
  line_class = ltb-true x.class (length k.table) ranges.1

  pub line_processor : x.processor < 4
  line_processor =
      let own : x.processor < k.processors = ltb-true x.processor k.processors ranges.0 in
      let most : k.processors ≤ 4 = leb-true k.processors 4 (and_parts (nat_le 1 k.processors) (nat_le k.processors 4) (header_tests k valid).0.0).1 in
      omega arith

  abbrev beside : ProcessText → Bool
  beside y = y.processor == x.processor && y.class == x.class

  pub line_slot : (name_of (take n k.processes) x).slot < 4
  line_slot =
      let own : beside (get_or k.processes n x) ≡ true = subst (λ (y : ProcessText). beside y ≡ true) read (and_from (x.processor == x.processor) (x.class == x.class) (eq-eqb x.processor x.processor refl) (eq-eqb x.class x.class refl)) in
      let fewer : count_by beside (take n k.processes) < count_by beside k.processes = fewer_before beside k.processes n x there own in
      let most : count_by beside k.processes ≤ 4 = valid.few_processes x.processor x.class (ltb-true x.processor k.processors ranges.0) line_class in
      let same : count_by (is_beside line) front ≡ count_by beside (take n k.processes) = count_of_map (is_beside line) (take n k.processes) in
      omega arith

  lines_more : low_lines k c (n + 1) ≡ low_lines k c n ++ filter (λ (p : ProcessLine). at_or_below k.table p.class c) (line ∷ [])
  lines_more =
      ap (filter (λ (p : ProcessLine). at_or_below k.table p.class c))
      (map_more process_of_text k.processes n x there ∙ ap (λ (y : ProcessText). front ++ process_of_text y ∷ []) (sym read))
      ∙ filter-append (λ (p : ProcessLine). at_or_below k.table p.class c) front (line ∷ [])

  -- a line that isn't seen changes nothing
  pub line_passed : at_or_below k.table x.class c ≡ false → opening (low_first k c n) ≡ opening (low_first k c (n + 1))
  line_passed high = ap (λ (ls : List ProcessLine). opening (record (low_of k c) { processes = ls }))
      (sym (lines_more ∙ (ap (λ t. low_lines k c n ++ cond t (line ∷ []) []) high ∙ append-nil (low_lines k c n))))

  module _ (low : at_or_below k.table x.class c ≡ true) where
    slot_same : count_by (is_beside line) (low_lines k c n) ≡ count_by (is_beside line) front
    slot_same = count_filtered (is_beside line) (λ (p : ProcessLine). at_or_below k.table p.class c)
        (λ p same. (let class : p.class ≡ x.class = eqb-true p.class x.class (and_parts (p.processor == x.processor) (p.class == x.class) same).1 in
        subst (λ d. at_or_below k.table d c ≡ true) (sym class) low)) front

    few : count_by (is_beside line) (low_lines k c n) < 4
    few = subst (λ m. m < 4) (sym slot_same) line_slot

    -- nobody is in the slot of a line that is seen
    pub line_absent : process_at (opening (low_first k c n)) (name_of (take n k.processes) x) ≡ None
    line_absent = subst (λ m. process_at (opening (low_first k c n)) (record { processor = x.processor; class = x.class; slot = m }) ≡ None) slot_same
        (nobody_there (low_of k c) (low_lines k c n) line few)

    -- and its process is put there
    pub line_put : with_new (opening (low_first k c n)) (name_of (take n k.processes) x) x.script x.ring ≡ opening (low_first k c (n + 1))
    line_put =
        ap (λ m. with_new (opening (low_first k c n)) (record { processor = x.processor; class = x.class; slot = m }) x.script x.ring) (sym slot_same)
        ∙ process_is (low_of k c) (low_lines k c n) line few
        ∙ ap (λ (ls : List ProcessLine). opening (record (low_of k c) { processes = ls }))
        (sym (lines_more ∙ ap (λ t. low_lines k c n ++ cond t (line ∷ []) []) low))

-- ---- records

-- a list of no length is empty
pub nothing_left : {X : Type 0} (xs : List X) → length xs ≡ 0 → xs ≡ []
nothing_left [] h = refl
nothing_left (x ∷ xs) h = absurd (omega arith)

-- one record is put, and the rest is still to be
pub put_one : (n : ℕ) (r : SegRecord) (rest records : List SegRecord) → records ≡ r ∷ rest → AllByRecursion (IsPut n) records → IsPut n r × AllByRecursion (IsPut n) rest
put_one n r rest records is all = let both = subst (λ (rs : List SegRecord). AllByRecursion (IsPut n) rs) is all in (both.0, both.1)

all_put : (k : Config) (rs : List SegRecord) → list_all (record_ok k) rs ≡ true → AllByRecursion (IsPut (length k.table)) rs
all_put k [] ok = tt
all_put k (r ∷ rs) ok =
    let parts = and_parts (record_ok k r) (list_all (record_ok k) rs) ok in
    let h = is_record k r parts.0 in
    (record { mentor = h.mentor; class = h.class; serial = h.serial; entry = h.entry; ordered = h.in_order }, all_put k rs parts.1)

module _ (k : ConfigText) (c : ℕ) (valid : IsValid k) (vs : Volumes) (ok : AreVolumes k vs) (loads : Loads k vs) where
  abbrev low : Config
  low = low_config c (configuration k (records_of vs))

  low_ok : IsConfig low
  low_ok = low_valid (configuration k (records_of vs)) c (loaded_config k valid vs ok loads)

  pub records_put : AllByRecursion (IsPut (length k.table)) low.records
  records_put =
      let a = and_parts (list_all (record_ok low) low.records && records_distinct low.records) _ low_ok.records in
      all_put low low.records (and_parts (list_all (record_ok low) low.records) (records_distinct low.records) a.0).0

  pub records_put_in : all_recorded (opening (low_of k c)) low.records ≡ opening low
  records_put_in = records_are low [] low.records (valid_fresh low low_ok)
