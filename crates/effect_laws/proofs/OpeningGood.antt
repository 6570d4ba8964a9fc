-- The opening of a valid configuration is good: its records give sizes and brackets.
use Rattle.std.proofs.Common.{ℕ, ◌+◌, ◌≤◌, ◌<◌, Bool, true, false, not, ◌&&◌, List, [], ◌∷◌, ◌≡◌, refl, sym, ap, subst, ◌∙◌, Option, Some, None, arith, length}
use Rattle.std.specs.Prelude.{◌==◌, if◌then◌else◌, cond, max, fold}
use Rattle.std.specs.List.{find, list_all}
use Rattle.std.specs.Option.{option_map, option_map_or, option_and_then}
use Rattle.std.proofs.Math.ListN.{get_or-map}
use Rattle.std.proofs.lemmas.Bool.{and_parts, and_from, eqb-true, eq-eqb}
use Rattle.lists.specs.Lists.{below}
use Rattle.labels.specs.Label.{at_or_below}
use Rattle.rings.specs.Brackets.{in_order}
use Rattle.words_layout.specs.Segments.{seg, same_seg}
use Rattle.words_layout.specs.declared.segment.SegId.{SegId}
use Rattle.words_layout.specs.declared.coding.Alias.{Alias}
use Rattle.words_layout.proofs.Names.{same_seg-true, same_seg-refl}
use Rattle.policy.specs.Known.{Known}
use Rattle.class_model.specs.Config.{Config, SegRecord, shared_of}
use Rattle.class_model.specs.Process.{Process, ProcName, new_process, known_at}
use Rattle.class_model.specs.Run.{record_of, kept_of, alias_of, opening_entry, opening_cell, opening_slots, opening}
use Rattle.class_model.specs.State.{In, process_at}
use Rattle.class_model.specs.Valid.{IsConfig, record_ok, is_root}
use Rattle.process.specs.Running.{Running}
use Rattle.process.specs.Fits.{Fits}
use Rattle.machine.specs.Machine.{slot_at}
use Rattle.machine.specs.Opening.{opening_vp}
use Rattle.flow_laws.proofs.FlowLaws.{records_ok}
use Rattle.flow_laws.proofs.Lists.{made_of_one, made_some}
use Rattle.flow_laws.proofs.OpeningFits.{FromLine, from_line, opening_all_fit}
use Rattle.flow_laws.proofs.Records.{IsRecord, is_record}
use Rattle.flow_laws.proofs.Sound.{sound_config, some_class}
use Rattle.report_laws.proofs.Paged.{find_true, segs_apart, find_passes}
use Rattle.report_laws.proofs.Recorded.{record_stands, valid_records}
use Rattle.effect_laws.proofs.Good.{Given, InUse, EntryGood, WordsGood, CellGood, KnownGood, ProcessGood, RootGood, Good, at_rest}
use Rattle.effect_laws.proofs.GoodPlan.{new_knows}

-- ---- the next serial

-- the next serial behind one record more
abbrev pub rises : ℕ → ℕ → SegRecord → ℕ
rises c n r = if r.seg.mentor == c then max n (r.seg.serial + 1) else n

pub one_rises : (c n : ℕ) (r : SegRecord) → n ≤ rises c n r
one_rises c n r = elim (r.seg.mentor == c) as (λ b. n ≤ (if b then max n (r.seg.serial + 1) else n)) [ true ↦ omega arith | false ↦ omega arith ]

pub serial_least : (c n : ℕ) (rs : List SegRecord) → n ≤ fold (rises c) n rs
serial_least c n [] = omega arith
serial_least c n (r ∷ rs) = let a = one_rises c n r in let b = serial_least c (rises c n r) rs in omega (arith, a, b)

serial_most : (k : Config) (c n : ℕ) (rs : List SegRecord) → list_all (record_ok k) rs ≡ true → n ≤ 64 → fold (rises c) n rs ≤ 64
serial_most k c n [] h l = l
serial_most k c n (r ∷ rs) h l =
    let a : (record_ok k r ≡ true) × (list_all (record_ok k) rs ≡ true) = and_parts _ _ h in
    serial_most k c (rises c n r) rs a.1 (by_class (is_record k r a.0).serial (r.seg.mentor == c))
  where
    by_class : r.seg.serial < 64 → (b : Bool) → (if b then max n (r.seg.serial + 1) else n) ≤ 64
    by_class s true = omega (arith, s, l)
    by_class s false = l

serial_below : (c n : ℕ) (test : SegRecord → Bool) (rs : List SegRecord) (r : SegRecord) → find test rs ≡ Some r → r.seg.mentor ≡ c → r.seg.serial < fold (rises c) n rs
serial_below c n test [] r h e = cc
serial_below c n test (x ∷ xs) r h e = by_test (test x) h (serial_below c (rises c n x) test xs r)
  where
    by_test : (b : Bool) → cond b (Some x) (find test xs) ≡ Some r → (find test xs ≡ Some r → r.seg.mentor ≡ c → r.seg.serial < fold (rises c) (rises c n x) xs) → r.seg.serial < fold (rises c) (rises c n x) xs
    by_test true g rest =
        let same : x ≡ r = cc in
        let mentor : x.seg.mentor ≡ c = ap (λ (z : SegRecord). z.seg.mentor) same ∙ e in
        let serial : x.seg.serial ≡ r.seg.serial = ap (λ (z : SegRecord). z.seg.serial) same in
        let up : rises c n x ≡ max n (x.seg.serial + 1) = ap (λ (b : Bool). if b then max n (x.seg.serial + 1) else n) (eq-eqb x.seg.mentor c mentor) in
        let least = serial_least c (rises c n x) xs in omega (arith, up, least, serial)
    by_test false g rest = rest g e

-- ---- records

pub same_seg-sym : (u v : SegId) → same_seg u v ≡ true → same_seg v u ≡ true
same_seg-sym u v h = subst (λ z. same_seg v z ≡ true) (sym (same_seg-true u v h)) (same_seg-refl v)

-- a record that is found is the one of its class and identity
find_own : (test : SegRecord → Bool) (rs : List SegRecord) (r : SegRecord) → segs_apart rs ≡ true → find test rs ≡ Some r →
    find (λ (x : SegRecord). x.class == r.class && same_seg x.seg r.seg) rs ≡ Some r
find_own test [] r a h = cc
find_own test (x ∷ xs) r a h =
    let parts : (list_all (λ (y : SegRecord). not (same_seg y.seg x.seg)) xs ≡ true) × (segs_apart xs ≡ true) = and_parts _ _ a in
    by_test (test x) h parts.0 (find_own test xs r parts.1)
  where
    not_true : (b : Bool) → not b ≡ true → b ≡ true → ⊥
    not_true true e f = cc
    not_true false e f = cc

    by_test : (b : Bool) → cond b (Some x) (find test xs) ≡ Some r → list_all (λ (y : SegRecord). not (same_seg y.seg x.seg)) xs ≡ true →
        (find test xs ≡ Some r → find (λ (y : SegRecord). y.class == r.class && same_seg y.seg r.seg) xs ≡ Some r) →
        cond (x.class == r.class && same_seg x.seg r.seg) (Some x) (find (λ (y : SegRecord). y.class == r.class && same_seg y.seg r.seg) xs) ≡ Some r
    by_test true g apart rest =
        let same : x ≡ r = cc in
        let t : (x.class == r.class && same_seg x.seg r.seg) ≡ true = and_from _ _ (eq-eqb x.class r.class (ap (λ (z : SegRecord). z.class) same)) (subst (λ (z : SegRecord). same_seg x.seg z.seg ≡ true) same (same_seg-refl x.seg)) in
        rw t g
    by_test false g apart rest =
        let other : not (same_seg r.seg x.seg) ≡ true = find_passes test (λ (y : SegRecord). not (same_seg y.seg x.seg)) xs r apart g in
        let t : (x.class == r.class && same_seg x.seg r.seg) ≡ false = Rattle.std.proofs.lemmas.Bool.false_from_ne_true _ (λ z.
        (let both = and_parts (x.class == r.class) (same_seg x.seg r.seg) z in not_true (same_seg r.seg x.seg) other (same_seg-sym x.seg r.seg both.1))) in
        rw t (rest g)

module _ (k : Config) (valid : IsConfig k) where
  -- what the records give, and the root
  abbrev given : Given
  given = record {
    size = λ c u. option_map_or (λ (r : SegRecord). r.size) (record_of k c u) 0;
    brackets = λ c u. option_map_or (λ (r : SegRecord). r.brackets) (record_of k c u) (record { r1 = 7; r2 = 7; r3 = 7 });
  }

  apart : segs_apart k.records ≡ true
  apart = (valid_records k valid).apart

  recorded : (test : SegRecord → Bool) (r : SegRecord) → find test k.records ≡ Some r → record_ok k r ≡ true
  recorded test r h = find_passes test (record_ok k) k.records r (records_ok k valid) h

  record_used : (test : SegRecord → Bool) (r : SegRecord) → find test k.records ≡ Some r → InUse (opening k) r.seg
  record_used test r h = record { mentor = (is_record k r (recorded test r h)).mentor; serial = serial_below r.seg.mentor (if r.seg.mentor == 0 then 1 else 0) test k.records r h refl }

  no_root : record_of k 0 (seg 0 0) ≡ None
  no_root = by_found (record_of k 0 (seg 0 0)) refl
    where
      clash : (b : Bool) → not b ≡ true → b ≡ true → ⊥
      clash true e f = cc
      clash false e f = cc

      by_found : (o : Option SegRecord) → record_of k 0 (seg 0 0) ≡ o → o ≡ None
      by_found None e = refl
      by_found (Some r) e =
          let both = and_parts (r.class == 0) (same_seg r.seg (seg 0 0)) (find_true (λ (x : SegRecord). x.class == 0 && same_seg x.seg (seg 0 0)) k.records r e) in
          absurd (clash (is_root r.seg) (record_stands k r (recorded (λ (x : SegRecord). x.class == 0 && same_seg x.seg (seg 0 0)) r e)).other both.1)

  root_good : RootGood given (opening k)
  root_good = record {
    in_use = record { mentor = some_class k valid; serial = (let h : 1 ≤ fold (rises 0) 1 k.records = serial_least 0 1 k.records in h) };
    size = ap (λ o. option_map_or (λ (r : SegRecord). r.size) o 0) no_root;
    brackets = ap (λ o. option_map_or (λ (r : SegRecord). r.brackets) o (record { r1 = 7; r2 = 7; r3 = 7 })) no_root;
  }

  entry_good : (c : ℕ) (u : SegId) (e : ℕ) (x : Alias) → opening_entry k c u e ≡ Some x → EntryGood given (opening k) c x
  entry_good c u e x h = subst (EntryGood given (opening k) c) found.2 (record {
    in_use = subst (InUse (opening k)) seg_is (record_used test r found.1);
    class = ok.class;
    above = subst (λ z. at_or_below k.table z r.class ≡ true) mentor ok.flows_up;
    size = sym (ap (λ o. option_map_or (λ (z : SegRecord). z.size) o 0) own);
    in_range = (ok.some_size, ok.size);
    brackets = sym (ap (λ o. option_map_or (λ (z : SegRecord). z.brackets) o (record { r1 = 7; r2 = 7; r3 = 7 })) own);
    in_order = ok.in_order;
  })
    where
      test : SegRecord → Bool
      test r = r.seg.mentor == c && same_seg r.mentor u && r.entry == e

      found : (r : SegRecord) × (find (λ (r : SegRecord). r.seg.mentor == c && same_seg r.mentor u && r.entry == e) k.records ≡ Some r) × (alias_of r ≡ x)
      found = made_some alias_of (find (λ (r : SegRecord). r.seg.mentor == c && same_seg r.mentor u && r.entry == e) k.records) x h

      r : SegRecord
      r = found.0

      ok : IsRecord k found.0
      ok = is_record k found.0 (recorded (λ (r : SegRecord). r.seg.mentor == c && same_seg r.mentor u && r.entry == e) found.0 found.1)

      mentor : found.0.seg.mentor ≡ c
      mentor =
          let t = find_true (λ (r : SegRecord). r.seg.mentor == c && same_seg r.mentor u && r.entry == e) k.records found.0 found.1 in
          let a = and_parts (found.0.seg.mentor == c && same_seg found.0.mentor u) (found.0.entry == e) t in
          let b = and_parts (found.0.seg.mentor == c) (same_seg found.0.mentor u) a.0 in eqb-true found.0.seg.mentor c b.0

      seg_is : found.0.seg ≡ seg c found.0.seg.serial
      seg_is = λ i. record { mentor = mentor i; serial = found.0.seg.serial }

      own : record_of k found.0.class (seg c found.0.seg.serial) ≡ Some found.0
      own = subst (λ z. record_of k found.0.class z ≡ Some found.0) seg_is (find_own (λ (r : SegRecord). r.seg.mentor == c && same_seg r.mentor u && r.entry == e) k.records found.0 apart found.1)

  words_good : (c : ℕ) (u : SegId) (words : List ℕ) → kept_of k c u ≡ Some words → WordsGood given (opening k) c u words
  words_good c u words h = by_found (record_of k c u) refl h
    where
      by_found : (o : Option SegRecord) → record_of k c u ≡ o → option_and_then (λ (r : SegRecord). r.kept) o ≡ Some words → WordsGood given (opening k) c u words
      by_found None e g = cc
      by_found (Some r) e g =
          let ok = is_record k r (recorded (λ (x : SegRecord). x.class == c && same_seg x.seg u) r e) in
          let both = and_parts (r.class == c) (same_seg r.seg u) (find_true (λ (x : SegRecord). x.class == c && same_seg x.seg u) k.records r e) in
          let size : length words ≡ r.size = eqb-true (length words) r.size (sym (ap (λ (o : Option (List ℕ)). option_map_or (λ (ws : List ℕ). length ws == r.size) o true) g) ∙ ok.kept) in
          let low = ok.some_size in let high = ok.size in
          record {
            size = size ∙ sym (ap (λ o. option_map_or (λ (z : SegRecord). z.size) o 0) e);
            in_use = subst (InUse (opening k)) (same_seg-true r.seg u both.1) (record_used (λ (x : SegRecord). x.class == c && same_seg x.seg u) r e);
            in_range = (omega (arith, size, low), omega (arith, size, high));
          }

  cell_good : (c : ℕ) (u : SegId) → CellGood 0 given (opening k) c u (opening_cell k c u)
  cell_good c u = record {
    eight = refl;
    entries = λ e x h. (let made = made_of_one (opening_entry k c u) (below 8) e x h in entry_good c u made.0 x made.1);
    live = λ words h. not_in (kept_of k c u) words h;
    stored = words_good c u;
    writes = omega arith;
    sequencer = omega arith;
  }
    where
      not_in : (o : Option (List ℕ)) (words : List ℕ) → Rattle.class_model.specs.Run.opening_home o ≡ In words → WordsGood given (opening k) c u words
      not_in None words h = cc
      not_in (Some ws) words h = cc

  process_good : (name : ProcName) (p : Process) → process_at (opening k) name ≡ Some p → ProcessGood given (opening k) name.class p
  process_good name p h = record { fits = fits; known = knows; pad = ap (λ (q : Process). length q.pad) (sym is_new) }
    where
      slot : slot_at (opening_vp k name.class name.processor) name.slot ≡ Some (at_rest p)
      slot = get_or-map (option_map at_rest) (opening_slots k name.class name.processor) name.slot None ∙ ap (option_map at_rest) h

      fits : Fits (shared_of k) name.class (at_rest p)
      fits = opening_all_fit k valid name.class name.processor name.slot (at_rest p) slot

      line : FromLine k name.class name.processor (at_rest p)
      line = from_line k valid name.class name.processor name.slot (at_rest p) slot

      is_new : new_process name.class line.line.script line.line.ring 0 ≡ p
      is_new = ap (λ (r : Running). r.process) line.is

      knows : (j : ℕ) (x : Known) → known_at p j ≡ Some x → KnownGood given (opening k) name.class x
      knows j x e =
          let is_root = new_knows name.class line.line.script line.line.ring 0 j x (ap (λ (q : Process). known_at q j) is_new ∙ e) in
          subst (KnownGood given (opening k) name.class) is_root (record {
            fits = subst (Rattle.process.specs.Fits.KnownFits (shared_of k) name.class) (sym is_root) (fits.known j x e);
            in_use = root_good.in_use;
            size = sym root_good.size;
            brackets = sym root_good.brackets;
          })

  pub opening_good : Good 0 (opening k)
  opening_good = record {
    given = given;
    sound = sound_config k valid;
    root = root_good;
    serials = λ c. serial_most k c (if c == 0 then 1 else 0) k.records (records_ok k valid) (first_serial (c == 0));
    cells = cell_good;
    processes = process_good;
    used = λ c. omega arith;
    components = λ c x u. omega arith;
  }
    where
      first_serial : (b : Bool) → (if b then 1 else 0) ≤ 64
      first_serial true = omega arith
      first_serial false = omega arith
