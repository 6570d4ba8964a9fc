-- What stands at the opening of a valid configuration was given by its records, or is the root.
use Rattle.std.proofs.Common.{ℕ, ◌+◌, ◌<◌, Bool, true, false, not, ◌&&◌, List, [], ◌∷◌, ◌≡◌, refl, ap, subst, Some, arith, map}
use Rattle.std.specs.Prelude.{◌==◌, if◌then◌else◌, cond, fold, max, slice_get}
use Rattle.std.specs.List.{find, filter, list_all}
use Rattle.std.specs.Option.{option_map}
use Rattle.std.proofs.lemmas.Bool.{and_parts, eqb-true, eq-eqb, false_from_ne_true}
use Rattle.lists.specs.Lists.{below}
use Rattle.words_layout.specs.Segments.{seg, same_seg}
use Rattle.words_layout.specs.declared.segment.SegId.{SegId}
use Rattle.words_layout.specs.declared.coding.Alias.{Alias}
use Rattle.words_layout.proofs.Names.{same_seg-true, same_seg-refl}
use Rattle.class_model.specs.Config.{Config, SegRecord, ProcessLine, shared_of}
use Rattle.class_model.specs.Process.{Process, ProcName, new_process}
use Rattle.class_model.specs.Run.{alias_of, opening_entry, opening_serial, opening}
use Rattle.class_model.specs.State.{process_at}
use Rattle.class_model.specs.Valid.{IsConfig, record_ok, is_root}
use Rattle.class_model.specs.Access.{Given, given_root, given_record, given_to}
use Rattle.flow_laws.proofs.FlowLaws.{records_ok}
use Rattle.flow_laws.proofs.Lists.{made_of_one, made_some}
use Rattle.report_laws.proofs.Paged.{find_true, segs_apart, find_passes}
use Rattle.report_laws.proofs.Recorded.{record_stands, valid_records}
use Rattle.effect_laws.proofs.OpeningGood.{rises, serial_least, same_seg-sym, opening_good}
use Rattle.access_laws.proofs.Told.{IsGiven, EntryTold, ProcessTold, Told}
use Rattle.access_laws.proofs.Steps.{new_told}

-- what the configuration gave
abbrev pub given_first : Config → List Given
given_first k = given_root ∷ map given_record k.records

-- ---- serials

-- the serial of what a record gave is below the next one
serial_below : (u : SegId) (n : ℕ) (rs : List SegRecord) (g : Given) → given_to (map given_record rs) u ≡ Some g → u.serial < fold (rises u.mentor) n rs
serial_below u n [] g h = cc
serial_below u n (r ∷ rs) g h = by_test (same_seg r.seg u) refl h (serial_below u (rises u.mentor n r) rs g)
  where
    by_test : (b : Bool) → same_seg r.seg u ≡ b → cond b (Some (given_record r)) (given_to (map given_record rs) u) ≡ Some g →
        (given_to (map given_record rs) u ≡ Some g → u.serial < fold (rises u.mentor) (rises u.mentor n r) rs) → u.serial < fold (rises u.mentor) (rises u.mentor n r) rs
    by_test true e f rest =
        let same : r.seg ≡ u = same_seg-true r.seg u e in
        let mentor : r.seg.mentor ≡ u.mentor = ap (λ (z : SegId). z.mentor) same in
        let serial : r.seg.serial ≡ u.serial = ap (λ (z : SegId). z.serial) same in
        let up : rises u.mentor n r ≡ max n (r.seg.serial + 1) = ap (λ (b : Bool). if b then max n (r.seg.serial + 1) else n) (eq-eqb r.seg.mentor u.mentor mentor) in
        let least = serial_least u.mentor (rises u.mentor n r) rs in omega (arith, up, least, serial)
    by_test false e f rest = rest f

-- ---- records

pub not_true : (b : Bool) → not b ≡ true → b ≡ true → ⊥
not_true true e f = cc
not_true false e f = cc

-- a record that is found is the first of its identity
found_given : (test : SegRecord → Bool) (rs : List SegRecord) (r : SegRecord) → segs_apart rs ≡ true → find test rs ≡ Some r → given_to (map given_record rs) r.seg ≡ Some (given_record r)
found_given test [] r a h = cc
found_given test (x ∷ xs) r a h =
    let parts : (list_all (λ (y : SegRecord). not (same_seg y.seg x.seg)) xs ≡ true) × (segs_apart xs ≡ true) = and_parts _ _ a in
    by_test (test x) h parts.0 (found_given test xs r parts.1)
  where
    by_test : (b : Bool) → cond b (Some x) (find test xs) ≡ Some r → list_all (λ (y : SegRecord). not (same_seg y.seg x.seg)) xs ≡ true →
        (find test xs ≡ Some r → given_to (map given_record xs) r.seg ≡ Some (given_record r)) →
        cond (same_seg x.seg r.seg) (Some (given_record x)) (given_to (map given_record xs) r.seg) ≡ Some (given_record r)
    by_test true g apart rest =
        let same : x ≡ r = cc in
        let t : same_seg x.seg r.seg ≡ true = subst (λ (z : SegRecord). same_seg x.seg z.seg ≡ true) same (same_seg-refl x.seg) in
        rw t (ap (λ (z : SegRecord). Some (given_record z)) same)
    by_test false g apart rest =
        let other : not (same_seg r.seg x.seg) ≡ true = find_passes test (λ (y : SegRecord). not (same_seg y.seg x.seg)) xs r apart g in
        let t : same_seg x.seg r.seg ≡ false = false_from_ne_true _ (λ z. not_true (same_seg r.seg x.seg) other (same_seg-sym x.seg r.seg z)) in
        rw t (rest g)

module _ (k : Config) (valid : IsConfig k) where
  -- what a record gave
  record_told : (test : SegRecord → Bool) (r : SegRecord) → find test k.records ≡ Some r → IsGiven (given_first k) r.seg r.class r.brackets r.size
  record_told test r h = rw other (found_given test k.records r (valid_records k valid).apart h)
    where
      other : same_seg (seg 0 0) r.seg ≡ false
      other = false_from_ne_true _ (λ z. not_true (is_root r.seg) (record_stands k r (find_passes test (record_ok k) k.records r (records_ok k valid) h)).other (same_seg-sym (seg 0 0) r.seg z))

  entry_told : (c : ℕ) (u : SegId) (e : ℕ) (x : Alias) → opening_entry k c u e ≡ Some x → EntryTold (given_first k) c x
  entry_told c u e x h =
      let found = made_some alias_of (find (λ (r : SegRecord). r.seg.mentor == c && same_seg r.mentor u && r.entry == e) k.records) x h in
      subst (EntryTold (given_first k) c) found.2 (of_record found.0 found.1)
    where
      of_record : (r : SegRecord) → find (λ (r : SegRecord). r.seg.mentor == c && same_seg r.mentor u && r.entry == e) k.records ≡ Some r → EntryTold (given_first k) c (alias_of r)
      of_record r f =
          let t = find_true (λ (r : SegRecord). r.seg.mentor == c && same_seg r.mentor u && r.entry == e) k.records r f in
          let a = and_parts (r.seg.mentor == c && same_seg r.mentor u) (r.entry == e) t in
          let b = and_parts (r.seg.mentor == c) (same_seg r.mentor u) a.0 in
          let mentor : r.seg.mentor ≡ c = eqb-true r.seg.mentor c b.0 in
          let seg_is : r.seg ≡ seg c r.seg.serial = (λ i. record { mentor = mentor i; serial = r.seg.serial }) in
          subst (λ z. IsGiven (given_first k) z r.class r.brackets r.size) seg_is (record_told _ r f)

  serial_told : (u : SegId) (g : Given) → given_to (given_first k) u ≡ Some g → u.serial < opening_serial k u.mentor
  serial_told u g h = by_root (same_seg (seg 0 0) u) refl h
    where
      by_root : (b : Bool) → same_seg (seg 0 0) u ≡ b → cond b (Some given_root) (given_to (map given_record k.records) u) ≡ Some g → u.serial < opening_serial k u.mentor
      by_root true e f = subst (λ (z : SegId). z.serial < opening_serial k z.mentor) (same_seg-true (seg 0 0) u e) (opening_good k valid).root.in_use.serial
      by_root false e f = serial_below u (if u.mentor == 0 then 1 else 0) k.records g f

  process_told : (name : ProcName) (p : Process) → process_at (opening k) name ≡ Some p → ProcessTold (given_first k) (shared_of k) name.class p
  process_told name p h =
      let own : ProcessLine → Bool = λ l. l.processor == name.processor && l.class == name.class in
      let begins : ProcessLine → Process = λ l. new_process name.class l.script l.ring 0 in
      let made = made_of_one (λ i. option_map begins (slice_get (filter own k.processes) i)) (below 4) name.slot p h in
      let line = made_some begins (slice_get (filter own k.processes) made.0) p made.1 in
      subst (ProcessTold (given_first k) (shared_of k) name.class) line.2 (new_told (given_first k) (shared_of k) refl name.class line.0.script line.0.ring 0)

  pub opening_told : Told (given_first k) (opening k)
  opening_told = record {
    root = refl;
    serials = serial_told;
    entries = λ c u e x h. (let made = made_of_one (opening_entry k c u) (below 8) e x h in entry_told c u made.0 x made.1);
    processes = process_told;
  }
