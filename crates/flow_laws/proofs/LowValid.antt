-- The part of a valid configuration at or below a class is valid.
use Rattle.std.proofs.Common.{ℕ, ◌≤◌, Bool, true, false, not, ◌&&◌, ◌||◌, List, [], ◌∷◌, ◌≡◌, ◌⊎◌, inl, inr, refl, sym, ap, subst, ◌∙◌, Option, Some, None, arith, length, map}
use Rattle.std.proofs.Math.ListN.{get_or-map}
use Rattle.std.proofs.lemmas.Bool.{and_parts, and_from, eqb-true, leb-true, le-leb}
use Rattle.std.proofs.lemmas.List.{length-map}
use Rattle.std.proofs.lemmas.List.Sums.{length-filter}
use Rattle.std.specs.Prelude.{◌==◌, if◌then◌else◌, nat_le, nat_lt, slice_index_or, is_some}
use Rattle.std.specs.List.{cons_option, count_by, filter, filter_map, list_all}
use Rattle.std.specs.Option.{option_map, option_map_or}
use Rattle.lists.specs.Lists.{below}
use Rattle.labels.specs.Label.{at_or_below}
use Rattle.labels.proofs.Order.{flows_trans}
use Rattle.rings.specs.Brackets.{in_order}
use Rattle.words_layout.specs.Segments.{same_seg}
use Rattle.words_layout.specs.declared.segment.SegId.{SegId}
use Rattle.class_model.specs.Config.{Config, Script, Gate, ProcessLine, SegRecord, pool_of, shared_of, kept_below, low_config, low_record}
use Rattle.class_model.specs.Valid.{IsConfig, at_place, script_ok, gate_ok, process_ok, uses_script, record_ok, records_distinct, pages_ok, mentor_ok, is_root, first_record}
use Rattle.flow_laws.proofs.Lists.{picked, find_through}

-- ---- lists

pub all_more : {X : Type 0} (p q : X → Bool) → ((x : X) → p x ≡ true → q x ≡ true) → (xs : List X) → list_all p xs ≡ true → list_all q xs ≡ true
all_more p q each [] h = refl
all_more p q each (x ∷ xs) h = let a : (p x ≡ true) × (list_all p xs ≡ true) = and_parts _ _ h in and_from _ _ (each x a.0) (all_more p q each xs a.1)

-- each item that is left passes, where it comes from one that passes
pub all_left : {X : Type 0} (p q : X → Bool) (change : X → Option X) → ((x y : X) → p x ≡ true → change x ≡ Some y → q y ≡ true) → (xs : List X) → list_all p xs ≡ true → list_all q (filter_map change xs) ≡ true
all_left p q change keeps [] h = refl
all_left p q change keeps (x ∷ xs) h =
    let a : (p x ≡ true) × (list_all p xs ≡ true) = and_parts _ _ h in
    by_item (change x) refl a.0 (all_left p q change keeps xs a.1)
  where
    by_item : (o : Option _) → change x ≡ o → p x ≡ true → list_all q (filter_map change xs) ≡ true → list_all q (cons_option o (filter_map change xs)) ≡ true
    by_item None e t rest = rest
    by_item (Some y) e t rest = and_from _ _ (keeps x y t e) rest

-- no more items pass among those that are left
pub fewer_left : {X : Type 0} (test : X → Bool) (change : X → Option X) → ((x y : X) → change x ≡ Some y → test y ≡ true → test x ≡ true) → (xs : List X) → length (filter test (filter_map change xs)) ≤ length (filter test xs)
fewer_left test change less [] = omega arith
fewer_left test change less (x ∷ xs) = by_item (fewer_left test change less xs) (change x) refl
  where
    by_tests : length (filter test (filter_map change xs)) ≤ length (filter test xs) → (b c : Bool) → (b ≡ true → c ≡ true) → (y : _) →
        length (if b then y ∷ filter test (filter_map change xs) else filter test (filter_map change xs)) ≤ length (if c then x ∷ filter test xs else filter test xs)
    by_tests rest true true both y = omega (arith, rest)
    by_tests rest true false both y = absurd (let e : false ≡ true = both refl in cc)
    by_tests rest false true both y = omega (arith, rest)
    by_tests rest false false both y = rest

    by_item : length (filter test (filter_map change xs)) ≤ length (filter test xs) → (o : Option _) → change x ≡ o → length (filter test (cons_option o (filter_map change xs))) ≤ length (filter test (x ∷ xs))
    by_item rest None e = by_tests rest false (test x) (λ g. (let e : false ≡ true = g in cc)) x
    by_item rest (Some y) e = by_tests rest (test y) (test x) (less x y e) y

fewer_filtered : {X : Type 0} (test low : X → Bool) (xs : List X) → length (filter test (filter low xs)) ≤ length (filter test xs)
fewer_filtered test low [] = omega arith
fewer_filtered test low (x ∷ xs) = by_tests (fewer_filtered test low xs) (low x) (test x) refl
  where
    by_tests : length (filter test (filter low xs)) ≤ length (filter test xs) → (b t : Bool) → test x ≡ t → length (filter test (if b then x ∷ filter low xs else filter low xs)) ≤ length (if t then x ∷ filter test xs else filter test xs)
    by_tests rest true true e = rw e (omega (arith, rest))
    by_tests rest true false e = rw e rest
    by_tests rest false true e = omega (arith, rest)
    by_tests rest false false e = rest

all_filtered : {X : Type 0} (p q low : X → Bool) → ((x : X) → p x ≡ true → low x ≡ true → q x ≡ true) → (xs : List X) → list_all p xs ≡ true → list_all q (filter low xs) ≡ true
all_filtered p q low each [] h = refl
all_filtered p q low each (x ∷ xs) h =
    let a : (p x ≡ true) × (list_all p xs ≡ true) = and_parts _ _ h in
    elim (low x) as (λ b. low x ≡ b → list_all q (if b then x ∷ filter low xs else filter low xs) ≡ true) [
      | true ↦ λ e. and_from _ _ (each x a.0 e) (all_filtered p q low each xs a.1)
      | false ↦ λ e. all_filtered p q low each xs a.1
    ] refl

pub seg_is : (u v : SegId) → same_seg u v ≡ true → u ≡ v
seg_is u v h =
    let parts : ((u.mentor == v.mentor) ≡ true) × ((u.serial == v.serial) ≡ true) = and_parts _ _ h in
    let m : u.mentor ≡ v.mentor = eqb-true u.mentor v.mentor parts.0 in
    let s : u.serial ≡ v.serial = eqb-true u.serial v.serial parts.1 in
    λ i. record { mentor = m i; serial = s i }

module _ (k : Config) (c : ℕ) where
  abbrev low : ℕ → Bool
  low x = at_or_below k.table x c

  abbrev less : Config
  less = low_config c k

  -- ---- scripts, gates and processes

  -- what is kept of places passes, where what is low passes
  places_kept : {X : Type 0} (class : X → ℕ) (p q : X → Bool) → ((x : X) → p x ≡ true → low (class x) ≡ true → q x ≡ true) → (xs : List (Option X)) → list_all (at_place p) xs ≡ true →
      list_all (at_place q) (map (kept_below class low) xs) ≡ true
  places_kept class p q each [] h = refl
  places_kept class p q each (o ∷ xs) h =
      let a : (at_place p o ≡ true) × (list_all (at_place p) xs ≡ true) = and_parts _ _ h in
      and_from _ _ (by_place o a.0) (places_kept class p q each xs a.1)
    where
      by_place : (o : Option _) → at_place p o ≡ true → at_place q (kept_below class low o) ≡ true
      by_place None e = refl
      by_place (Some x) e = elim (low (class x)) as (λ b. low (class x) ≡ b → at_place q (if b then Some x else None) ≡ true) [ true ↦ λ f. each x e f | false ↦ λ f. refl ] refl

  uses_low : (d n : ℕ) → low d ≡ true → uses_script k d n ≡ true → uses_script less d n ≡ true
  uses_low d n d_c h =
      ap (λ o. option_map_or (λ (x : Script). at_or_below k.table x.class d) o false) (get_or-map (kept_below (λ (x : Script). x.class) low) k.scripts n None)
      ∙ by_place (slice_index_or k.scripts n None) h
    where
      by_place : (o : Option Script) → option_map_or (λ (x : Script). at_or_below k.table x.class d) o false ≡ true →
          option_map_or (λ (x : Script). at_or_below k.table x.class d) (kept_below (λ (x : Script). x.class) low o) false ≡ true
      by_place None e = e
      by_place (Some x) e = let there : low x.class ≡ true = flows_trans k.table x.class d c e d_c in rw there e

  gate_low : (x : Gate) → gate_ok k x ≡ true → low x.class ≡ true → gate_ok less x ≡ true
  gate_low x h l =
      let a = and_parts (nat_lt x.class (length k.table) && uses_script k x.class x.script) (in_order x.brackets) h in
      let b = and_parts (nat_lt x.class (length k.table)) (uses_script k x.class x.script) a.0 in
      and_from _ _ (and_from _ _ b.0 (uses_low x.class x.script l b.1)) a.1

  abbrev like : ProcessLine → ProcessLine → Bool
  like x y = y.processor == x.processor && y.class == x.class

  process_low : (x : ProcessLine) → process_ok k x ≡ true → low x.class ≡ true → process_ok less x ≡ true
  process_low x h l =
      let a = and_parts _ (nat_le (count_by (like x) k.processes) 4) h in
      let b = and_parts _ (uses_script k x.class x.script) a.0 in
      let all : count_by (like x) k.processes ≤ 4 = leb-true _ _ a.1 in
      let fewer = fewer_filtered (like x) (λ (y : ProcessLine). low y.class) k.processes in
      let before = length-filter (like x) k.processes in
      let after = length-filter (like x) (filter (λ (y : ProcessLine). low y.class) k.processes) in
      and_from _ _ (and_from _ _ b.0 (uses_low x.class x.script l b.1)) (le-leb _ _ (omega (arith, all, fewer, before, after)))

  -- ---- records

  -- what is left of a record whose mentor is low is its parts, and of its words all or none
  pub record IsLeft (r y : SegRecord) : Type 0 where
    pub is_low : low r.seg.mentor ≡ true
    pub words : Option (List ℕ)
    pub is : record r { kept = words } ≡ y
    pub kept : (words ≡ r.kept) ⊎ (words ≡ None)

  pub is_left : (r y : SegRecord) → low_record low r ≡ Some y → IsLeft r y
  is_left r y h = by_mentor (low r.seg.mentor) refl h
    where
      by_class : low r.seg.mentor ≡ true → (b : Bool) → record r { kept = if b then r.kept else None } ≡ y → IsLeft r y
      by_class l true e = record { is_low = l; words = r.kept; is = e; kept = inl refl }
      by_class l false e = record { is_low = l; words = None; is = e; kept = inr refl }

      by_mentor : (b : Bool) → low r.seg.mentor ≡ b → (if b then Some (record r { kept = if low r.class then r.kept else None }) else None) ≡ Some y → IsLeft r y
      by_mentor true l e = by_class l (low r.class) (let same : record r { kept = if low r.class then r.kept else None } ≡ y = cc in same)
      by_mentor false l e = cc

  -- the record of an identity whose mentor is low has its class still
  class_left : (u : SegId) → low u.mentor ≡ true →
      option_map (λ (x : SegRecord). x.class) (first_record (filter_map (low_record low) k.records) u) ≡ option_map (λ (x : SegRecord). x.class) (first_record k.records u)
  class_left u l = find_through (λ (x : SegRecord). x.class) (λ (x : SegRecord). same_seg x.seg u) (low_record low) (λ x. by_same x (same_seg x.seg u) refl (low x.seg.mentor) refl) k.records
    where
      by_same : (x : SegRecord) (s : Bool) → same_seg x.seg u ≡ s → (b : Bool) → low x.seg.mentor ≡ b →
          picked (λ (x : SegRecord). x.class) (λ (x : SegRecord). same_seg x.seg u) (if b then Some (record x { kept = if low x.class then x.kept else None }) else None) ≡
          picked (λ (x : SegRecord). x.class) (λ (x : SegRecord). same_seg x.seg u) (Some x)
      by_same x s e true f = refl
      by_same x false e false f = rw e refl
      by_same x true e false f = absurd (let here : low x.seg.mentor ≡ true = ap (λ (v : SegId). low v.mentor) (seg_is x.seg u e) ∙ l in let bad : true ≡ false = sym here ∙ f in cc)

  mapped_or : (class : ℕ) (o : Option SegRecord) → option_map_or (λ (x : SegRecord). x.class == class) o false ≡ option_map_or (λ n. n == class) (option_map (λ (x : SegRecord). x.class) o) false
  mapped_or class None = refl
  mapped_or class (Some x) = refl

  mentor_left : (r : SegRecord) → low r.seg.mentor ≡ true → at_or_below k.table r.mentor.mentor r.seg.mentor ≡ true → mentor_ok k r ≡ true → mentor_ok less r ≡ true
  mentor_left r l up h = by_root (is_root r.mentor) h
    where
      by_root : (b : Bool) → (if b then r.seg.mentor == 0 else option_map_or (λ (x : SegRecord). x.class == r.seg.mentor) (first_record k.records r.mentor) false) ≡ true →
          (if b then r.seg.mentor == 0 else option_map_or (λ (x : SegRecord). x.class == r.seg.mentor) (first_record (filter_map (low_record low) k.records) r.mentor) false) ≡ true
      by_root true e = e
      by_root false e =
          mapped_or r.seg.mentor (first_record (filter_map (low_record low) k.records) r.mentor)
          ∙ ap (λ o. option_map_or (λ n. n == r.seg.mentor) o false) (class_left r.mentor (flows_trans k.table r.mentor.mentor r.seg.mentor c up l))
          ∙ sym (mapped_or r.seg.mentor (first_record k.records r.mentor)) ∙ e

  record_left : (r y : SegRecord) → record_ok k r ≡ true → low_record low r ≡ Some y → record_ok less y ≡ true
  record_left r y h e =
      let l : IsLeft r y = is_left r y e in
      let a = and_parts _ (mentor_ok k r) h in
      let b = and_parts _ (option_map_or (λ (words : List ℕ). length words == r.size) r.kept true) a.0 in
      let d = and_parts _ (not (r.mentor.mentor == r.seg.mentor) || nat_lt r.mentor.serial r.seg.serial) b.0 in
      let f = and_parts _ (at_or_below k.table r.mentor.mentor r.seg.mentor) d.0 in
      subst (λ z. record_ok less z ≡ true) l.is (and_from _ _ (and_from _ _ b.0 (kept_words l.words l.kept b.1)) (mentor_left r l.is_low f.1 a.1))
    where
      kept_words : (words : Option (List ℕ)) → (words ≡ r.kept) ⊎ (words ≡ None) → option_map_or (λ (words : List ℕ). length words == r.size) r.kept true ≡ true →
          option_map_or (λ (words : List ℕ). length words == r.size) words true ≡ true
      kept_words words (inl g) t = rw g t
      kept_words words (inr g) t = rw g refl

  -- a later record is another than an earlier one
  abbrev differs : SegRecord → SegRecord → Bool
  differs r x = not (same_seg x.seg r.seg) && not (same_seg x.mentor r.mentor && x.seg.mentor == r.seg.mentor && x.entry == r.entry)

  distinct_left : (rs : List SegRecord) → records_distinct rs ≡ true → records_distinct (filter_map (low_record low) rs) ≡ true
  distinct_left [] h = refl
  distinct_left (r ∷ rs) h =
      let a = and_parts (list_all (differs r) rs) (records_distinct rs) h in
      by_item (low_record low r) refl a.0 (distinct_left rs a.1)
    where
      by_item : (o : Option SegRecord) → low_record low r ≡ o → list_all (differs r) rs ≡ true → records_distinct (filter_map (low_record low) rs) ≡ true → records_distinct (cons_option o (filter_map (low_record low) rs)) ≡ true
      by_item None e t rest = rest
      by_item (Some y) e t rest =
          let l : IsLeft r y = is_left r y e in
          and_from _ _ (subst (λ (z : SegRecord). list_all (differs z) (filter_map (low_record low) rs) ≡ true) l.is
          (all_left (differs r) (differs r) (low_record low) (λ x z f g. subst (λ (w : SegRecord). differs r w ≡ true) (is_left x z g).is f) rs t)) rest

  pub kept_left : (d : ℕ) (r y : SegRecord) → low_record low r ≡ Some y → (y.class == d && is_some y.kept) ≡ true → (r.class == d && is_some r.kept) ≡ true
  kept_left d r y e h =
      let l : IsLeft r y = is_left r y e in
      let before : (r.class == d && is_some l.words) ≡ true = subst (λ (z : SegRecord). (z.class == d && is_some z.kept) ≡ true) (sym l.is) h in
      by_words l.words l.kept before
    where
      by_words : (words : Option (List ℕ)) → (words ≡ r.kept) ⊎ (words ≡ None) → (r.class == d && is_some words) ≡ true → (r.class == d && is_some r.kept) ≡ true
      by_words words (inl f) t = subst (λ o. (r.class == d && is_some o) ≡ true) f t
      by_words words (inr f) t =
          let both : ((r.class == d) ≡ true) × (is_some words ≡ true) = and_parts _ _ t in
          absurd (let bad : false ≡ true = subst (λ (o : Option (List ℕ)). is_some o ≡ true) f both.1 in cc)

  pages_left : (d : ℕ) → pages_ok k d ≡ true → pages_ok less d ≡ true
  pages_left d h =
      let all : count_by (λ (r : SegRecord). r.class == d && is_some r.kept) k.records ≤ (pool_of (shared_of k) d).pages = leb-true _ _ h in
      let fewer = fewer_left (λ (r : SegRecord). r.class == d && is_some r.kept) (low_record low) (kept_left d) k.records in
      let before = length-filter (λ (r : SegRecord). r.class == d && is_some r.kept) k.records in
      let after = length-filter (λ (r : SegRecord). r.class == d && is_some r.kept) (filter_map (low_record low) k.records) in
      le-leb _ _ (omega (arith, all, fewer, before, after))

  -- ---- all of it

  pub low_valid : IsConfig k → IsConfig less
  low_valid v =
      let scripts = and_parts (nat_le (length k.scripts) 32) (list_all (at_place (script_ok k)) k.scripts) v.scripts in
      let gates = and_parts (nat_le (length k.gates) 32) (list_all (at_place (gate_ok k)) k.gates) v.gates in
      let records = and_parts (list_all (record_ok k) k.records && records_distinct k.records) (list_all (pages_ok k) (below (length k.table))) v.records in
      let each = and_parts (list_all (record_ok k) k.records) (records_distinct k.records) records.0 in
      record {
        table = v.table;
        pools = v.pools;
        volumes = v.volumes;
        processors = v.processors;
        cycle = v.cycle;
        rounds = v.rounds;
        console = v.console;
        scripts = and_from _ _ (ap (λ n. nat_le n 32) (length-map k.scripts (kept_below (λ (x : Script). x.class) low)) ∙ scripts.0)
            (places_kept (λ (x : Script). x.class) (script_ok k) (script_ok k) (λ x h l. h) k.scripts scripts.1);
        gates = and_from _ _ (ap (λ n. nat_le n 32) (length-map k.gates (kept_below (λ (x : Gate). x.class) low)) ∙ gates.0)
            (places_kept (λ (x : Gate). x.class) (gate_ok k) (gate_ok less) gate_low k.gates gates.1);
        processes = all_filtered (process_ok k) (process_ok less) (λ (p : ProcessLine). low p.class) process_low k.processes v.processes;
        records = and_from _ _ (and_from _ _ (all_left (record_ok k) (record_ok less) (low_record low) record_left k.records each.0) (distinct_left k.records each.1))
            (all_more (pages_ok k) (pages_ok less) pages_left (below (length k.table)) records.1);
      }
