-- Building gives the opening: its records, put one after the other, and then its processes.
use Rattle.std.proofs.Common.{ℕ, zero, suc, ◌+◌, ◌<◌, ◌≤◌, ◌≡◌, ◌∙◌, Bool, true, false, List, [], ◌∷◌, ◌++◌, length, map, max, set, get_or, refl, sym, ap, subst, arith, Option, Some, None, append_assoc, cond}
use Rattle.std.specs.Prelude.{◌==◌, ◌&&◌, not, if◌then◌else◌, slice_get, count_by, nat_le}
use Rattle.std.specs.List.{find, filter, fold, list_any, list_all}
use Rattle.std.specs.Option.{option_map, option_and_then}
use Rattle.std.proofs.lemmas.Bool.{and_from, and_parts, and_left, and_right, or_parts, or_from, eqb-true, eqb-false, eq-eqb, ne_eqb, ltb-true, leb-true, not-true, both_ways, false_from_ne_true}
use Rattle.std.proofs.lemmas.List.{append-nil}
use Rattle.std.proofs.lemmas.List.Elements.{filter-append}
use Rattle.std.proofs.lemmas.List.Folds.{list_any-append}
use Rattle.std.proofs.lemmas.List.Sums.{length-filter, sum_by-append, sum_by-cons}
use Rattle.lists.specs.Lists.{below, put}
use Rattle.words_layout.specs.Segments.{same_seg}
use Rattle.words_layout.specs.declared.segment.SegId.{SegId}
use Rattle.words_layout.specs.declared.coding.Alias.{Alias}
use Rattle.words_layout.proofs.Names.{same_seg-true, same_seg-refl}
use Rattle.class_model.specs.Config.{Config, SegRecord, ProcessLine, shared_of}
use Rattle.class_model.specs.Process.{Process, new_process}
use Rattle.class_model.specs.Run.{alias_of, kept_of, opening_entry, opening_home, opening_cell, opening_serial, opening_slots, opening_part, opening}
use Rattle.class_model.specs.State.{State, Part, Cell, process_at}
use Rattle.class_model.specs.Step.{with_entry}
use Rattle.class_model.specs.Valid.{IsConfig, record_ok, records_distinct, process_ok}
use Rattle.whole_machine.specs.Building.{storing, keeping, holding, recorded, all_recorded, is_beside, name_after, begun_after, all_begun, bare, built}

-- ---- lists

find_other : {X : Type 0} (p : X → Bool) (xs : List X) (y : X) → p y ≡ false → find p (xs ++ y ∷ []) ≡ find p xs
find_other p [] y e = rw e refl
find_other p (x ∷ xs) y e = ap (λ r. cond (p x) (Some x) r) (find_other p xs y e)

find_last : {X : Type 0} (p : X → Bool) (xs : List X) (y : X) → list_any p xs ≡ false → p y ≡ true → find p (xs ++ y ∷ []) ≡ Some y
find_last p [] y none e = rw e refl
find_last p (x ∷ xs) y none e =
    let parts = or_parts (p x) (list_any p xs) none in rw parts.0 (find_last p xs y parts.1 e)

find_none : {X : Type 0} (p : X → Bool) (xs : List X) → list_any p xs ≡ false → find p xs ≡ None
find_none p [] none = refl
find_none p (x ∷ xs) none =
    let parts = or_parts (p x) (list_any p xs) none in rw parts.0 (find_none p xs parts.1)

fold_last : {A B : Type 0} (f : B → A → B) (z : B) (xs : List A) (y : A) → fold f z (xs ++ y ∷ []) ≡ f (fold f z xs) y
fold_last f z [] y = refl
fold_last f z (x ∷ xs) y = fold_last f (f z x) xs y

map_same : {X : Type 0} (f g : ℕ → X) (xs : List ℕ) → ((j : ℕ) → f j ≡ g j) → map f xs ≡ map g xs
map_same f g xs same = ap (λ (h : ℕ → _). map h xs) (λ k j. (same j) k)

by_eight : (P : ℕ → Type 0) → P 0 → P 1 → P 2 → P 3 → P 4 → P 5 → P 6 → P 7 → (n : ℕ) → n < 8 → P n
by_eight P a b c d e f g h zero lt = a
by_eight P a b c d e f g h (suc zero) lt = b
by_eight P a b c d e f g h (suc (suc zero)) lt = c
by_eight P a b c d e f g h (suc (suc (suc zero))) lt = d
by_eight P a b c d e f g h (suc (suc (suc (suc zero)))) lt = e
by_eight P a b c d e f g h (suc (suc (suc (suc (suc zero))))) lt = f
by_eight P a b c d e f g h (suc (suc (suc (suc (suc (suc zero)))))) lt = g
by_eight P a b c d e f g h (suc (suc (suc (suc (suc (suc (suc zero))))))) lt = h
by_eight P a b c d e f g h (suc (suc (suc (suc (suc (suc (suc (suc n)))))))) lt = absurd (omega arith)

set_row : {X : Type 0} (g : ℕ → X) (v : X) (e : ℕ) → e < 8 → map (λ j. if j == e then v else g j) (below 8) ≡ set (map g (below 8)) e v
set_row g v e lt = by_eight (λ e. map (λ j. if j == e then v else g j) (below 8) ≡ set (map g (below 8)) e v) refl refl refl refl refl refl refl refl e lt

-- ---- names that differ

seg_back : (u v : SegId) → same_seg u v ≡ false → same_seg v u ≡ false
seg_back u v h = false_from_ne_true (same_seg v u) (λ t. let same : v ≡ u = same_seg-true v u t in
    both_ways (same_seg u v) h (subst (λ w. same_seg u w ≡ true) (sym same) (same_seg-refl u)))

number_back : (a b : ℕ) → (a == b) ≡ false → (b == a) ≡ false
number_back a b h = ne_eqb b a (λ e. eqb-false a b h (sym e))

-- ---- what is put for one class holds of it, and of each other what held before
by_class : {X : Type 0} (P : ℕ → X → Type 0) (f : ℕ → X) (d : ℕ) (x : X) (c : ℕ) → P d x → ((c == d) ≡ false → P c (f c)) → P c (put f d x c)
by_class P f d x c here there = elim (c == d) as (λ b. (c == d) ≡ b → P c (if b then x else f c)) [
  | true ↦ λ e. subst (λ z. P z x) (sym (eqb-true c d e)) here
  | false ↦ λ e. there e
] refl

same_part : (p q : Part) → p.cell ≡ q.cell → p.component ≡ q.component → p.next_serial ≡ q.next_serial → p.lines ≡ q.lines → p.used ≡ q.used → p.slots ≡ q.slots → p ≡ q
same_part p q a b c d e f = λ k. record { cell = a k; component = b k; next_serial = c k; lines = d k; used = e k; slots = f k }

-- ---- one record more

-- a record of the cell of class c and identity u
abbrev pub is_of : ℕ → SegId → SegRecord → Bool
is_of c u r = r.class == c && same_seg r.seg u

-- a record in entry e of the cell of class c and identity u
abbrev pub stands : ℕ → SegId → ℕ → SegRecord → Bool
stands c u e r = r.seg.mentor == c && same_seg r.mentor u && r.entry == e

-- none of those in front has its cell or its entry
pub record Fresh (front : List SegRecord) (r : SegRecord) : Type 0 where
  pub other : list_any (is_of r.class r.seg) front ≡ false
  pub free : list_any (stands r.seg.mentor r.mentor r.entry) front ≡ false

abbrev no_component : ℕ → SegId → ℕ
no_component x u = 0

-- a cell with these words and entries at the opening
abbrev cell_with : Option (List ℕ) → List (Option Alias) → Cell
cell_with kept entries = record { home = opening_home kept; stored = kept; writes = 0; sequencer = 0; entries = entries }

stored_is : (kept : Option (List ℕ)) (entries : List (Option Alias)) → storing kept (cell_with None entries) ≡ cell_with kept entries
stored_is None entries = refl
stored_is (Some words) entries = refl

module _ (k : Config) (front : List SegRecord) (r : SegRecord) (fresh : Fresh front r) (small : r.entry < 8) where
  abbrev old : Config
  old = record k { records = front }

  abbrev new : Config
  new = record k { records = front ++ r ∷ [] }

  abbrev child : Alias
  child = alias_of r

  abbrev m : ℕ
  m = r.seg.mentor

  -- ---- its entry

  abbrev entries : Config → ℕ → SegId → List (Option Alias)
  entries j c v = map (opening_entry j c v) (below 8)

  entry_other : (c : ℕ) (v : SegId) (i : ℕ) → stands c v i r ≡ false → opening_entry new c v i ≡ opening_entry old c v i
  entry_other c v i h = ap (λ (o : Option SegRecord). option_map alias_of o) (find_other (stands c v i) front r h)

  entry_here : opening_entry new m r.mentor r.entry ≡ Some child
  entry_here =
      ap (λ (o : Option SegRecord). option_map alias_of o)
      (find_last (stands m r.mentor r.entry) front r fresh.free (and_from _ _ (and_from _ _ (eq-eqb m m refl) (same_seg-refl r.mentor)) (eq-eqb r.entry r.entry refl)))

  entry_each : (i : ℕ) → opening_entry new m r.mentor i ≡ (if i == r.entry then Some child else opening_entry old m r.mentor i)
  entry_each i = by_test (i == r.entry) refl
    where
      by_test : (t : Bool) → (i == r.entry) ≡ t → opening_entry new m r.mentor i ≡ (if t then Some child else opening_entry old m r.mentor i)
      by_test true h = ap (opening_entry new m r.mentor) (eqb-true i r.entry h) ∙ entry_here
      by_test false h = entry_other m r.mentor i (and_right (m == m && same_seg r.mentor r.mentor) (r.entry == i) (number_back i r.entry h))

  entries_here : entries new m r.mentor ≡ set (entries old m r.mentor) r.entry (Some child)
  entries_here =
      map_same (opening_entry new m r.mentor) (λ i. if i == r.entry then Some child else opening_entry old m r.mentor i) (below 8) entry_each
      ∙ set_row (opening_entry old m r.mentor) (Some child) r.entry small

  entries_other : (c : ℕ) (v : SegId) → (m == c && same_seg r.mentor v) ≡ false → entries new c v ≡ entries old c v
  entries_other c v h = map_same (opening_entry new c v) (opening_entry old c v) (below 8) (λ i. entry_other c v i (and_left (m == c && same_seg r.mentor v) (r.entry == i) h))

  -- ---- the serial

  abbrev raised : ℕ → ℕ → SegRecord → ℕ
  raised c n x = if x.seg.mentor == c then max n (x.seg.serial + 1) else n

  serial_last : (c : ℕ) → opening_serial new c ≡ raised c (opening_serial old c) r
  serial_last c = fold_last (raised c) (if c == 0 then 1 else 0) front r

  serial_here : opening_serial new m ≡ max (opening_serial old m) (child.serial + 1)
  serial_here = serial_last m ∙ ap (λ t. if t then max (opening_serial old m) (child.serial + 1) else opening_serial old m) (eq-eqb m m refl)

  serial_other : (c : ℕ) → (m == c) ≡ false → opening_serial new c ≡ opening_serial old c
  serial_other c h = serial_last c ∙ ap (λ t. if t then max (opening_serial old c) (child.serial + 1) else opening_serial old c) h

  -- ---- its words

  kept_here : kept_of new r.class r.seg ≡ r.kept
  kept_here =
      ap (λ (o : Option SegRecord). option_and_then (λ (x : SegRecord). x.kept) o)
      (find_last (is_of r.class r.seg) front r fresh.other (and_from _ _ (eq-eqb r.class r.class refl) (same_seg-refl r.seg)))

  kept_before : kept_of old r.class r.seg ≡ None
  kept_before = ap (λ (o : Option SegRecord). option_and_then (λ (x : SegRecord). x.kept) o) (find_none (is_of r.class r.seg) front fresh.other)

  kept_other : (c : ℕ) (v : SegId) → is_of c v r ≡ false → kept_of new c v ≡ kept_of old c v
  kept_other c v h = ap (λ (o : Option SegRecord). option_and_then (λ (x : SegRecord). x.kept) o) (find_other (is_of c v) front r h)

  -- ---- the entry is filled, and the words aren't stored yet

  record Half (c : ℕ) (p : Part) : Type 0 where
    cell : (v : SegId) → p.cell v ≡ cell_with (kept_of old c v) (entries new c v)
    component : p.component ≡ no_component
    serial : p.next_serial ≡ opening_serial new c
    lines : p.lines ≡ []
    used : p.used ≡ 0
    slots : p.slots ≡ opening_slots k c

  abbrev with_held : Part
  with_held = holding (opening_part old m) r.mentor r.entry child

  held_cell : (v : SegId) → with_held.cell v ≡ cell_with (kept_of old m v) (entries new m v)
  held_cell v = by_test (same_seg v r.mentor) refl
    where
      by_test : (t : Bool) → same_seg v r.mentor ≡ t →
          (if t then with_entry (opening_cell old m r.mentor) r.entry (Some child) else opening_cell old m v) ≡ cell_with (kept_of old m v) (entries new m v)
      by_test true h =
          ap (λ (es : List (Option Alias)). cell_with (kept_of old m r.mentor) es) (sym entries_here)
          ∙ ap (λ (w : SegId). cell_with (kept_of old m w) (entries new m w)) (sym (same_seg-true v r.mentor h))
      by_test false h =
          ap (λ (es : List (Option Alias)). cell_with (kept_of old m v) es) (sym (entries_other m v (and_right (m == m) (same_seg r.mentor v) (seg_back v r.mentor h))))

  half_here : Half m with_held
  half_here = record { cell = held_cell; component = refl; serial = sym serial_here; lines = refl; used = refl; slots = refl }

  half_there : (c : ℕ) → (c == m) ≡ false → Half c (opening_part old c)
  half_there c h =
      let away : (m == c) ≡ false = number_back c m h in
      record {
        cell = λ v. ap (λ (es : List (Option Alias)). cell_with (kept_of old c v) es) (sym (entries_other c v (and_left (m == c) (same_seg r.mentor v) away)));
        component = refl;
        serial = sym (serial_other c away);
        lines = refl;
        used = refl;
        slots = refl;
      }

  abbrev held : ℕ → Part
  held = put (opening_part old) m with_held

  half : (c : ℕ) → Half c (held c)
  half c = by_class Half (opening_part old) m with_held c half_here (half_there c)

  -- ---- the words are stored

  record Whole (c : ℕ) (p : Part) : Type 0 where
    cell : (v : SegId) → p.cell v ≡ opening_cell new c v
    component : p.component ≡ no_component
    serial : p.next_serial ≡ opening_serial new c
    lines : p.lines ≡ []
    used : p.used ≡ 0
    slots : p.slots ≡ opening_slots k c

  abbrev with_kept : Part
  with_kept = keeping (held r.class) r.seg r.kept

  kept_cell : (v : SegId) → with_kept.cell v ≡ opening_cell new r.class v
  kept_cell v = by_test (same_seg v r.seg) refl
    where
      by_test : (t : Bool) → same_seg v r.seg ≡ t → (if t then storing r.kept ((held r.class).cell r.seg) else (held r.class).cell v) ≡ opening_cell new r.class v
      by_test true h =
          ap (storing r.kept) ((half r.class).cell r.seg)
          ∙ ap (λ (o : Option (List ℕ)). storing r.kept (cell_with o (entries new r.class r.seg))) kept_before
          ∙ stored_is r.kept (entries new r.class r.seg)
          ∙ ap (λ (o : Option (List ℕ)). cell_with o (entries new r.class r.seg)) (sym kept_here)
          ∙ ap (opening_cell new r.class) (sym (same_seg-true v r.seg h))
      by_test false h =
          (half r.class).cell v
          ∙ ap (λ (o : Option (List ℕ)). cell_with o (entries new r.class v)) (sym (kept_other r.class v (and_right (r.class == r.class) (same_seg r.seg v) (seg_back v r.seg h))))

  whole_here : Whole r.class with_kept
  whole_here = let h = half r.class in record { cell = kept_cell; component = h.component; serial = h.serial; lines = h.lines; used = h.used; slots = h.slots }

  whole_there : (c : ℕ) → (c == r.class) ≡ false → Whole c (held c)
  whole_there c e =
      let h = half c in
      record {
        cell = λ v. h.cell v ∙ ap (λ (o : Option (List ℕ)). cell_with o (entries new c v)) (sym (kept_other c v (and_left (r.class == c) (same_seg r.seg v) (number_back c r.class e))));
        component = h.component;
        serial = h.serial;
        lines = h.lines;
        used = h.used;
        slots = h.slots;
      }

  part_is : (c : ℕ) → put held r.class with_kept c ≡ opening_part new c
  part_is c =
      let w = by_class Whole held r.class with_kept c whole_here (whole_there c) in
      same_part (put held r.class with_kept c) (opening_part new c) (λ i v. (w.cell v) i) w.component w.serial w.lines w.used w.slots

  -- the opening with one record more
  pub record_is : recorded (opening old) r ≡ opening new
  record_is = λ i. record { shared = shared_of k; part = λ c. (part_is c) i }

-- ---- all records

-- each record, put after those before it, has a cell and an entry of its own
abbrev pub AllFresh : List SegRecord → List SegRecord → Type 0
AllFresh front [] = Unit {0}
AllFresh front (r ∷ rs) = Fresh front r × (r.entry < 8) × AllFresh (front ++ r ∷ []) rs

pub records_are : (k : Config) (front rs : List SegRecord) → AllFresh front rs → all_recorded (opening (record k { records = front })) rs ≡ opening (record k { records = front ++ rs })
records_are k front [] f = ap (λ (xs : List SegRecord). opening (record k { records = xs })) (sym (append-nil front))
records_are k front (r ∷ rs) f =
    ap (λ (a : State). all_recorded a rs) (record_is k front r f.0 f.1)
    ∙ records_are k (front ++ r ∷ []) rs f.2
    ∙ ap (λ (xs : List SegRecord). opening (record k { records = xs })) (append_assoc front (r ∷ []) rs)

-- what records_distinct asks of a record and a later one
abbrev differs : SegRecord → SegRecord → Bool
differs r x = not (same_seg x.seg r.seg) && not (same_seg x.mentor r.mentor && x.seg.mentor == r.seg.mentor && x.entry == r.entry)

entry_differs : (r x : SegRecord) → (same_seg x.mentor r.mentor && x.seg.mentor == r.seg.mentor && x.entry == r.entry) ≡ false → stands x.seg.mentor x.mentor x.entry r ≡ false
entry_differs r x h = false_from_ne_true (stands x.seg.mentor x.mentor x.entry r) (λ t.
    let a = and_parts (r.seg.mentor == x.seg.mentor && same_seg r.mentor x.mentor) (r.entry == x.entry) t in
    let b = and_parts (r.seg.mentor == x.seg.mentor) (same_seg r.mentor x.mentor) a.0 in
    let mentor : r.mentor ≡ x.mentor = same_seg-true r.mentor x.mentor b.1 in
    both_ways _ h (and_from _ _
    (and_from _ _ (subst (λ w. same_seg x.mentor w ≡ true) (sym mentor) (same_seg-refl x.mentor)) (eq-eqb x.seg.mentor r.seg.mentor (sym (eqb-true r.seg.mentor x.seg.mentor b.0))))
    (eq-eqb x.entry r.entry (sym (eqb-true r.entry x.entry a.1)))))

fresh_more : (front : List SegRecord) (r x : SegRecord) → Fresh front x → differs r x ≡ true → Fresh (front ++ r ∷ []) x
fresh_more front r x f d =
    let parts = and_parts (not (same_seg x.seg r.seg)) _ d in
    let seg : is_of x.class x.seg r ≡ false = and_right (r.class == x.class) (same_seg r.seg x.seg) (seg_back x.seg r.seg (not-true _ parts.0)) in
    let entry : stands x.seg.mentor x.mentor x.entry r ≡ false = entry_differs r x (not-true _ parts.1) in
    record {
      other = list_any-append (is_of x.class x.seg) front (r ∷ []) ∙ or_from _ _ f.other (or_from _ _ seg refl);
      free = list_any-append (stands x.seg.mentor x.mentor x.entry) front (r ∷ []) ∙ or_from _ _ f.free (or_from _ _ entry refl);
    }

abbrev EachFresh : List SegRecord → List SegRecord → Type 0
EachFresh front [] = Unit {0}
EachFresh front (x ∷ xs) = Fresh front x × EachFresh front xs

each_first : (xs : List SegRecord) → EachFresh [] xs
each_first [] = tt
each_first (x ∷ xs) = (record { other = refl; free = refl }, each_first xs)

each_more : (front : List SegRecord) (r : SegRecord) (xs : List SegRecord) → EachFresh front xs → list_all (differs r) xs ≡ true → EachFresh (front ++ r ∷ []) xs
each_more front r [] f d = tt
each_more front r (x ∷ xs) f d =
    let parts = and_parts (differs r x) (list_all (differs r) xs) d in (fresh_more front r x f.0 parts.0, each_more front r xs f.1 parts.1)

entry_small : (k : Config) (r : SegRecord) → record_ok k r ≡ true → r.entry < 8
entry_small k r h = ltb-true r.entry 8 (and_parts _ _ (and_parts _ _ (and_parts _ _ (and_parts _ _ (and_parts _ _ h).0).0).0).0).1

fresh_all : (k : Config) (front rs : List SegRecord) → EachFresh front rs → list_all (record_ok k) rs ≡ true → records_distinct rs ≡ true → AllFresh front rs
fresh_all k front [] f ok d = tt
fresh_all k front (r ∷ rs) f ok d =
    let passes = and_parts (record_ok k r) (list_all (record_ok k) rs) ok in
    let parts = and_parts (list_all (differs r) rs) (records_distinct rs) d in
    (f.0, entry_small k r passes.0, fresh_all k (front ++ r ∷ []) rs (each_more front r rs f.1 parts.0) passes.1 parts.1)

-- the records of a valid configuration
pub valid_fresh : (k : Config) → IsConfig k → AllFresh [] k.records
valid_fresh k valid =
    let a = and_parts (list_all (record_ok k) k.records && records_distinct k.records) _ valid.records in
    let b = and_parts (list_all (record_ok k) k.records) (records_distinct k.records) a.0 in
    fresh_all k [] k.records (each_first k.records) b.0 b.1

-- ---- one process more

-- four slots, with the processes of these lines in their order
abbrev slots_with : ℕ → List ProcessLine → List (Option Process)
slots_with c lines = map (λ i. option_map (λ (l : ProcessLine). new_process c l.script l.ring 0) (slice_get lines i)) (below 4)

slots_push : (c : ℕ) (ls : List ProcessLine) (l : ProcessLine) → length ls < 4 → set (slots_with c ls) (length ls) (Some (new_process c l.script l.ring 0)) ≡ slots_with c (ls ++ l ∷ [])
slots_push c [] l h = refl
slots_push c (a ∷ []) l h = refl
slots_push c (a ∷ b ∷ []) l h = refl
slots_push c (a ∷ b ∷ d ∷ []) l h = refl
slots_push c (a ∷ b ∷ d ∷ e ∷ ls) l h = absurd (omega arith)

slot_empty : (c : ℕ) (ls : List ProcessLine) → length ls < 4 → get_or (slots_with c ls) (length ls) None ≡ None
slot_empty c [] h = refl
slot_empty c (a ∷ []) h = refl
slot_empty c (a ∷ b ∷ []) h = refl
slot_empty c (a ∷ b ∷ d ∷ []) h = refl
slot_empty c (a ∷ b ∷ d ∷ e ∷ ls) h = absurd (omega arith)

-- a line of a processor and class
abbrev is_own : ℕ → ℕ → ProcessLine → Bool
is_own p c x = x.processor == p && x.class == c

module _ (k : Config) (front : List ProcessLine) (l : ProcessLine) (few : count_by (is_beside l) front < 4) where
  abbrev fewer : Config
  fewer = record k { processes = front }

  abbrev more : Config
  more = record k { processes = front ++ l ∷ [] }

  abbrev beside : List ProcessLine
  beside = filter (is_beside l) front

  slot_is : length beside ≡ count_by (is_beside l) front
  slot_is = length-filter (is_beside l) front

  small : length beside < 4
  small = subst (λ n. n < 4) (sym slot_is) few

  -- its slot is empty before
  pub nobody_there : process_at (opening fewer) (name_after front l) ≡ None
  nobody_there = subst (λ n. get_or (slots_with l.class beside) n None ≡ None) slot_is (slot_empty l.class beside small)

  others : (p c : ℕ) → is_own p c l ≡ false → opening_slots fewer c p ≡ opening_slots more c p
  others p c h = ap (slots_with c) (sym (filter-append (is_own p c) front (l ∷ []) ∙ (ap (λ t. filter (is_own p c) front ++ cond t (l ∷ []) []) h ∙ append-nil (filter (is_own p c) front))))

  one_more : set (opening_slots fewer l.class l.processor) (count_by (is_beside l) front) (Some (new_process l.class l.script l.ring 0)) ≡ opening_slots more l.class l.processor
  one_more =
      ap (λ n. set (slots_with l.class beside) n (Some (new_process l.class l.script l.ring 0))) (sym slot_is)
      ∙ slots_push l.class beside l small
      ∙ ap (slots_with l.class) (sym (filter-append (is_beside l) front (l ∷ []) ∙ ap (λ t. beside ++ cond t (l ∷ []) []) (and_from _ _ (eq-eqb l.processor l.processor refl) (eq-eqb l.class l.class refl))))

  abbrev taken : List (Option Process)
  taken = set (opening_slots fewer l.class l.processor) (count_by (is_beside l) front) (Some (new_process l.class l.script l.ring 0))

  slots_are : (p : ℕ) → put (opening_slots fewer l.class) l.processor taken p ≡ opening_slots more l.class p
  slots_are p = by_class (λ q (x : List (Option Process)). x ≡ opening_slots more l.class q) (opening_slots fewer l.class) l.processor taken p one_more
      (λ h. others p l.class (and_left (l.processor == p) (l.class == l.class) (number_back p l.processor h)))

  abbrev with_taken : Part
  with_taken = record (opening_part fewer l.class) { slots = put (opening_slots fewer l.class) l.processor taken }

  begun_here : with_taken ≡ opening_part more l.class
  begun_here = ap (λ (f : ℕ → List (Option Process)). record (opening_part fewer l.class) { slots = f }) (λ i p. (slots_are p) i)

  begun_there : (c : ℕ) → (c == l.class) ≡ false → opening_part fewer c ≡ opening_part more c
  begun_there c h = ap (λ (f : ℕ → List (Option Process)). record (opening_part fewer c) { slots = f })
      (λ i p. (others p c (and_right (l.processor == p) (l.class == c) (number_back c l.class h))) i)

  begun_part : (c : ℕ) → put (opening_part fewer) l.class with_taken c ≡ opening_part more c
  begun_part c = by_class (λ d (x : Part). x ≡ opening_part more d) (opening_part fewer) l.class with_taken c begun_here (begun_there c)

  -- the opening with one process more
  pub process_is : begun_after (opening fewer) front l ≡ opening more
  process_is = λ i. record { shared = shared_of k; part = λ c. (begun_part c) i }

-- ---- all processes

-- each process, put after those before it, finds a slot
abbrev pub AllFind : List ProcessLine → List ProcessLine → Type 0
AllFind front [] = Unit {0}
AllFind front (l ∷ ls) = (count_by (is_beside l) front < 4) × AllFind (front ++ l ∷ []) ls

pub processes_are : (k : Config) (front ls : List ProcessLine) → AllFind front ls → all_begun (opening (record k { processes = front })) front ls ≡ opening (record k { processes = front ++ ls })
processes_are k front [] f = ap (λ (xs : List ProcessLine). opening (record k { processes = xs })) (sym (append-nil front))
processes_are k front (l ∷ ls) f =
    ap (λ (a : State). all_begun a (front ++ l ∷ []) ls) (process_is k front l f.0)
    ∙ processes_are k (front ++ l ∷ []) ls f.1
    ∙ ap (λ (xs : List ProcessLine). opening (record k { processes = xs })) (append_assoc front (l ∷ []) ls)

find_all : (k : Config) (front ls : List ProcessLine) → front ++ ls ≡ k.processes → list_all (process_ok k) ls ≡ true → AllFind front ls
find_all k front [] whole ok = tt
find_all k front (l ∷ ls) whole ok =
    let passes = and_parts (process_ok k l) (list_all (process_ok k) ls) ok in
    let most : count_by (is_beside l) k.processes ≤ 4 = leb-true _ 4 (and_parts _ (nat_le (count_by (is_beside l) k.processes) 4) passes.0).1 in
    let all : count_by (is_beside l) (front ++ l ∷ ls) ≤ 4 = subst (λ (xs : List ProcessLine). count_by (is_beside l) xs ≤ 4) (sym whole) most in
    let split = sum_by-append (λ (x : ProcessLine). cond (is_beside l x) 1 0) front (l ∷ ls) in
    let next = sum_by-cons (λ (x : ProcessLine). cond (is_beside l x) 1 0) l ls in
    let own : ◌≡◌ {A = ℕ} (cond (is_beside l l) 1 0) 1 = ap (λ (t : Bool). cond {A = ℕ} t 1 0) (and_from (l.processor == l.processor) (l.class == l.class) (eq-eqb l.processor l.processor refl) (eq-eqb l.class l.class refl)) in
    (omega (arith, all, split, next, own), find_all k (front ++ l ∷ []) ls (append_assoc front (l ∷ []) ls ∙ whole) passes.1)

-- the processes of a valid configuration
pub valid_find : (k : Config) → IsConfig k → AllFind [] k.processes
valid_find k valid = find_all k [] k.processes refl valid.processes

-- ---- the whole

pub building : (k : Config) → IsConfig k → built k (opening (bare k)) ≡ opening k
building k valid =
    ap (λ (a : State). all_begun a [] k.processes) (records_are (record k { processes = [] }) [] k.records (valid_fresh k valid))
    ∙ processes_are k [] k.processes (valid_find k valid)
