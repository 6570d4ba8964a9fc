-- What is made of a valid volume is valid.
use Rattle.std.proofs.Common.{◌≡◌, ℕ, ◌<◌, ◌⊎◌, Bool, true, false, not, cond, eqb, ltb, ◌&&◌, ◌||◌, List, [], ◌∷◌, length, Option, Some, None, refl, sym, ap, subst, ◌∙◌, arith, inl, inr}
use Rattle.std.specs.Prelude.{map, reverse, All, IfSome}
use Rattle.std.specs.List.{AllByRecursion, filter_map, cons_option}
use Rattle.std.specs.Option.{option_map_or, option_and_then}
use Rattle.std.proofs.lemmas.Bool.{and_parts, and_from, or_cases, ltb-true, eqb-true, eq-eqb, ne_eqb, lt-ltb}
use Rattle.text_lines.proofs.FirstFault.{none_hold}
use Rattle.labels.specs.Label.{ClassEntry}
use Rattle.words_layout.specs.Segments.{seg}
use Rattle.words_layout.specs.declared.segment.SegId.{SegId}
use Rattle.class_model.specs.Config.{SegRecord, low_record}
use Rattle.volume_image.specs.declared.head.Format.TheVariants.{Two}
use Rattle.volume_image.specs.Valid.{is_above, AreWords, AreRecords, IsVolume}
use Rattle.config_text.proofs.WordFacts.{not_false}
use Rattle.release_guard.specs.declared.order.Release.{Release}
use Rattle.release_guard.specs.declared.order.Order.{Order}
use Rattle.release_guard.specs.Guard.{Volume, is_same, record_of, words_at, last_to, released, is_exported, guard, release_tests}
use Rattle.release_guard.specs.Working.{HasAll, IsInTable}
use Rattle.release_guard.proofs.Members.{map_all, both_all, all_reverse, find_has, all_index, all_map}

-- ---- identities one after the other

abbrev Above : SegId → SegId → Type 0
Above u w = (u.mentor < w.mentor) ⊎ ((u.mentor ≡ w.mentor) × (u.serial < w.serial))

is_above_true : (u w : SegId) → is_above u w ≡ true → Above u w
is_above_true u w e = elim (or_cases (ltb u.mentor w.mentor) (eqb u.mentor w.mentor && ltb u.serial w.serial) e) [
  | inl lt ↦ inl (ltb-true u.mentor w.mentor lt)
  | inr both ↦ let p = and_parts (eqb u.mentor w.mentor) (ltb u.serial w.serial) both in inr (eqb-true u.mentor w.mentor p.0, ltb-true u.serial w.serial p.1)
]

above_is_true : (u w : SegId) → Above u w → is_above u w ≡ true
above_is_true u w (inl a) = rw (lt-ltb u.mentor w.mentor a) refl
above_is_true u w (inr a) =
    elim (ltb u.mentor w.mentor) as (λ b. (b || (eqb u.mentor w.mentor && ltb u.serial w.serial)) ≡ true) [
      | true ↦ refl
      | false ↦ and_from _ _ (eq-eqb u.mentor w.mentor a.0) (lt-ltb u.serial w.serial a.1)
    ]

above_more : (u v w : SegId) → Above u v → Above v w → Above u w
above_more u v w (inl a) (inl b) = inl (omega (arith, a, b))
above_more u v w (inl a) (inr b) = inl (omega (arith, a, b.0))
above_more u v w (inr a) (inl b) = inl (omega (arith, a.0, b))
above_more u v w (inr a) (inr b) = inr (a.0 ∙ b.0, omega (arith, a.1, b.1))

above_differs : (u w : SegId) → Above u w → is_same u w ≡ false
above_differs u w (inl a) = rw (ne_eqb u.mentor w.mentor (λ e. omega (arith, a, e))) refl
above_differs u w (inr a) = rw (eq-eqb u.mentor w.mentor a.0, ne_eqb u.serial w.serial (λ e. omega (arith, a.1, e))) refl

same_self : (u : SegId) → is_same u u ≡ true
same_self u = and_from _ _ (eq-eqb u.mentor u.mentor refl) (eq-eqb u.serial u.serial refl)

abbrev identity : ℕ → ℕ → SegId
identity m s = record { mentor = m; serial = s }

same_is : (u w : SegId) → is_same u w ≡ true → u ≡ w
same_is u w e =
    let p = and_parts (eqb u.mentor w.mentor) (eqb u.serial w.serial) e in
    ap (λ m. identity m u.serial) (eqb-true u.mentor w.mentor p.0) ∙ ap (λ s. identity w.mentor s) (eqb-true u.serial w.serial p.1)

-- ---- each record of a valid volume

all_above : (t : List ClassEntry) (b : SegId) (rs : List SegRecord) → AreRecords Two t b rs → AllByRecursion (λ (x : SegRecord). Above b x.seg) rs
all_above t b [] h = tt
all_above t b (r ∷ rs) h =
    let first = is_above_true b r.seg h.0.above in
    (first, map_all (λ (x : SegRecord). Above r.seg x.seg) (λ (x : SegRecord). Above b x.seg) rs (λ x a. above_more b r.seg x.seg first a) (all_above t r.seg rs h.1))

-- Each record is the one of its identity.
all_found : (t : List ClassEntry) (b : SegId) (rs : List SegRecord) → AreRecords Two t b rs → AllByRecursion (λ (x : SegRecord). record_of rs x.seg ≡ Some x) rs
all_found t b [] h = tt
all_found t b (r ∷ rs) h = (
  rw (same_self r.seg) refl,
  both_all (λ (x : SegRecord). Above r.seg x.seg) (λ (x : SegRecord). record_of rs x.seg ≡ Some x) (λ (x : SegRecord). record_of (r ∷ rs) x.seg ≡ Some x) rs
      (λ x a f. rw (above_differs r.seg x.seg a) f) (all_above t r.seg rs h.1) (all_found t r.seg rs h.1),
)

-- the words of a record are as many as its size
abbrev AreKept : SegRecord → Type 0
AreKept r = IfSome r.kept (AreWords r.size)

all_kept : (t : List ClassEntry) (b : SegId) (rs : List SegRecord) → AreRecords Two t b rs → AllByRecursion AreKept rs
all_kept t b [] h = tt
all_kept t b (r ∷ rs) h = (h.0.kept, all_kept t r.seg rs h.1)

all_classes : (t : List ClassEntry) (b : SegId) (rs : List SegRecord) → AreRecords Two t b rs → AllByRecursion (IsInTable t) rs
all_classes t b [] h = tt
all_classes t b (r ∷ rs) h = (
  record { mentor = ltb-true r.seg.mentor (length t) (and_parts (ltb r.seg.mentor (length t)) (ltb r.seg.serial 64) h.0.seg).0; class = ltb-true r.class (length t) h.0.class },
  all_classes t r.seg rs h.1,
)

-- ---- words that are released

sizes_of : (o q : Option SegRecord) (r : SegRecord) → ((s : SegRecord) → o ≡ Some s → AreKept s) → option_map_or (λ (s : SegRecord). option_map_or (λ (t : SegRecord). not (eqb s.size t.size)) q true) o true ≡ false → q ≡ Some r →
    IfSome (option_and_then (λ (s : SegRecord). s.kept) o) (AreWords r.size)
sizes_of None q r kept same is = absurd cc
sizes_of (Some s) None r kept same is = absurd cc
sizes_of (Some s) (Some t) r kept same is =
    let size : s.size ≡ t.size = eqb-true s.size t.size (not_false (eqb s.size t.size) same) in
    let whole : t ≡ r = cc in
    subst (λ n. IfSome s.kept (AreWords n)) (size ∙ ap (λ (x : SegRecord). x.size) whole) (kept s refl)

words_fit : (v : Volume) (x : Release) (r : SegRecord) → AllByRecursion AreKept v → HasAll v x → record_of v x.to ≡ Some r → IfSome (words_at v x.from) (AreWords r.size)
words_fit v x r kept all is =
    let none = none_hold (release_tests v x) all in
    sizes_of (record_of v x.from) (record_of v x.to) r (λ s e. (find_has AreKept (λ (y : SegRecord). is_same y.seg x.from) v s kept e).0) none.1.1.1.0 is

-- a record is as it was but for its words, which fit it
abbrev pub IsKept : (SegRecord → SegRecord) → SegRecord → Type 0
IsKept f r = (f r ≡ record r { kept = (f r).kept }) × IfSome (f r).kept (AreWords r.size)

abbrev from_source : Volume → SegRecord → Release → SegRecord
from_source v r x = record r { kept = words_at v x.from }

by_last : (releases : List Release) (v : Volume) (r : SegRecord) (o : Option Release) → last_to releases r.seg ≡ o → AllByRecursion AreKept v → AllByRecursion (HasAll v) releases → record_of v r.seg ≡ Some r → AreKept r →
    (option_map_or (from_source v r) o r ≡ record r { kept = (option_map_or (from_source v r) o r).kept }) × IfSome (option_map_or (from_source v r) o r).kept (AreWords r.size)
by_last releases v r None e kept all found here = (refl, here)
by_last releases v r (Some x) e kept all found here =
    let has = find_has (HasAll v) (λ (y : Release). is_same y.to r.seg) (reverse releases) x (all_reverse (HasAll v) releases all) e in
    (refl, words_fit v x r kept has.0 (ap (record_of v) (same_is x.to r.seg has.1) ∙ found))

all_released : (t : List ClassEntry) (b : SegId) (v : Volume) (releases : List Release) → AreRecords Two t b v → AllByRecursion (HasAll v) releases → AllByRecursion (IsKept (released releases v)) v
all_released t b v releases h all =
    both_all (λ (r : SegRecord). record_of v r.seg ≡ Some r) AreKept (IsKept (released releases v)) v
    (λ r found kept. by_last releases v r (last_to releases r.seg) refl (all_kept t b v h) all found kept) (all_found t b v h) (all_kept t b v h)

-- ---- the export

shown_kept : (b : Bool) (ks : Option (List ℕ)) (size : ℕ) → IfSome ks (AreWords size) → IfSome (cond b ks None) (AreWords size)
shown_kept true ks size is = is
shown_kept false ks size is = tt

shown_valid : (low : ℕ → Bool) (f : SegRecord → SegRecord) (t : List ClassEntry) (b c : SegId) (rs : List SegRecord) → AreRecords Two t b rs → AllByRecursion (IsKept f) rs → ((u : SegId) → Above b u → Above c u) → AreRecords Two t c (filter_map (low_record low) (map f rs))
shown_valid low f t b c [] h all up = tt
shown_valid low f t b c (r ∷ rs) h all up =
    let first = is_above_true b r.seg h.0.above in
    let more : List SegRecord = filter_map (low_record low) (map f rs) in
    let ks = (f r).kept in
    let made : AreRecords Two t c (cons_option (low_record low (record r { kept = ks })) more) =
    elim (low r.seg.mentor) as (λ x. AreRecords Two t c (cons_option (cond x (Some (record r { kept = cond (low r.class) ks None })) None) more)) [
      | true ↦ (
        record {
          seg = h.0.seg;
          other = h.0.other;
          above = above_is_true c r.seg (up r.seg first);
          class = h.0.class;
          flows = h.0.flows;
          brackets = h.0.brackets;
          size = h.0.size;
          mentor = h.0.mentor;
          stands = h.0.stands;
          entry = h.0.entry;
          kept = shown_kept (low r.class) ks r.size all.0.1;
        },
        shown_valid low f t r.seg r.seg rs h.1 all.1 (λ u a. a),
      )
      | false ↦ shown_valid low f t r.seg c rs h.1 all.1 (λ u a. up u (above_more b r.seg u first a))
    ] in
    subst (λ (m : SegRecord). AreRecords Two t c (cons_option (low_record low m) more)) (sym all.0.0) made

pub guard_valid : (k : Order) (v : Volume) → IsVolume k.table v → AllByRecursion (HasAll v) k.releases → IsVolume k.table (guard k v)
guard_valid k v valid all = record {
  room = refl;
  records = shown_valid (is_exported k) (released k.releases v) k.table (seg 0 0) (seg 0 0) v valid.records (all_released k.table (seg 0 0) v k.releases valid.records all) (λ u a. a);
}

in_table : (t : List ClassEntry) (releases : List Release) (v : Volume) (r : SegRecord) (o : Option Release) → IsInTable t r → IsInTable t (option_map_or (from_source v r) o r)
in_table t releases v r None is = is
in_table t releases v r (Some x) is = record { mentor = is.mentor; class = is.class }

-- The classes of what the releases make are those of the table.
pub working_in_table : (k : Order) (v working : List SegRecord) → IsVolume k.table v → working ≡ map (released k.releases v) v → All (IsInTable k.table) working
working_in_table k v working valid is =
    subst (All (IsInTable k.table)) (sym is)
    (all_index (IsInTable k.table) (map (released k.releases v) v)
    (all_map (IsInTable k.table) (released k.releases v) v
    (map_all (IsInTable k.table) (λ r. IsInTable k.table (released k.releases v r)) v (λ r i. in_table k.table k.releases v r (last_to k.releases r.seg) i) (all_classes k.table (seg 0 0) v valid.records))))
