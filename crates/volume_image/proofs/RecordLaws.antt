-- The fields of a record: what is read is the record's spelling and the record is valid, and what a valid record spells is read.
use Rattle.std.proofs.Common.{◌≡◌, ℕ, zero, suc, ◌^◌, ◌<◌, ◌≤◌, Bool, true, false, not, eqb, leb, ltb, List, [], ◌∷◌, ◌++◌, length, Option, Some, None, Ok, refl, ap, subst, ◌∙◌, append_assoc, arith}
use Rattle.std.specs.Prelude.{IfSome}
use Rattle.std.specs.Int.{w64, to_be_bytes}
use Rattle.std.specs.List.{flat_map, AllByRecursion}
use Rattle.std.proofs.lemmas.Bool.{eqb-true, eqb-false, leb-true, not-false, not_from_true}
use Rattle.std.proofs.lemmas.List.Concat.{flat_map-cons}
use Rattle.labels.specs.Label.{ClassEntry, at_or_below}
use Rattle.rings.specs.Brackets.{Brackets, in_order}
use Rattle.words_layout.specs.declared.segment.SegId.{SegId}
use Rattle.class_model.specs.Config.{SegRecord}
use Rattle.class_model.specs.Valid.{within, is_root}
use Rattle.volume_image.specs.declared.head.Format.{Format}
use Rattle.volume_image.specs.declared.fault.Code.TheVariants as code
use Rattle.volume_image.specs.Valid.{is_class, is_identity, is_above, may_stand, AreWords, IsRecord, AreRecords}
use Rattle.volume_image.specs.Written.{identity_bytes, brackets_bytes, kept_bytes, record_bytes}
use Rattle.volume_image.specs.Steps.{Step, Tests, ◌>>=◌, field, byte_at, number_at, identity_at}
use Rattle.volume_image.specs.Fields.{id_at, class_number_at, rings_at, brackets_at, size_at, mentor_at, entry_at, words_at, kept_behind, kept_at, record_at, records_at}
use Rattle.volume_image.proofs.Taking.{IsBytes, Takes, Takes-then, bind_ok, bind_then, carry, ok_is, field_ok, field_again, byte_takes, identity_takes, rings_takes, wide64, number_takes, number_again}

-- ---- one field

abbrev id_tests : Format → List ClassEntry → SegId → SegId → Tests
id_tests f table before u = (not (is_identity f table u), code.Range) ∷ (is_root u, code.Range) ∷ (not (is_above before u), code.Order) ∷ []

id_takes : (f : Format) (table : List ClassEntry) (before : SegId) (bytes : List ℕ) (x : SegId × List ℕ) → IsBytes bytes → id_at f table before bytes ≡ Ok x →
    Takes bytes (identity_bytes x.0) x.1 × (is_identity f table x.0 ≡ true) × (is_root x.0 ≡ false) × (is_above before x.0 ≡ true)
unfolding id_at
id_takes f table before bytes x fits e =
    let p = field_ok identity_at (id_tests f table before) bytes x e in
    (identity_takes bytes x fits p.0, not-false _ p.1.0, p.1.1.0, not-false _ p.1.1.1.0)

id_again : (f : Format) (table : List ClassEntry) (before u : SegId) (rest : List ℕ) → is_identity f table u ≡ true → is_root u ≡ false → is_above before u ≡ true →
    id_at f table before (u.mentor ∷ u.serial ∷ rest) ≡ Ok (u, rest)
unfolding id_at
id_again f table before u rest h k l =
    field_again identity_at (id_tests f table before) (u.mentor ∷ u.serial ∷ rest) (u, rest) refl (not_from_true _ h, (k, (not_from_true _ l, tt)))

abbrev class_tests : List ClassEntry → ℕ → ℕ → Tests
class_tests table m c = (not (is_class table c), code.Range) ∷ (not (at_or_below table m c), code.Class) ∷ []

class_takes : (table : List ClassEntry) (m : ℕ) (bytes : List ℕ) (x : ℕ × List ℕ) → IsBytes bytes → class_number_at table m bytes ≡ Ok x →
    Takes bytes (x.0 ∷ []) x.1 × (is_class table x.0 ≡ true) × (at_or_below table m x.0 ≡ true)
unfolding class_number_at
class_takes table m bytes x fits e =
    let p = field_ok byte_at (class_tests table m) bytes x e in
    (byte_takes bytes x fits p.0, not-false _ p.1.0, not-false _ p.1.1.0)

class_again : (table : List ClassEntry) (m c : ℕ) (rest : List ℕ) → is_class table c ≡ true → at_or_below table m c ≡ true → class_number_at table m (c ∷ rest) ≡ Ok (c, rest)
unfolding class_number_at
class_again table m c rest h k = field_again byte_at (class_tests table m) (c ∷ rest) (c, rest) refl (not_from_true _ h, (not_from_true _ k, tt))

abbrev brackets_tests : Brackets → Tests
brackets_tests b = (not (in_order b), code.Range) ∷ []

brackets_take : (bytes : List ℕ) (x : Brackets × List ℕ) → IsBytes bytes → brackets_at bytes ≡ Ok x → Takes bytes (brackets_bytes x.0) x.1 × (in_order x.0 ≡ true)
unfolding brackets_at
brackets_take bytes x fits e =
    let p = field_ok rings_at brackets_tests bytes x e in
    (rings_takes bytes x fits p.0, not-false _ p.1.0)

brackets_again : (b : Brackets) (rest : List ℕ) → in_order b ≡ true → brackets_at (b.r1 ∷ b.r2 ∷ b.r3 ∷ rest) ≡ Ok (b, rest)
unfolding brackets_at
brackets_again b rest h = field_again rings_at brackets_tests (b.r1 ∷ b.r2 ∷ b.r3 ∷ rest) (b, rest) refl (not_from_true _ h, tt)

abbrev size_tests : ℕ → Tests
size_tests n = (not (within 1 64 n), code.Range) ∷ []

size_takes : (bytes : List ℕ) (x : ℕ × List ℕ) → IsBytes bytes → size_at bytes ≡ Ok x → Takes bytes (x.0 ∷ []) x.1 × (within 1 64 x.0 ≡ true)
unfolding size_at
size_takes bytes x fits e =
    let p = field_ok byte_at size_tests bytes x e in
    (byte_takes bytes x fits p.0, not-false _ p.1.0)

size_again : (n : ℕ) (rest : List ℕ) → within 1 64 n ≡ true → size_at (n ∷ rest) ≡ Ok (n, rest)
unfolding size_at
size_again n rest h = field_again byte_at size_tests (n ∷ rest) (n, rest) refl (not_from_true _ h, tt)

abbrev mentor_tests : Format → List ClassEntry → SegId → SegId → Tests
mentor_tests f table u v = (not (is_identity f table v), code.Range) ∷ (not (may_stand table u v), code.Mentor) ∷ []

mentor_takes : (f : Format) (table : List ClassEntry) (u : SegId) (bytes : List ℕ) (x : SegId × List ℕ) → IsBytes bytes → mentor_at f table u bytes ≡ Ok x →
    Takes bytes (identity_bytes x.0) x.1 × (is_identity f table x.0 ≡ true) × (may_stand table u x.0 ≡ true)
unfolding mentor_at
mentor_takes f table u bytes x fits e =
    let p = field_ok identity_at (mentor_tests f table u) bytes x e in
    (identity_takes bytes x fits p.0, not-false _ p.1.0, not-false _ p.1.1.0)

mentor_again : (f : Format) (table : List ClassEntry) (u v : SegId) (rest : List ℕ) → is_identity f table v ≡ true → may_stand table u v ≡ true →
    mentor_at f table u (v.mentor ∷ v.serial ∷ rest) ≡ Ok (v, rest)
unfolding mentor_at
mentor_again f table u v rest h k =
    field_again identity_at (mentor_tests f table u) (v.mentor ∷ v.serial ∷ rest) (v, rest) refl (not_from_true _ h, (not_from_true _ k, tt))

abbrev entry_tests : ℕ → Tests
entry_tests e = (not (ltb e 8), code.Range) ∷ []

entry_takes : (bytes : List ℕ) (x : ℕ × List ℕ) → IsBytes bytes → entry_at bytes ≡ Ok x → Takes bytes (x.0 ∷ []) x.1 × (ltb x.0 8 ≡ true)
unfolding entry_at
entry_takes bytes x fits e =
    let p = field_ok byte_at entry_tests bytes x e in
    (byte_takes bytes x fits p.0, not-false _ p.1.0)

entry_again : (n : ℕ) (rest : List ℕ) → ltb n 8 ≡ true → entry_at (n ∷ rest) ≡ Ok (n, rest)
unfolding entry_at
entry_again n rest h = field_again byte_at entry_tests (n ∷ rest) (n, rest) refl (not_from_true _ h, tt)

-- ---- words

abbrev words_bytes : List ℕ → List ℕ
words_bytes words = flat_map (to_be_bytes w64) words

words_take : (n : ℕ) (bytes : List ℕ) (x : List ℕ × List ℕ) → IsBytes bytes → words_at n bytes ≡ Ok x → Takes bytes (words_bytes x.0) x.1 × AreWords n x.0
unfolding words_at
words_take zero bytes x fits e =
    subst (λ (y : List ℕ × List ℕ). Takes bytes (words_bytes y.0) y.1 × AreWords 0 y.0) (ok_is ([], bytes) x e) (record { parts = refl; rest_fits = fits }, (refl, tt))
words_take (suc n) bytes x fits e =
    let a = bind_ok (number_at w64 bytes) (λ first. words_at n first.1 >>= λ others. Ok (first.0 ∷ others.0, others.1)) x e in
    let b = bind_ok (words_at n a.0.1) (λ others. Ok (a.0.0 ∷ others.0, others.1)) x a.2 in
    let first = number_takes w64 (2 ^ 64) wide64 bytes a.0 fits a.1 in
    let second = words_take n a.0.1 b.0 first.0.rest_fits b.1 in
    let both = Takes-then bytes (to_be_bytes w64 a.0.0) a.0.1 (words_bytes b.0.0) b.0.1 first.0 second.0 in
    let made : List ℕ × List ℕ = (a.0.0 ∷ b.0.0, b.0.1) in
    carry (λ (y : List ℕ × List ℕ). Takes bytes (words_bytes y.0) y.1 × AreWords (suc n) y.0) made x (ok_is made x b.2) (rw flat_map-cons both, (ap suc second.1.0, (first.1, second.1.1)))

words_from : (n : ℕ) (w : ℕ) (ws b0 b1 b2 : List ℕ) → number_at w64 b0 ≡ Ok (w, b1) → words_at n b1 ≡ Ok (ws, b2) → words_at (suc n) b0 ≡ Ok (w ∷ ws, b2)
unfolding words_at
words_from n w ws b0 b1 b2 h k =
    ap (λ (r : Step ℕ). r >>= λ first. words_at n first.1 >>= λ others. Ok (first.0 ∷ others.0, others.1)) h
    ∙ ap (λ (r : Step (List ℕ)). r >>= λ others. Ok (w ∷ others.0, others.1)) k

words_again : (ws rest : List ℕ) → AllByRecursion (λ w. w < 2 ^ 64) ws → words_at (length ws) (words_bytes ws ++ rest) ≡ Ok (ws, rest)
unfolding words_at
words_again [] rest fits = refl
words_again (w ∷ ws) rest fits =
    let regrouped : words_bytes (w ∷ ws) ++ rest ≡ to_be_bytes w64 w ++ (words_bytes ws ++ rest) =
    ap (λ (x : List ℕ). x ++ rest) (flat_map-cons (to_be_bytes w64) w ws) ∙ append_assoc (to_be_bytes w64 w) (words_bytes ws) rest in
    ap (words_at (suc (length ws))) regrouped
    ∙ words_from (length ws) w ws (to_be_bytes w64 w ++ (words_bytes ws ++ rest)) (words_bytes ws ++ rest) rest (number_again w64 (2 ^ 64) wide64 w (words_bytes ws ++ rest) fits.0) (words_again ws rest fits.1)

abbrev kept_tests : ℕ → Tests
kept_tests k = (not (leb k 1), code.Range) ∷ []

abbrev KeptTakes : ℕ → List ℕ → Option (List ℕ) × List ℕ → Type 0
KeptTakes size bytes x = Takes bytes (kept_bytes x.0) x.1 × IfSome x.0 (AreWords size)

behind_takes : (size k : ℕ) (flag : Bool) (bytes after : List ℕ) (x : Option (List ℕ) × List ℕ) → eqb k 0 ≡ flag → k ≤ 1 → Takes bytes (k ∷ []) after → kept_behind size flag after ≡ Ok x → KeptTakes size bytes x
behind_takes size k true bytes after x is few t e =
    let zero_is : k ≡ 0 = eqb-true k 0 is in
    subst (KeptTakes size bytes) (ok_is (None, after) x e) (subst (λ (n : ℕ). Takes bytes (n ∷ []) after) zero_is t, tt)
behind_takes size k false bytes after x is few t e =
    let other : k ≡ 0 → ⊥ = eqb-false k 0 is in
    let one_is : k ≡ 1 = omega (arith, other, few) in
    let b = bind_ok (words_at size after) (λ words. Ok (Some words.0, words.1)) x e in
    let w = words_take size after b.0 t.rest_fits b.1 in
    let front = subst (λ (n : ℕ). Takes bytes (n ∷ []) after) one_is t in
    carry (KeptTakes size bytes) (Some b.0.0, b.0.1) x (ok_is (Some b.0.0, b.0.1) x b.2) (Takes-then bytes (1 ∷ []) after (words_bytes b.0.0) b.0.1 front w.0, w.1)

kept_takes : (size : ℕ) (bytes : List ℕ) (x : Option (List ℕ) × List ℕ) → IsBytes bytes → kept_at size bytes ≡ Ok x → KeptTakes size bytes x
unfolding kept_at
kept_takes size bytes x fits e =
    let b = bind_ok (field byte_at kept_tests bytes) (λ flag. kept_behind size (eqb flag.0 0) flag.1) x e in
    let p = field_ok byte_at kept_tests bytes b.0 b.1 in
    behind_takes size b.0.0 (eqb b.0.0 0) bytes b.0.1 x refl (leb-true b.0.0 1 (not-false _ p.1.0)) (byte_takes bytes b.0 fits p.0) b.2

some_words : (size : ℕ) (ws b0 rest : List ℕ) → words_at size b0 ≡ Ok (ws, rest) → kept_at size (1 ∷ b0) ≡ Ok (Some ws, rest)
unfolding kept_at
some_words size ws b0 rest h = ap (λ (r : Step (List ℕ)). r >>= λ words. Ok (Some words.0, words.1)) h

kept_again : (size : ℕ) (kept : Option (List ℕ)) (rest : List ℕ) → IfSome kept (AreWords size) → kept_at size (kept_bytes kept ++ rest) ≡ Ok (kept, rest)
unfolding kept_at
kept_again size None rest ok = refl
kept_again size (Some ws) rest ok =
    some_words size ws (words_bytes ws ++ rest) rest (subst (λ (n : ℕ). words_at n (words_bytes ws ++ rest) ≡ Ok (ws, rest)) ok.0 (words_again ws rest ok.1))

-- ---- a record

abbrev RecordTakes : Format → List ClassEntry → SegId → List ℕ → SegRecord × List ℕ → Type 0
RecordTakes f table before bytes x = Takes bytes (record_bytes x.0) x.1 × IsRecord f table before x.0

-- the record of the values that were read
abbrev made : SegId → ℕ → Brackets → ℕ → SegId → ℕ → Option (List ℕ) → SegRecord
made u c b n v i k = record { seg = u; class = c; brackets = b; size = n; mentor = v; entry = i; kept = k }

-- from the fields to the record
record_of_fields : (f : Format) (table : List ClassEntry) (before : SegId) (b0 : List ℕ) (u : SegId × List ℕ) (c : ℕ × List ℕ) (b : Brackets × List ℕ) (n : ℕ × List ℕ) (v : SegId × List ℕ) (i : ℕ × List ℕ)
    (k : Option (List ℕ) × List ℕ) → IsBytes b0 → id_at f table before b0 ≡ Ok u → class_number_at table u.0.mentor u.1 ≡ Ok c → brackets_at c.1 ≡ Ok b → size_at b.1 ≡ Ok n → mentor_at f table u.0 n.1 ≡ Ok v →
    entry_at v.1 ≡ Ok i → kept_at n.0 i.1 ≡ Ok k → RecordTakes f table before b0 (made u.0 c.0 b.0 n.0 v.0 i.0 k.0, k.1)
unfolding record_bytes
record_of_fields f table before b0 u c b n v i k fits hu hc hb hn hv hi hk =
    let tu = id_takes f table before b0 u fits hu in
    let tc = class_takes table u.0.mentor u.1 c tu.0.rest_fits hc in
    let tb = brackets_take c.1 b tc.0.rest_fits hb in
    let tn = size_takes b.1 n tb.0.rest_fits hn in
    let tv = mentor_takes f table u.0 n.1 v tn.0.rest_fits hv in
    let ti = entry_takes v.1 i tv.0.rest_fits hi in
    let tk = kept_takes n.0 i.1 k ti.0.rest_fits hk in
    let s6 = kept_bytes k.0 in
    let s5 = (i.0 ∷ []) ++ s6 in
    let s4 = identity_bytes v.0 ++ s5 in
    let s3 = (n.0 ∷ []) ++ s4 in
    let s2 = brackets_bytes b.0 ++ s3 in
    let s1 = (c.0 ∷ []) ++ s2 in
    let t5 = Takes-then v.1 (i.0 ∷ []) i.1 s6 k.1 ti.0 tk.0 in
    let t4 = Takes-then n.1 (identity_bytes v.0) v.1 s5 k.1 tv.0 t5 in
    let t3 = Takes-then b.1 (n.0 ∷ []) n.1 s4 k.1 tn.0 t4 in
    let t2 = Takes-then c.1 (brackets_bytes b.0) b.1 s3 k.1 tb.0 t3 in
    let t1 = Takes-then u.1 (c.0 ∷ []) c.1 s2 k.1 tc.0 t2 in
    let t0 = Takes-then b0 (identity_bytes u.0) u.1 s1 k.1 tu.0 t1 in
    (t0, record { seg = tu.1; other = tu.2; above = tu.3; class = tc.1; flows = tc.2; brackets = tb.1; size = tn.1; mentor = tv.1; stands = tv.2; entry = ti.1; kept = tk.1 })

record_takes : (f : Format) (table : List ClassEntry) (before : SegId) (bytes : List ℕ) (x : SegRecord × List ℕ) → IsBytes bytes → record_at f table before bytes ≡ Ok x → RecordTakes f table before bytes x
unfolding record_at
record_takes f table before bytes x fits e =
    let P = RecordTakes f table before bytes in
    bind_then (id_at f table before bytes) (λ u. class_number_at table u.0.mentor u.1 >>= λ c. brackets_at c.1 >>= λ b. size_at b.1 >>= λ n. mentor_at f table u.0 n.1 >>= λ v. entry_at v.1 >>= λ i. kept_at n.0 i.1 >>= λ k. Ok (made u.0 c.0 b.0 n.0 v.0 i.0 k.0, k.1)) x P e (λ u hu eu.
    bind_then (class_number_at table u.0.mentor u.1) (λ c. brackets_at c.1 >>= λ b. size_at b.1 >>= λ n. mentor_at f table u.0 n.1 >>= λ v. entry_at v.1 >>= λ i. kept_at n.0 i.1 >>= λ k. Ok (made u.0 c.0 b.0 n.0 v.0 i.0 k.0, k.1)) x P eu (λ c hc ec.
    bind_then (brackets_at c.1) (λ b. size_at b.1 >>= λ n. mentor_at f table u.0 n.1 >>= λ v. entry_at v.1 >>= λ i. kept_at n.0 i.1 >>= λ k. Ok (made u.0 c.0 b.0 n.0 v.0 i.0 k.0, k.1)) x P ec (λ b hb eb.
    bind_then (size_at b.1) (λ n. mentor_at f table u.0 n.1 >>= λ v. entry_at v.1 >>= λ i. kept_at n.0 i.1 >>= λ k. Ok (made u.0 c.0 b.0 n.0 v.0 i.0 k.0, k.1)) x P eb (λ n hn en.
    bind_then (mentor_at f table u.0 n.1) (λ v. entry_at v.1 >>= λ i. kept_at n.0 i.1 >>= λ k. Ok (made u.0 c.0 b.0 n.0 v.0 i.0 k.0, k.1)) x P en (λ v hv ev.
    bind_then (entry_at v.1) (λ i. kept_at n.0 i.1 >>= λ k. Ok (made u.0 c.0 b.0 n.0 v.0 i.0 k.0, k.1)) x P ev (λ i hi ei.
    bind_then (kept_at n.0 i.1) (λ k. Ok (made u.0 c.0 b.0 n.0 v.0 i.0 k.0, k.1)) x P ei (λ k hk ek.
    carry P (made u.0 c.0 b.0 n.0 v.0 i.0 k.0, k.1) x (ok_is (made u.0 c.0 b.0 n.0 v.0 i.0 k.0, k.1) x ek) (record_of_fields f table before bytes u c b n v i k fits hu hc hb hn hv hi hk))))))))

record_from : (f : Format) (table : List ClassEntry) (before : SegId) (r : SegRecord) (b0 b1 b2 b3 b4 b5 b6 b7 : List ℕ) → id_at f table before b0 ≡ Ok (r.seg, b1) →
    class_number_at table r.seg.mentor b1 ≡ Ok (r.class, b2) → brackets_at b2 ≡ Ok (r.brackets, b3) → size_at b3 ≡ Ok (r.size, b4) → mentor_at f table r.seg b4 ≡ Ok (r.mentor, b5) →
    entry_at b5 ≡ Ok (r.entry, b6) → kept_at r.size b6 ≡ Ok (r.kept, b7) → record_at f table before b0 ≡ Ok (r, b7)
unfolding record_at
record_from f table before r b0 b1 b2 b3 b4 b5 b6 b7 h0 h1 h2 h3 h4 h5 h6 = rw (h0, h1, h2, h3, h4, h5, h6) refl

record_again : (f : Format) (table : List ClassEntry) (before : SegId) (r : SegRecord) (rest : List ℕ) → IsRecord f table before r → record_at f table before (record_bytes r ++ rest) ≡ Ok (r, rest)
unfolding record_bytes
record_again f table before r rest ok =
    let b6 = kept_bytes r.kept ++ rest in
    let b5 = r.entry ∷ b6 in
    let b4 = r.mentor.mentor ∷ r.mentor.serial ∷ b5 in
    let b3 = r.size ∷ b4 in
    let b2 = r.brackets.r1 ∷ r.brackets.r2 ∷ r.brackets.r3 ∷ b3 in
    let b1 = r.class ∷ b2 in
    record_from f table before r (r.seg.mentor ∷ r.seg.serial ∷ b1) b1 b2 b3 b4 b5 b6 rest (id_again f table before r.seg b1 ok.seg ok.other ok.above)
    (class_again table r.seg.mentor r.class b2 ok.class ok.flows) (brackets_again r.brackets b3 ok.brackets) (size_again r.size b4 ok.size) (mentor_again f table r.seg r.mentor b5 ok.mentor ok.stands)
    (entry_again r.entry b6 ok.entry) (kept_again r.size r.kept rest ok.kept)

-- ---- records

abbrev RecordsTake : Format → List ClassEntry → SegId → ℕ → List ℕ → List SegRecord × List ℕ → Type 0
RecordsTake f table before n bytes x = Takes bytes (flat_map record_bytes x.0) x.1 × (length x.0 ≡ n) × AreRecords f table before x.0

pub records_take : (f : Format) (table : List ClassEntry) (before : SegId) (n : ℕ) (bytes : List ℕ) (x : List SegRecord × List ℕ) → IsBytes bytes → records_at f table before n bytes ≡ Ok x → RecordsTake f table before n bytes x
unfolding records_at
records_take f table before zero bytes x fits e =
    subst (RecordsTake f table before 0 bytes) (ok_is ([], bytes) x e) (record { parts = refl; rest_fits = fits }, refl, tt)
records_take f table before (suc n) bytes x fits e =
    let a = bind_ok (record_at f table before bytes) (λ first. records_at f table first.0.seg n first.1 >>= λ others. Ok (first.0 ∷ others.0, others.1)) x e in
    let b = bind_ok (records_at f table a.0.0.seg n a.0.1) (λ others. Ok (a.0.0 ∷ others.0, others.1)) x a.2 in
    let first = record_takes f table before bytes a.0 fits a.1 in
    let second = records_take f table a.0.0.seg n a.0.1 b.0 first.0.rest_fits b.1 in
    let both = Takes-then bytes (record_bytes a.0.0) a.0.1 (flat_map record_bytes b.0.0) b.0.1 first.0 second.0 in
    let made : List SegRecord × List ℕ = (a.0.0 ∷ b.0.0, b.0.1) in
    carry (RecordsTake f table before (suc n) bytes) made x (ok_is made x b.2) (rw flat_map-cons both, ap suc second.1, (first.1, second.2))

records_from : (f : Format) (table : List ClassEntry) (before : SegId) (n : ℕ) (r : SegRecord) (rs : List SegRecord) (b0 b1 b2 : List ℕ) → record_at f table before b0 ≡ Ok (r, b1) →
    records_at f table r.seg n b1 ≡ Ok (rs, b2) → records_at f table before (suc n) b0 ≡ Ok (r ∷ rs, b2)
unfolding records_at
records_from f table before n r rs b0 b1 b2 h k =
    ap (λ (z : Step SegRecord). z >>= λ first. records_at f table first.0.seg n first.1 >>= λ others. Ok (first.0 ∷ others.0, others.1)) h
    ∙ ap (λ (z : Step (List SegRecord)). z >>= λ others. Ok (r ∷ others.0, others.1)) k

pub records_again : (f : Format) (table : List ClassEntry) (before : SegId) (rs : List SegRecord) (rest : List ℕ) → AreRecords f table before rs →
    records_at f table before (length rs) (flat_map record_bytes rs ++ rest) ≡ Ok (rs, rest)
unfolding records_at
records_again f table before [] rest ok = refl
records_again f table before (r ∷ rs) rest ok =
    let regrouped : flat_map record_bytes (r ∷ rs) ++ rest ≡ record_bytes r ++ (flat_map record_bytes rs ++ rest) =
    ap (λ (x : List ℕ). x ++ rest) (flat_map-cons record_bytes r rs) ∙ append_assoc (record_bytes r) (flat_map record_bytes rs) rest in
    ap (records_at f table before (suc (length rs))) regrouped
    ∙ records_from f table before (length rs) r rs (record_bytes r ++ (flat_map record_bytes rs ++ rest)) (flat_map record_bytes rs ++ rest) rest
    (record_again f table before r (flat_map record_bytes rs ++ rest) ok.0) (records_again f table r.seg rs rest ok.1)
