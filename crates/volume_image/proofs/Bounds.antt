-- No step leaves more bytes than it found, so a fault stands within the bytes or at their end.
use Rattle.std.proofs.Common.{◌≡◌, ℕ, zero, suc, ◌≤◌, Bool, true, false, not, ◌||◌, cond, eqb, leb, ltb, List, [], ◌∷◌, length, take, drop, Option, Some, Result, Ok, Err, length-drop, arith}
use Rattle.std.specs.Prelude.{codes}
use Rattle.std.specs.Str.{bytes_eq}
use Rattle.std.specs.Int.{Width, w16, w64, byte_len, from_be_bytes}
use Rattle.labels.specs.Label.{Label, ClassEntry, at_or_below}
use Rattle.labels.specs.Bytes.{bytes_of}
use Rattle.rings.specs.Brackets.{Brackets, in_order}
use Rattle.words_layout.specs.Segments.{seg}
use Rattle.words_layout.specs.declared.segment.SegId.{SegId}
use Rattle.class_model.specs.Config.{SegRecord}
use Rattle.class_model.specs.Valid.{within, is_root}
use Rattle.volume_image.specs.declared.head.Format.{Format}
use Rattle.volume_image.specs.declared.head.Format.TheVariants.{One, Two}
use Rattle.volume_image.specs.declared.fault.Code.TheVariants as code
use Rattle.volume_image.specs.Valid.{has_room, is_high, is_class, is_identity, is_above, may_stand}
use Rattle.volume_image.specs.Steps.{Fault, Step, Tests, ◌>>=◌, judged, field, passed, byte_at, front_at, number_at, identity_at}
use Rattle.volume_image.specs.Fields.{magic_at, numbered, format_at, zero_at, classes_number_at, name_at, label_at, class_fields, classes_at, header_at, id_at, class_number_at, rings_at, brackets_at, size_at, mentor_at, entry_at, words_at, kept_behind, kept_at, record_at, records_at, volume_at}

-- What is left, of a value by `left`, and of a fault, is no more than n.
abbrev pub Within : {A : Type 0} → (A → List ℕ) → ℕ → Result A Fault → Type 0
Within left n (Ok x) = length (left x) ≤ n
Within left n (Err f) = f.left ≤ n

-- what a step leaves
abbrev behind : {A : Type 0} → A × List ℕ → List ℕ
behind x = x.1

abbrev itself : List ℕ → List ℕ
itself bytes = bytes

then_within : {A B : Type 0} (s : A → List ℕ) (t : B → List ℕ) (n : ℕ) (r : Result A Fault) (f : A → Result B Fault) → Within s n r → ((x : A) → length (s x) ≤ n → Within t n (f x)) → Within t n (r >>= f)
then_within s t n (Ok x) f h g = g x h
then_within s t n (Err e) f h g = h

test_within : {A : Type 0} (s : A → List ℕ) (n : ℕ) (b : Bool) (f : Fault) (r : Result A Fault) → f.left ≤ n → Within s n r → Within s n (cond b (Err f) r)
test_within s n true f r h g = h
test_within s n false f r h g = g

judged_within : {A : Type 0} (s : A → List ℕ) (n left : ℕ) (ts : Tests) (x : A) → left ≤ n → length (s x) ≤ n → Within s n (judged left ts x)
judged_within s n left [] x le fits = fits
judged_within s n left (t ∷ ts) x le fits = test_within s n t.0 (record { left = left; code = t.1 }) (judged left ts x) le (judged_within s n left ts x le fits)

-- a step that leaves no more than it found
abbrev IsStep : {A : Type 0} → (List ℕ → Step A) → Type 0
IsStep {A} read = (n : ℕ) (bytes : List ℕ) → length bytes ≤ n → Within (behind {A = A}) n (read bytes)

field_within : {A : Type 0} (read : List ℕ → Step A) (tests : A → Tests) → IsStep read → IsStep (field read tests)
field_within {A} read tests h n bytes le =
    then_within (behind {A = A}) (behind {A = A}) n (read bytes) (λ x. judged (length bytes) (tests x.0) x) (h n bytes le) (λ x fits. judged_within (behind {A = A}) n (length bytes) (tests x.0) x le fits)

passed_within : {A : Type 0} (read : List ℕ → Step A) (tests : A → Tests) → IsStep read → (n : ℕ) (bytes : List ℕ) → length bytes ≤ n → Within itself n (passed read tests bytes)
passed_within {A} read tests h n bytes le =
    then_within (behind {A = A}) itself n (read bytes) (λ x. judged (length bytes) (tests x.0) x.1) (h n bytes le) (λ x fits. judged_within itself n (length bytes) (tests x.0) x.1 le fits)

-- ---- values

byte_within : IsStep byte_at
byte_within n [] le = omega arith
byte_within n (b ∷ rest) le = omega (arith, le)

identity_within : IsStep identity_at
identity_within n [] le = omega arith
identity_within n (a ∷ []) le = omega arith
identity_within n (a ∷ b ∷ rest) le = omega (arith, le)

rings_within : IsStep rings_at
rings_within n [] le = omega arith
rings_within n (a ∷ []) le = omega arith
rings_within n (a ∷ b ∷ []) le = omega arith
rings_within n (a ∷ b ∷ c ∷ rest) le = omega (arith, le)

front_within : (count : ℕ) → IsStep (front_at count)
front_within count n bytes le = test_within (behind {A = List ℕ}) n (ltb (length bytes) count) (record { left = 0; code = code.Short }) (Ok (take count bytes, drop count bytes)) (omega arith) (omega (arith, length-drop count bytes, le))

number_within : (w : Width) → IsStep (number_at w)
number_within w n bytes le =
    test_within (behind {A = ℕ}) n (ltb (length bytes) (byte_len w)) (record { left = 0; code = code.Short }) (Ok (from_be_bytes w (take (byte_len w) bytes), drop (byte_len w) bytes)) (omega arith) (omega (arith, length-drop (byte_len w) bytes, le))

-- ---- before the records

magic_within : (n : ℕ) (bytes : List ℕ) → length bytes ≤ n → Within itself n (magic_at bytes)
unfolding magic_at
magic_within n bytes le = passed_within (front_at 6) (λ x. (not (bytes_eq x (codes "GEMVOL")), code.Magic) ∷ []) (front_within 6) n bytes le

format_within : IsStep format_at
unfolding format_at
format_within n bytes le =
    then_within (behind {A = ℕ}) (behind {A = Format}) n (field byte_at (λ b. (not (eqb b 1 || eqb b 2), code.Format) ∷ []) bytes) (λ b. Ok (numbered b.0, b.1))
    (field_within byte_at (λ b. (not (eqb b 1 || eqb b 2), code.Format) ∷ []) byte_within n bytes le) (λ b fits. fits)

zero_within : (n : ℕ) (bytes : List ℕ) → length bytes ≤ n → Within itself n (zero_at bytes)
unfolding zero_at
zero_within n bytes le = passed_within byte_at (λ b. (not (eqb b 0), code.Zero) ∷ []) byte_within n bytes le

classes_number_within : (f : Format) (table : List ClassEntry) (n : ℕ) (bytes : List ℕ) → length bytes ≤ n → Within itself n (classes_number_at f table bytes)
unfolding classes_number_at
classes_number_within f table n bytes le =
    passed_within byte_at (λ k. (not (eqb k (length table)), code.Classes) ∷ (not (has_room f table), code.Classes) ∷ []) byte_within n bytes le

name_within : (name : List ℕ) (n : ℕ) (bytes : List ℕ) → length bytes ≤ n → Within itself n (name_at name bytes)
unfolding name_at
name_within name n bytes le =
    then_within itself itself n (passed byte_at (λ k. (not (eqb k (length name)), code.Name) ∷ []) bytes) (λ after. passed (front_at (length name)) (λ x. (not (bytes_eq x name), code.Name) ∷ []) after)
    (passed_within byte_at (λ k. (not (eqb k (length name)), code.Name) ∷ []) byte_within n bytes le)
    (λ after fits. passed_within (front_at (length name)) (λ x. (not (bytes_eq x name), code.Name) ∷ []) (front_within (length name)) n after fits)

label_within : (l : Label) (n : ℕ) (bytes : List ℕ) → length bytes ≤ n → Within itself n (label_at l bytes)
unfolding label_at
label_within l n bytes le = passed_within (front_at 10) (λ x. (is_high x, code.Level) ∷ (not (bytes_eq x (bytes_of l)), code.Label) ∷ []) (front_within 10) n bytes le

class_within : (f : Format) (c : ClassEntry) (n : ℕ) (bytes : List ℕ) → length bytes ≤ n → Within itself n (class_fields f c bytes)
unfolding class_fields
class_within One c n bytes le = label_within c.label n bytes le
class_within Two c n bytes le = then_within itself itself n (name_at c.name bytes) (λ after. label_at c.label after) (name_within c.name n bytes le) (λ after fits. label_within c.label n after fits)

classes_within : (f : Format) (cs : List ClassEntry) (n : ℕ) (bytes : List ℕ) → length bytes ≤ n → Within itself n (classes_at f cs bytes)
unfolding classes_at
classes_within f [] n bytes le = le
classes_within f (c ∷ cs) n bytes le = then_within itself itself n (class_fields f c bytes) (λ after. classes_at f cs after) (class_within f c n bytes le) (λ after fits. classes_within f cs n after fits)

header_within : (table : List ClassEntry) → IsStep (header_at table)
unfolding header_at
header_within table n bytes le =
    let out = behind {A = Format} in
    then_within itself out n (magic_at bytes) (λ a. format_at a >>= λ f. zero_at f.1 >>= λ b. classes_number_at f.0 table b >>= λ c. classes_at f.0 table c >>= λ d. Ok (f.0, d)) (magic_within n bytes le) (λ a ha.
    then_within out out n (format_at a) (λ f. zero_at f.1 >>= λ b. classes_number_at f.0 table b >>= λ c. classes_at f.0 table c >>= λ d. Ok (f.0, d)) (format_within n a ha) (λ f hf.
    then_within itself out n (zero_at f.1) (λ b. classes_number_at f.0 table b >>= λ c. classes_at f.0 table c >>= λ d. Ok (f.0, d)) (zero_within n f.1 hf) (λ b hb.
    then_within itself out n (classes_number_at f.0 table b) (λ c. classes_at f.0 table c >>= λ d. Ok (f.0, d)) (classes_number_within f.0 table n b hb) (λ c hc.
    then_within itself out n (classes_at f.0 table c) (λ d. Ok (f.0, d)) (classes_within f.0 table n c hc) (λ d hd. hd)))))

-- ---- records

words_within : (count : ℕ) → IsStep (words_at count)
unfolding words_at
words_within zero n bytes le = le
words_within (suc count) n bytes le =
    then_within (behind {A = ℕ}) (behind {A = List ℕ}) n (number_at w64 bytes) (λ first. words_at count first.1 >>= λ others. Ok (first.0 ∷ others.0, others.1)) (number_within w64 n bytes le) (λ first hf.
    then_within (behind {A = List ℕ}) (behind {A = List ℕ}) n (words_at count first.1) (λ others. Ok (first.0 ∷ others.0, others.1)) (words_within count n first.1 hf) (λ others ho. ho))

kept_behind_within : (size : ℕ) (flag : Bool) → IsStep (kept_behind size flag)
kept_behind_within size true n bytes le = le
kept_behind_within size false n bytes le =
    then_within (behind {A = List ℕ}) (behind {A = Option (List ℕ)}) n (words_at size bytes) (λ words. Ok (Some words.0, words.1)) (words_within size n bytes le) (λ words fits. fits)

kept_within : (size : ℕ) → IsStep (kept_at size)
unfolding kept_at
kept_within size n bytes le =
    then_within (behind {A = ℕ}) (behind {A = Option (List ℕ)}) n (field byte_at (λ k. (not (leb k 1), code.Range) ∷ []) bytes) (λ flag. kept_behind size (eqb flag.0 0) flag.1)
    (field_within byte_at (λ k. (not (leb k 1), code.Range) ∷ []) byte_within n bytes le) (λ flag fits. kept_behind_within size (eqb flag.0 0) n flag.1 fits)

id_within : (f : Format) (table : List ClassEntry) (before : SegId) → IsStep (id_at f table before)
unfolding id_at
id_within f table before n bytes le =
    field_within identity_at (λ u. (not (is_identity f table u), code.Range) ∷ (is_root u, code.Range) ∷ (not (is_above before u), code.Order) ∷ []) identity_within n bytes le

class_number_within : (table : List ClassEntry) (m : ℕ) → IsStep (class_number_at table m)
unfolding class_number_at
class_number_within table m n bytes le = field_within byte_at (λ c. (not (is_class table c), code.Range) ∷ (not (at_or_below table m c), code.Class) ∷ []) byte_within n bytes le

brackets_within : IsStep brackets_at
unfolding brackets_at
brackets_within n bytes le = field_within rings_at (λ b. (not (in_order b), code.Range) ∷ []) rings_within n bytes le

size_within : IsStep size_at
unfolding size_at
size_within n bytes le = field_within byte_at (λ k. (not (within 1 64 k), code.Range) ∷ []) byte_within n bytes le

mentor_within : (f : Format) (table : List ClassEntry) (u : SegId) → IsStep (mentor_at f table u)
unfolding mentor_at
mentor_within f table u n bytes le = field_within identity_at (λ v. (not (is_identity f table v), code.Range) ∷ (not (may_stand table u v), code.Mentor) ∷ []) identity_within n bytes le

entry_within : IsStep entry_at
unfolding entry_at
entry_within n bytes le = field_within byte_at (λ e. (not (ltb e 8), code.Range) ∷ []) byte_within n bytes le

-- the record of the values that were read
abbrev pub made : SegId → ℕ → Brackets → ℕ → SegId → ℕ → Option (List ℕ) → SegRecord
made u c b n v i k = record { seg = u; class = c; brackets = b; size = n; mentor = v; entry = i; kept = k }

record_within : (f : Format) (table : List ClassEntry) (before : SegId) → IsStep (record_at f table before)
unfolding record_at
record_within f table before m bytes le =
    let out = behind {A = SegRecord} in
    then_within (behind {A = SegId}) out m (id_at f table before bytes) (λ u. class_number_at table u.0.mentor u.1 >>= λ c. brackets_at c.1 >>= λ b. size_at b.1 >>= λ n. mentor_at f table u.0 n.1 >>= λ v. entry_at v.1 >>= λ i. kept_at n.0 i.1 >>= λ k. Ok (made u.0 c.0 b.0 n.0 v.0 i.0 k.0, k.1)) (id_within f table before m bytes le) (λ u hu.
    then_within (behind {A = ℕ}) out m (class_number_at table u.0.mentor u.1) (λ c. brackets_at c.1 >>= λ b. size_at b.1 >>= λ n. mentor_at f table u.0 n.1 >>= λ v. entry_at v.1 >>= λ i. kept_at n.0 i.1 >>= λ k. Ok (made u.0 c.0 b.0 n.0 v.0 i.0 k.0, k.1)) (class_number_within table u.0.mentor m u.1 hu) (λ c hc.
    then_within (behind {A = Brackets}) out m (brackets_at c.1) (λ b. size_at b.1 >>= λ n. mentor_at f table u.0 n.1 >>= λ v. entry_at v.1 >>= λ i. kept_at n.0 i.1 >>= λ k. Ok (made u.0 c.0 b.0 n.0 v.0 i.0 k.0, k.1)) (brackets_within m c.1 hc) (λ b hb.
    then_within (behind {A = ℕ}) out m (size_at b.1) (λ n. mentor_at f table u.0 n.1 >>= λ v. entry_at v.1 >>= λ i. kept_at n.0 i.1 >>= λ k. Ok (made u.0 c.0 b.0 n.0 v.0 i.0 k.0, k.1)) (size_within m b.1 hb) (λ n hn.
    then_within (behind {A = SegId}) out m (mentor_at f table u.0 n.1) (λ v. entry_at v.1 >>= λ i. kept_at n.0 i.1 >>= λ k. Ok (made u.0 c.0 b.0 n.0 v.0 i.0 k.0, k.1)) (mentor_within f table u.0 m n.1 hn) (λ v hv.
    then_within (behind {A = ℕ}) out m (entry_at v.1) (λ i. kept_at n.0 i.1 >>= λ k. Ok (made u.0 c.0 b.0 n.0 v.0 i.0 k.0, k.1)) (entry_within m v.1 hv) (λ i hi.
    then_within (behind {A = Option (List ℕ)}) out m (kept_at n.0 i.1) (λ k. Ok (made u.0 c.0 b.0 n.0 v.0 i.0 k.0, k.1)) (kept_within n.0 m i.1 hi) (λ k hk. hk)))))))

records_within : (f : Format) (table : List ClassEntry) (before : SegId) (count : ℕ) → IsStep (records_at f table before count)
unfolding records_at
records_within f table before zero n bytes le = le
records_within f table before (suc count) n bytes le =
    then_within (behind {A = SegRecord}) (behind {A = List SegRecord}) n (record_at f table before bytes) (λ first. records_at f table first.0.seg count first.1 >>= λ others. Ok (first.0 ∷ others.0, others.1)) (record_within f table before n bytes le) (λ first hf.
    then_within (behind {A = List SegRecord}) (behind {A = List SegRecord}) n (records_at f table first.0.seg count first.1) (λ others. Ok (first.0 ∷ others.0, others.1)) (records_within f table first.0.seg count n first.1 hf) (λ others ho. ho))

-- ---- the whole

abbrev nothing : List SegRecord → List ℕ
nothing rs = []

volume_within : (table : List ClassEntry) (n : ℕ) (bytes : List ℕ) → length bytes ≤ n → Within nothing n (volume_at table bytes)
unfolding volume_at
volume_within table n bytes le =
    then_within (behind {A = Format}) nothing n (header_at table bytes) (λ f. number_at w16 f.1 >>= λ k. records_at f.0 table (seg 0 0) k.0 k.1 >>= λ rs. judged (length rs.1) ((not (eqb (length rs.1) 0), code.Behind) ∷ []) rs.0) (header_within table n bytes le) (λ f hf.
    then_within (behind {A = ℕ}) nothing n (number_at w16 f.1) (λ k. records_at f.0 table (seg 0 0) k.0 k.1 >>= λ rs. judged (length rs.1) ((not (eqb (length rs.1) 0), code.Behind) ∷ []) rs.0) (number_within w16 n f.1 hf) (λ k hk.
    then_within (behind {A = List SegRecord}) nothing n (records_at f.0 table (seg 0 0) k.0 k.1) (λ rs. judged (length rs.1) ((not (eqb (length rs.1) 0), code.Behind) ∷ []) rs.0) (records_within f.0 table (seg 0 0) k.0 n k.1 hk) (λ rs hr.
    judged_within nothing n (length rs.1) ((not (eqb (length rs.1) 0), code.Behind) ∷ []) rs.0 hr (omega arith))))

of_fault : (n : ℕ) (r : Result (List SegRecord) Fault) (f : Fault) → r ≡ Err f → Within nothing n r → f.left ≤ n
of_fault n r f e h = rw e at h

-- where a fault stands
pub fault_within : (table : List ClassEntry) (bytes : List ℕ) (f : Fault) → volume_at table bytes ≡ Err f → f.left ≤ length bytes
fault_within table bytes f e = of_fault (length bytes) (volume_at table bytes) f e (volume_within table (length bytes) bytes (omega arith))
