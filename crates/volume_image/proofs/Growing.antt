-- What follows the bytes changes nothing of what is read from them, unless they end within a field.
use Rattle.std.proofs.Common.{◌≡◌, ℕ, zero, suc, ◌+◌, ◌≤◌, Bool, true, false, not, ◌||◌, cond, eqb, leb, ltb, List, [], ◌∷◌, ◌++◌, length, Option, Some, Result, Ok, Err, refl, ap, ◌∙◌, length-append, arith, inl, inr}
use Rattle.std.specs.Prelude.{codes, ◌⊎◌}
use Rattle.std.specs.Str.{bytes_eq}
use Rattle.std.specs.Int.{Width, w16, w64, byte_len}
use Rattle.std.proofs.lemmas.Bool.{cases_Bool, ltb-false, le-ltb}
use Rattle.std.proofs.lemmas.List.{take-append-le, drop-append-le}
use Rattle.labels.specs.Label.{Label, ClassEntry, at_or_below}
use Rattle.labels.specs.Bytes.{bytes_of}
use Rattle.rings.specs.Brackets.{Brackets, in_order}
use Rattle.words_layout.specs.Segments.{seg}
use Rattle.words_layout.specs.declared.segment.SegId.{SegId}
use Rattle.class_model.specs.Config.{SegRecord}
use Rattle.class_model.specs.Valid.{within, is_root}
use Rattle.volume_image.specs.declared.head.Format.{Format}
use Rattle.volume_image.specs.declared.head.Format.TheVariants.{One, Two}
use Rattle.volume_image.specs.declared.fault.Code.TheVariants as code
use Rattle.volume_image.specs.Valid.{has_room, is_high, is_class, is_identity, is_above, may_stand}
use Rattle.volume_image.specs.Steps.{Fault, Step, Tests, ◌>>=◌, judged, field, passed, byte_at, front_at, number_at, identity_at}
use Rattle.volume_image.specs.Fields.{magic_at, numbered, format_at, zero_at, classes_number_at, name_at, label_at, class_fields, classes_at, header_at, id_at, class_number_at, rings_at, brackets_at, size_at, mentor_at, entry_at, words_at, kept_behind, kept_at, record_at, records_at, volume_at}
use Rattle.volume_image.proofs.Bounds.{made}

-- the fault where the bytes end within a field
abbrev pub early : Fault
early = record { left = 0; code = code.Short }

-- an answer where so many more bytes follow: more is left of a value, and from a fault on
abbrev pub grown : {A : Type 0} → (A → A) → ℕ → Result A Fault → Result A Fault
grown grow k (Ok x) = Ok (grow x)
grown grow k (Err f) = Err (record { left = f.left + k; code = f.code })

-- The answer to bytes, and that to the bytes with so many more behind them.
abbrev pub Grows : {A : Type 0} → (A → A) → ℕ → Result A Fault → Result A Fault → Type 0
Grows grow k small large = (small ≡ Err early) ⊎ (large ≡ grown grow k small)

-- more behind a value
abbrev pub with : {A : Type 0} → List ℕ → A × List ℕ → A × List ℕ
with more x = (x.0, x.1 ++ more)

-- more behind the bytes that are left
abbrev pub and : List ℕ → List ℕ → List ℕ
and more rest = rest ++ more

pub no_value : {A : Type 0} (x : A) (f : Fault) (r : Result A Fault) → r ≡ Ok x → r ≡ Err f → ⊥
no_value x f r e h = absurd cc

pub err_is : {A : Type 0} (f g : Fault) (r : Result A Fault) → r ≡ Err f → r ≡ Err g → f ≡ g
err_is f g r e h = cc

abbrev pub as_err : {B : Type 0} → Fault → Result B Fault
as_err f = Err f

then_grows : {A B : Type 0} (s : A → A) (t : B → B) (k : ℕ) (r q : Result A Fault) (f g : A → Result B Fault) → Grows s k r q → ((x : A) → Grows t k (f x) (g (s x))) → Grows t k (r >>= f) (q >>= g)
then_grows {A} {B} s t k (Ok x) q f g h then =
    elim h [
      | inl e ↦ absurd (no_value x early (Ok x) refl e)
      | inr e ↦ rw e (then x)
    ]
then_grows {A} {B} s t k (Err d) q f g h then =
    elim h [
      | inl e ↦ inl (ap (as_err {B = B}) (err_is {A = A} d early (Err d) refl e))
      | inr e ↦ inr (rw e refl)
    ]

test_grows : {A : Type 0} (s : A → A) (k : ℕ) (b : Bool) (f : Fault) (r q : Result A Fault) → q ≡ grown s k r → cond b (Err (record { left = f.left + k; code = f.code })) q ≡ grown s k (cond b (Err f) r)
test_grows s k true f r q e = refl
test_grows s k false f r q e = e

judged_grows : {A : Type 0} (s : A → A) (k left : ℕ) (ts : Tests) (x : A) → judged (left + k) ts (s x) ≡ grown s k (judged left ts x)
judged_grows s k left [] x = refl
judged_grows s k left (t ∷ ts) x = test_grows s k t.0 (record { left = left; code = t.1 }) (judged left ts x) (judged (left + k) ts (s x)) (judged_grows s k left ts x)

-- a step for which this holds
abbrev IsLocal : {A : Type 0} → (List ℕ → Step A) → Type 0
IsLocal read = (bytes more : List ℕ) → Grows (with more) (length more) (read bytes) (read (bytes ++ more))

abbrev IsLocalRest : (List ℕ → Result (List ℕ) Fault) → Type 0
IsLocalRest read = (bytes more : List ℕ) → Grows (and more) (length more) (read bytes) (read (bytes ++ more))

field_local : {A : Type 0} (read : List ℕ → Step A) (tests : A → Tests) → IsLocal read → IsLocal (field read tests)
field_local {A} read tests h bytes more =
    then_grows (with {A = A} more) (with {A = A} more) (length more) (read bytes) (read (bytes ++ more)) (λ x. judged (length bytes) (tests x.0) x) (λ x. judged (length (bytes ++ more)) (tests x.0) x) (h bytes more)
    (λ x. inr (rw (length-append bytes more) (judged_grows (with {A = A} more) (length more) (length bytes) (tests x.0) x)))

passed_local : {A : Type 0} (read : List ℕ → Step A) (tests : A → Tests) → IsLocal read → IsLocalRest (passed read tests)
passed_local {A} read tests h bytes more =
    then_grows (with {A = A} more) (and more) (length more) (read bytes) (read (bytes ++ more)) (λ x. judged (length bytes) (tests x.0) x.1) (λ x. judged (length (bytes ++ more)) (tests x.0) x.1) (h bytes more)
    (λ x. inr (rw (length-append bytes more) (judged_grows (and more) (length more) (length bytes) (tests x.0) x.1)))

-- ---- values

byte_local : IsLocal byte_at
byte_local [] more = inl refl
byte_local (b ∷ rest) more = inr refl

identity_local : IsLocal identity_at
identity_local [] more = inl refl
identity_local (a ∷ []) more = inl refl
identity_local (a ∷ b ∷ rest) more = inr refl

rings_local : IsLocal rings_at
rings_local [] more = inl refl
rings_local (a ∷ []) more = inl refl
rings_local (a ∷ b ∷ []) more = inl refl
rings_local (a ∷ b ∷ c ∷ rest) more = inr refl

front_local : (count : ℕ) → IsLocal (front_at count)
front_local count bytes more =
    elim (cases_Bool (ltb (length bytes) count)) [
      | inl e ↦ inl (rw e refl)
      | inr e ↦ (
          let long : count ≤ length bytes = ltb-false _ _ e in
          let longer : ltb (length (bytes ++ more)) count ≡ false = le-ltb _ _ (omega (arith, long, length-append bytes more)) in
          inr (rw (longer, e, take-append-le count bytes more long, drop-append-le count bytes more long) refl))
    ]

number_local : (w : Width) → IsLocal (number_at w)
number_local w bytes more =
    elim (cases_Bool (ltb (length bytes) (byte_len w))) [
      | inl e ↦ inl (rw e refl)
      | inr e ↦ (
          let long : byte_len w ≤ length bytes = ltb-false _ _ e in
          let longer : ltb (length (bytes ++ more)) (byte_len w) ≡ false = le-ltb _ _ (omega (arith, long, length-append bytes more)) in
          inr (rw (longer, e, take-append-le (byte_len w) bytes more long, drop-append-le (byte_len w) bytes more long) refl))
    ]

-- ---- before the records

magic_local : IsLocalRest magic_at
unfolding magic_at
magic_local bytes more = passed_local (front_at 6) (λ x. (not (bytes_eq x (codes "GEMVOL")), code.Magic) ∷ []) (front_local 6) bytes more

format_local : IsLocal format_at
unfolding format_at
format_local bytes more =
    then_grows (with {A = ℕ} more) (with {A = Format} more) (length more) (field byte_at (λ b. (not (eqb b 1 || eqb b 2), code.Format) ∷ []) bytes) (field byte_at (λ b. (not (eqb b 1 || eqb b 2), code.Format) ∷ []) (bytes ++ more)) (λ b. Ok (numbered b.0, b.1)) (λ b. Ok (numbered b.0, b.1))
    (field_local byte_at (λ b. (not (eqb b 1 || eqb b 2), code.Format) ∷ []) byte_local bytes more) (λ b. inr refl)

zero_local : IsLocalRest zero_at
unfolding zero_at
zero_local bytes more = passed_local byte_at (λ b. (not (eqb b 0), code.Zero) ∷ []) byte_local bytes more

classes_number_local : (f : Format) (table : List ClassEntry) → IsLocalRest (classes_number_at f table)
unfolding classes_number_at
classes_number_local f table bytes more =
    passed_local byte_at (λ k. (not (eqb k (length table)), code.Classes) ∷ (not (has_room f table), code.Classes) ∷ []) byte_local bytes more

name_local : (name : List ℕ) → IsLocalRest (name_at name)
unfolding name_at
name_local name bytes more =
    then_grows (and more) (and more) (length more) (passed byte_at (λ k. (not (eqb k (length name)), code.Name) ∷ []) bytes) (passed byte_at (λ k. (not (eqb k (length name)), code.Name) ∷ []) (bytes ++ more))
    (λ after. passed (front_at (length name)) (λ x. (not (bytes_eq x name), code.Name) ∷ []) after) (λ after. passed (front_at (length name)) (λ x. (not (bytes_eq x name), code.Name) ∷ []) after)
    (passed_local byte_at (λ k. (not (eqb k (length name)), code.Name) ∷ []) byte_local bytes more)
    (λ after. passed_local (front_at (length name)) (λ x. (not (bytes_eq x name), code.Name) ∷ []) (front_local (length name)) after more)

label_local : (l : Label) → IsLocalRest (label_at l)
unfolding label_at
label_local l bytes more = passed_local (front_at 10) (λ x. (is_high x, code.Level) ∷ (not (bytes_eq x (bytes_of l)), code.Label) ∷ []) (front_local 10) bytes more

class_local : (f : Format) (c : ClassEntry) → IsLocalRest (class_fields f c)
unfolding class_fields
class_local One c bytes more = label_local c.label bytes more
class_local Two c bytes more =
    then_grows (and more) (and more) (length more) (name_at c.name bytes) (name_at c.name (bytes ++ more)) (λ after. label_at c.label after) (λ after. label_at c.label after) (name_local c.name bytes more) (λ after. label_local c.label after more)

classes_local : (f : Format) (cs : List ClassEntry) → IsLocalRest (classes_at f cs)
unfolding classes_at
classes_local f [] bytes more = inr refl
classes_local f (c ∷ cs) bytes more =
    then_grows (and more) (and more) (length more) (class_fields f c bytes) (class_fields f c (bytes ++ more)) (λ after. classes_at f cs after) (λ after. classes_at f cs after) (class_local f c bytes more) (λ after. classes_local f cs after more)

header_local : (table : List ClassEntry) → IsLocal (header_at table)
unfolding header_at
header_local table bytes more =
    let out = with {A = Format} more in
    then_grows (and more) out (length more) (magic_at bytes) (magic_at (bytes ++ more)) (λ a. format_at a >>= λ f. zero_at f.1 >>= λ b. classes_number_at f.0 table b >>= λ c. classes_at f.0 table c >>= λ d. Ok (f.0, d)) (λ a. format_at a >>= λ f. zero_at f.1 >>= λ b. classes_number_at f.0 table b >>= λ c. classes_at f.0 table c >>= λ d. Ok (f.0, d)) (magic_local bytes more) (λ a.
    then_grows (with {A = Format} more) out (length more) (format_at a) (format_at (a ++ more)) (λ f. zero_at f.1 >>= λ b. classes_number_at f.0 table b >>= λ c. classes_at f.0 table c >>= λ d. Ok (f.0, d)) (λ f. zero_at f.1 >>= λ b. classes_number_at f.0 table b >>= λ c. classes_at f.0 table c >>= λ d. Ok (f.0, d)) (format_local a more) (λ f.
    then_grows (and more) out (length more) (zero_at f.1) (zero_at (f.1 ++ more)) (λ b. classes_number_at f.0 table b >>= λ c. classes_at f.0 table c >>= λ d. Ok (f.0, d)) (λ b. classes_number_at f.0 table b >>= λ c. classes_at f.0 table c >>= λ d. Ok (f.0, d)) (zero_local f.1 more) (λ b.
    then_grows (and more) out (length more) (classes_number_at f.0 table b) (classes_number_at f.0 table (b ++ more)) (λ c. classes_at f.0 table c >>= λ d. Ok (f.0, d)) (λ c. classes_at f.0 table c >>= λ d. Ok (f.0, d)) (classes_number_local f.0 table b more) (λ c.
    then_grows (and more) out (length more) (classes_at f.0 table c) (classes_at f.0 table (c ++ more)) (λ d. Ok (f.0, d)) (λ d. Ok (f.0, d)) (classes_local f.0 table c more) (λ d. inr refl)))))

-- ---- records

words_local : (count : ℕ) → IsLocal (words_at count)
unfolding words_at
words_local zero bytes more = inr refl
words_local (suc count) bytes more =
    let out = with {A = List ℕ} more in
    then_grows (with {A = ℕ} more) out (length more) (number_at w64 bytes) (number_at w64 (bytes ++ more)) (λ first. words_at count first.1 >>= λ others. Ok (first.0 ∷ others.0, others.1)) (λ first. words_at count first.1 >>= λ others. Ok (first.0 ∷ others.0, others.1)) (number_local w64 bytes more) (λ first.
    then_grows (with {A = List ℕ} more) out (length more) (words_at count first.1) (words_at count (first.1 ++ more)) (λ others. Ok (first.0 ∷ others.0, others.1)) (λ others. Ok (first.0 ∷ others.0, others.1)) (words_local count first.1 more) (λ others. inr refl))

kept_behind_local : (size : ℕ) (flag : Bool) → IsLocal (kept_behind size flag)
kept_behind_local size true bytes more = inr refl
kept_behind_local size false bytes more =
    let out = with {A = Option (List ℕ)} more in
    then_grows (with {A = List ℕ} more) out (length more) (words_at size bytes) (words_at size (bytes ++ more)) (λ words. Ok (Some words.0, words.1)) (λ words. Ok (Some words.0, words.1)) (words_local size bytes more) (λ words. inr refl)

kept_local : (size : ℕ) → IsLocal (kept_at size)
unfolding kept_at
kept_local size bytes more =
    then_grows (with {A = ℕ} more) (with {A = Option (List ℕ)} more) (length more) (field byte_at (λ k. (not (leb k 1), code.Range) ∷ []) bytes) (field byte_at (λ k. (not (leb k 1), code.Range) ∷ []) (bytes ++ more))
    (λ flag. kept_behind size (eqb flag.0 0) flag.1) (λ flag. kept_behind size (eqb flag.0 0) flag.1) (field_local byte_at (λ k. (not (leb k 1), code.Range) ∷ []) byte_local bytes more) (λ flag. kept_behind_local size (eqb flag.0 0) flag.1 more)

id_local : (f : Format) (table : List ClassEntry) (before : SegId) → IsLocal (id_at f table before)
unfolding id_at
id_local f table before bytes more =
    field_local identity_at (λ u. (not (is_identity f table u), code.Range) ∷ (is_root u, code.Range) ∷ (not (is_above before u), code.Order) ∷ []) identity_local bytes more

class_number_local : (table : List ClassEntry) (m : ℕ) → IsLocal (class_number_at table m)
unfolding class_number_at
class_number_local table m bytes more = field_local byte_at (λ c. (not (is_class table c), code.Range) ∷ (not (at_or_below table m c), code.Class) ∷ []) byte_local bytes more

brackets_local : IsLocal brackets_at
unfolding brackets_at
brackets_local bytes more = field_local rings_at (λ b. (not (in_order b), code.Range) ∷ []) rings_local bytes more

size_local : IsLocal size_at
unfolding size_at
size_local bytes more = field_local byte_at (λ k. (not (within 1 64 k), code.Range) ∷ []) byte_local bytes more

mentor_local : (f : Format) (table : List ClassEntry) (u : SegId) → IsLocal (mentor_at f table u)
unfolding mentor_at
mentor_local f table u bytes more = field_local identity_at (λ v. (not (is_identity f table v), code.Range) ∷ (not (may_stand table u v), code.Mentor) ∷ []) identity_local bytes more

entry_local : IsLocal entry_at
unfolding entry_at
entry_local bytes more = field_local byte_at (λ e. (not (ltb e 8), code.Range) ∷ []) byte_local bytes more

record_local : (f : Format) (table : List ClassEntry) (before : SegId) → IsLocal (record_at f table before)
unfolding record_at
record_local f table before bytes more =
    let out = with {A = SegRecord} more in
    then_grows (with {A = SegId} more) out (length more) (id_at f table before bytes) (id_at f table before (bytes ++ more)) (λ u. class_number_at table u.0.mentor u.1 >>= λ c. brackets_at c.1 >>= λ b. size_at b.1 >>= λ n. mentor_at f table u.0 n.1 >>= λ v. entry_at v.1 >>= λ i. kept_at n.0 i.1 >>= λ k. Ok (made u.0 c.0 b.0 n.0 v.0 i.0 k.0, k.1)) (λ u. class_number_at table u.0.mentor u.1 >>= λ c. brackets_at c.1 >>= λ b. size_at b.1 >>= λ n. mentor_at f table u.0 n.1 >>= λ v. entry_at v.1 >>= λ i. kept_at n.0 i.1 >>= λ k. Ok (made u.0 c.0 b.0 n.0 v.0 i.0 k.0, k.1)) (id_local f table before bytes more) (λ u.
    then_grows (with {A = ℕ} more) out (length more) (class_number_at table u.0.mentor u.1) (class_number_at table u.0.mentor (u.1 ++ more)) (λ c. brackets_at c.1 >>= λ b. size_at b.1 >>= λ n. mentor_at f table u.0 n.1 >>= λ v. entry_at v.1 >>= λ i. kept_at n.0 i.1 >>= λ k. Ok (made u.0 c.0 b.0 n.0 v.0 i.0 k.0, k.1)) (λ c. brackets_at c.1 >>= λ b. size_at b.1 >>= λ n. mentor_at f table u.0 n.1 >>= λ v. entry_at v.1 >>= λ i. kept_at n.0 i.1 >>= λ k. Ok (made u.0 c.0 b.0 n.0 v.0 i.0 k.0, k.1)) (class_number_local table u.0.mentor u.1 more) (λ c.
    then_grows (with {A = Brackets} more) out (length more) (brackets_at c.1) (brackets_at (c.1 ++ more)) (λ b. size_at b.1 >>= λ n. mentor_at f table u.0 n.1 >>= λ v. entry_at v.1 >>= λ i. kept_at n.0 i.1 >>= λ k. Ok (made u.0 c.0 b.0 n.0 v.0 i.0 k.0, k.1)) (λ b. size_at b.1 >>= λ n. mentor_at f table u.0 n.1 >>= λ v. entry_at v.1 >>= λ i. kept_at n.0 i.1 >>= λ k. Ok (made u.0 c.0 b.0 n.0 v.0 i.0 k.0, k.1)) (brackets_local c.1 more) (λ b.
    then_grows (with {A = ℕ} more) out (length more) (size_at b.1) (size_at (b.1 ++ more)) (λ n. mentor_at f table u.0 n.1 >>= λ v. entry_at v.1 >>= λ i. kept_at n.0 i.1 >>= λ k. Ok (made u.0 c.0 b.0 n.0 v.0 i.0 k.0, k.1)) (λ n. mentor_at f table u.0 n.1 >>= λ v. entry_at v.1 >>= λ i. kept_at n.0 i.1 >>= λ k. Ok (made u.0 c.0 b.0 n.0 v.0 i.0 k.0, k.1)) (size_local b.1 more) (λ n.
    then_grows (with {A = SegId} more) out (length more) (mentor_at f table u.0 n.1) (mentor_at f table u.0 (n.1 ++ more)) (λ v. entry_at v.1 >>= λ i. kept_at n.0 i.1 >>= λ k. Ok (made u.0 c.0 b.0 n.0 v.0 i.0 k.0, k.1)) (λ v. entry_at v.1 >>= λ i. kept_at n.0 i.1 >>= λ k. Ok (made u.0 c.0 b.0 n.0 v.0 i.0 k.0, k.1)) (mentor_local f table u.0 n.1 more) (λ v.
    then_grows (with {A = ℕ} more) out (length more) (entry_at v.1) (entry_at (v.1 ++ more)) (λ i. kept_at n.0 i.1 >>= λ k. Ok (made u.0 c.0 b.0 n.0 v.0 i.0 k.0, k.1)) (λ i. kept_at n.0 i.1 >>= λ k. Ok (made u.0 c.0 b.0 n.0 v.0 i.0 k.0, k.1)) (entry_local v.1 more) (λ i.
    then_grows (with {A = Option (List ℕ)} more) out (length more) (kept_at n.0 i.1) (kept_at n.0 (i.1 ++ more)) (λ k. Ok (made u.0 c.0 b.0 n.0 v.0 i.0 k.0, k.1)) (λ k. Ok (made u.0 c.0 b.0 n.0 v.0 i.0 k.0, k.1)) (kept_local n.0 i.1 more) (λ k. inr refl)))))))

records_local : (f : Format) (table : List ClassEntry) (before : SegId) (count : ℕ) → IsLocal (records_at f table before count)
unfolding records_at
records_local f table before zero bytes more = inr refl
records_local f table before (suc count) bytes more =
    let out = with {A = List SegRecord} more in
    then_grows (with {A = SegRecord} more) out (length more) (record_at f table before bytes) (record_at f table before (bytes ++ more)) (λ first. records_at f table first.0.seg count first.1 >>= λ others. Ok (first.0 ∷ others.0, others.1)) (λ first. records_at f table first.0.seg count first.1 >>= λ others. Ok (first.0 ∷ others.0, others.1)) (record_local f table before bytes more) (λ first.
    then_grows (with {A = List SegRecord} more) out (length more) (records_at f table first.0.seg count first.1) (records_at f table first.0.seg count (first.1 ++ more)) (λ others. Ok (first.0 ∷ others.0, others.1)) (λ others. Ok (first.0 ∷ others.0, others.1)) (records_local f table first.0.seg count first.1 more) (λ others. inr refl))

-- ---- all but the end

abbrev pub body_at : List ClassEntry → List ℕ → Step (List SegRecord)
body_at table bytes = header_at table bytes >>= λ f. number_at w16 f.1 >>= λ k. records_at f.0 table (seg 0 0) k.0 k.1

pub body_local : (table : List ClassEntry) → IsLocal (body_at table)
body_local table bytes more =
    let out = with {A = List SegRecord} more in
    then_grows (with {A = Format} more) out (length more) (header_at table bytes) (header_at table (bytes ++ more)) (λ f. number_at w16 f.1 >>= λ k. records_at f.0 table (seg 0 0) k.0 k.1) (λ f. number_at w16 f.1 >>= λ k. records_at f.0 table (seg 0 0) k.0 k.1) (header_local table bytes more) (λ f.
    then_grows (with {A = ℕ} more) out (length more) (number_at w16 f.1) (number_at w16 (f.1 ++ more)) (λ k. records_at f.0 table (seg 0 0) k.0 k.1) (λ k. records_at f.0 table (seg 0 0) k.0 k.1) (number_local w16 f.1 more) (λ k.
    records_local f.0 table (seg 0 0) k.0 k.1 more))

-- nothing behind the records
abbrev pub ended : List SegRecord × List ℕ → Result (List SegRecord) Fault
ended rs = judged (length rs.1) ((not (eqb (length rs.1) 0), code.Behind) ∷ []) rs.0

then_then : {A B C : Type 0} (r : Result A Fault) (f : A → Result B Fault) (g : B → Result C Fault) → ((r >>= f) >>= g) ≡ (r >>= λ x. f x >>= g)
then_then (Ok x) f g = refl
then_then (Err d) f g = refl

same_then : {A B : Type 0} (r : Result A Fault) (f g : A → Result B Fault) → ((x : A) → f x ≡ g x) → (r >>= f) ≡ (r >>= g)
same_then (Ok x) f g h = h x
same_then (Err d) f g h = refl

pub volume_is : (table : List ClassEntry) (bytes : List ℕ) → (body_at table bytes >>= ended) ≡ volume_at table bytes
unfolding volume_at
volume_is table bytes =
    then_then (header_at table bytes) (λ f. number_at w16 f.1 >>= λ k. records_at f.0 table (seg 0 0) k.0 k.1) ended
    ∙ same_then (header_at table bytes) (λ f. (number_at w16 f.1 >>= λ k. records_at f.0 table (seg 0 0) k.0 k.1) >>= ended) (λ f. number_at w16 f.1 >>= λ k. records_at f.0 table (seg 0 0) k.0 k.1 >>= ended)
    (λ f. then_then (number_at w16 f.1) (λ k. records_at f.0 table (seg 0 0) k.0 k.1) ended)
