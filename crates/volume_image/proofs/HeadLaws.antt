-- The fields before the records: what is read is the header's spelling, and the header's spelling is read.
use Rattle.std.proofs.Common.{◌≡◌, ℕ, suc, ◌<◌, true, false, not, ◌||◌, eqb, ltb, List, [], ◌∷◌, ◌++◌, length, Result, Ok, refl, sym, ap, subst, ◌∙◌, append_assoc, arith, inl, inr}
use Rattle.std.specs.Prelude.{codes}
use Rattle.std.specs.Str.{bytes_eq}
use Rattle.std.specs.List.{flat_map, AllByRecursion}
use Rattle.std.proofs.lemmas.Bool.{eqb-true, eq-eqb, le-ltb, not-false, not_from_true, or_cases, or_from}
use Rattle.std.proofs.lemmas.List.Concat.{flat_map-cons}
use Rattle.std.proofs.lemmas.Slice.Eq.{bytes_eq-Decides}
use Rattle.labels.specs.Label.{Label, ClassEntry, label_of}
use Rattle.labels.specs.Order.{IsLabel}
use Rattle.labels.specs.Table.{IsTable}
use Rattle.labels.specs.Bytes.{bytes_of}
use Rattle.volume_image.specs.declared.head.Format.{Format}
use Rattle.volume_image.specs.declared.head.Format.TheVariants.{One, Two}
use Rattle.volume_image.specs.declared.fault.Code.TheVariants as code
use Rattle.volume_image.specs.Valid.{has_room, is_high}
use Rattle.volume_image.specs.Written.{format_number, class_bytes, header}
use Rattle.volume_image.specs.Steps.{Fault, Tests, ◌>>=◌, field, passed, byte_at, front_at}
use Rattle.volume_image.specs.Fields.{magic_at, numbered, format_at, zero_at, classes_number_at, name_at, label_at, class_fields, classes_at, header_at}
use Rattle.volume_image.proofs.Taking.{IsBytes, Takes, Takes-then, bind_ok, carry, ok_is, field_ok, passed_ok, passed_again, byte_takes, front_takes, front_again}

same_bytes : (a b : List ℕ) → not (bytes_eq a b) ≡ false → a ≡ b
same_bytes a b e = (bytes_eq-Decides a b).0 (not-false _ e)

own_bytes : (a : List ℕ) → not (bytes_eq a a) ≡ false
own_bytes a = not_from_true _ ((bytes_eq-Decides a a).1 refl)

-- ---- magic, format, zero

abbrev magic_tests : List ℕ → Tests
magic_tests x = (not (bytes_eq x (codes "GEMVOL")), code.Magic) ∷ []

magic_takes : (bytes rest : List ℕ) → IsBytes bytes → magic_at bytes ≡ Ok rest → Takes bytes (codes "GEMVOL") rest
unfolding magic_at
magic_takes bytes rest fits e =
    let p = passed_ok (front_at 6) magic_tests bytes rest e in
    let t = front_takes 6 bytes p.0 fits p.1 in
    let same : p.0.0 ≡ codes "GEMVOL" = same_bytes _ _ p.2.0 in
    subst (λ (r : List ℕ). Takes bytes (codes "GEMVOL") r) p.3 (subst (λ (m : List ℕ). Takes bytes m p.0.1) same t.0)

magic_again : (rest : List ℕ) → magic_at (codes "GEMVOL" ++ rest) ≡ Ok rest
unfolding magic_at
magic_again rest = passed_again (front_at 6) magic_tests (codes "GEMVOL" ++ rest) (codes "GEMVOL", rest) (front_again (codes "GEMVOL") rest 6 refl) (own_bytes (codes "GEMVOL"), tt)

abbrev format_tests : ℕ → Tests
format_tests b = (not (eqb b 1 || eqb b 2), code.Format) ∷ []

numbered_back : (n : ℕ) → (eqb n 1 || eqb n 2) ≡ true → format_number (numbered n) ≡ n
numbered_back n h =
    elim (or_cases (eqb n 1) (eqb n 2) h) [
      | inl e ↦ (let k : n ≡ 1 = eqb-true n 1 e in rw k refl)
      | inr e ↦ (let k : n ≡ 2 = eqb-true n 2 e in rw k refl)
    ]

format_takes : (bytes : List ℕ) (x : Format × List ℕ) → IsBytes bytes → format_at bytes ≡ Ok x → Takes bytes (format_number x.0 ∷ []) x.1
unfolding format_at
format_takes bytes x fits e =
    let b = bind_ok (field byte_at format_tests bytes) (λ b. Ok (numbered b.0, b.1)) x e in
    let f = field_ok byte_at format_tests bytes b.0 b.1 in
    let t = byte_takes bytes b.0 fits f.0 in
    let back : format_number (numbered b.0.0) ≡ b.0.0 = numbered_back b.0.0 (not-false _ f.1.0) in
    subst (λ (y : Format × List ℕ). Takes bytes (format_number y.0 ∷ []) y.1) (ok_is (numbered b.0.0, b.0.1) x b.2) (subst (λ (n : ℕ). Takes bytes (n ∷ []) b.0.1) (sym back) t)

format_again : (f : Format) (rest : List ℕ) → format_at (format_number f ∷ rest) ≡ Ok (f, rest)
unfolding format_at
format_again One rest = refl
format_again Two rest = refl

abbrev zero_tests : ℕ → Tests
zero_tests b = (not (eqb b 0), code.Zero) ∷ []

zero_takes : (bytes rest : List ℕ) → IsBytes bytes → zero_at bytes ≡ Ok rest → Takes bytes (0 ∷ []) rest
unfolding zero_at
zero_takes bytes rest fits e =
    let p = passed_ok byte_at zero_tests bytes rest e in
    let t = byte_takes bytes p.0 fits p.1 in
    let is : p.0.0 ≡ 0 = eqb-true p.0.0 0 (not-false _ p.2.0) in
    subst (λ (r : List ℕ). Takes bytes (0 ∷ []) r) p.3 (subst (λ (n : ℕ). Takes bytes (n ∷ []) p.0.1) is t)

zero_again : (rest : List ℕ) → zero_at (0 ∷ rest) ≡ Ok rest
unfolding zero_at
zero_again rest = refl

-- ---- the number of classes

abbrev number_tests : Format → List ClassEntry → ℕ → Tests
number_tests f table n = (not (eqb n (length table)), code.Classes) ∷ (not (has_room f table), code.Classes) ∷ []

number_takes : (f : Format) (table : List ClassEntry) (bytes rest : List ℕ) → IsBytes bytes → classes_number_at f table bytes ≡ Ok rest → Takes bytes (length table ∷ []) rest × (has_room f table ≡ true)
unfolding classes_number_at
number_takes f table bytes rest fits e =
    let p = passed_ok byte_at (number_tests f table) bytes rest e in
    let t = byte_takes bytes p.0 fits p.1 in
    let is : p.0.0 ≡ length table = eqb-true p.0.0 (length table) (not-false _ p.2.0) in
    (subst (λ (r : List ℕ). Takes bytes (length table ∷ []) r) p.3 (subst (λ (n : ℕ). Takes bytes (n ∷ []) p.0.1) is t), not-false _ p.2.1.0)

number_again : (f : Format) (table : List ClassEntry) (rest : List ℕ) → has_room f table ≡ true → classes_number_at f table (length table ∷ rest) ≡ Ok rest
unfolding classes_number_at
number_again f table rest room =
    passed_again byte_at (number_tests f table) (length table ∷ rest) (length table, rest) refl (not_from_true _ (eq-eqb (length table) (length table) refl), (not_from_true _ room, tt))

-- ---- a class

abbrev length_tests : List ℕ → ℕ → Tests
length_tests name n = (not (eqb n (length name)), code.Name) ∷ []

abbrev name_tests : List ℕ → List ℕ → Tests
name_tests name x = (not (bytes_eq x name), code.Name) ∷ []

name_takes : (name bytes rest : List ℕ) → IsBytes bytes → name_at name bytes ≡ Ok rest → Takes bytes (length name ∷ name) rest
unfolding name_at
name_takes name bytes rest fits e =
    let b = bind_ok (passed byte_at (length_tests name) bytes) (λ after. passed (front_at (length name)) (name_tests name) after) rest e in
    let p = passed_ok byte_at (length_tests name) bytes b.0 b.1 in
    let t = byte_takes bytes p.0 fits p.1 in
    let is : p.0.0 ≡ length name = eqb-true p.0.0 (length name) (not-false _ p.2.0) in
    let first : Takes bytes (length name ∷ []) b.0 = subst (λ (r : List ℕ). Takes bytes (length name ∷ []) r) p.3 (subst (λ (n : ℕ). Takes bytes (n ∷ []) p.0.1) is t) in
    let q = passed_ok (front_at (length name)) (name_tests name) b.0 rest b.2 in
    let u = front_takes (length name) b.0 q.0 first.rest_fits q.1 in
    let same : q.0.0 ≡ name = same_bytes _ _ q.2.0 in
    let second : Takes b.0 name rest = subst (λ (r : List ℕ). Takes b.0 name r) q.3 (subst (λ (m : List ℕ). Takes b.0 m q.0.1) same u.0) in
    Takes-then bytes (length name ∷ []) b.0 name rest first second

name_from : (name b0 b1 b2 : List ℕ) → passed byte_at (length_tests name) b0 ≡ Ok b1 → passed (front_at (length name)) (name_tests name) b1 ≡ Ok b2 → name_at name b0 ≡ Ok b2
unfolding name_at
name_from name b0 b1 b2 h k = ap (λ (r : Result (List ℕ) Fault). r >>= λ after. passed (front_at (length name)) (name_tests name) after) h ∙ k

name_again : (name rest : List ℕ) → name_at name (length name ∷ (name ++ rest)) ≡ Ok rest
name_again name rest =
    name_from name (length name ∷ (name ++ rest)) (name ++ rest) rest
    (passed_again byte_at (length_tests name) (length name ∷ (name ++ rest)) (length name, name ++ rest) refl (not_from_true _ (eq-eqb (length name) (length name) refl), tt))
    (passed_again (front_at (length name)) (name_tests name) (name ++ rest) (name, rest) (front_again name rest (length name) refl) (own_bytes name, tt))

abbrev label_tests : Label → List ℕ → Tests
label_tests l x = (is_high x, code.Level) ∷ (not (bytes_eq x (bytes_of l)), code.Label) ∷ []

label_takes : (l : Label) (bytes rest : List ℕ) → IsBytes bytes → label_at l bytes ≡ Ok rest → Takes bytes (bytes_of l) rest
unfolding label_at
label_takes l bytes rest fits e =
    let p = passed_ok (front_at 10) (label_tests l) bytes rest e in
    let t = front_takes 10 bytes p.0 fits p.1 in
    let same : p.0.0 ≡ bytes_of l = same_bytes _ _ p.2.1.0 in
    subst (λ (r : List ℕ). Takes bytes (bytes_of l) r) p.3 (subst (λ (m : List ℕ). Takes bytes m p.0.1) same t.0)

low_levels : (l : Label) → IsLabel l → is_high (bytes_of l) ≡ false
low_levels l ok = or_from (ltb 15 l.secrecy_level) (ltb 15 l.integrity_level) (le-ltb _ _ ok.secrecy_level) (le-ltb _ _ ok.integrity_level)

label_again : (l : Label) (rest : List ℕ) → IsLabel l → label_at l (bytes_of l ++ rest) ≡ Ok rest
unfolding label_at
label_again l rest ok =
    passed_again (front_at 10) (label_tests l) (bytes_of l ++ rest) (bytes_of l, rest) (front_again (bytes_of l) rest 10 refl) (low_levels l ok, (own_bytes (bytes_of l), tt))

class_takes : (f : Format) (c : ClassEntry) (bytes rest : List ℕ) → IsBytes bytes → class_fields f c bytes ≡ Ok rest → Takes bytes (class_bytes f c) rest
unfolding class_fields
class_takes One c bytes rest fits e = label_takes c.label bytes rest fits e
class_takes Two c bytes rest fits e =
    let b = bind_ok (name_at c.name bytes) (λ after. label_at c.label after) rest e in
    let first = name_takes c.name bytes b.0 fits b.1 in
    let second = label_takes c.label b.0 rest first.rest_fits b.2 in
    Takes-then bytes (length c.name ∷ c.name) b.0 (bytes_of c.label) rest first second

two_from : (c : ClassEntry) (b0 b1 b2 : List ℕ) → name_at c.name b0 ≡ Ok b1 → label_at c.label b1 ≡ Ok b2 → class_fields Two c b0 ≡ Ok b2
unfolding class_fields
two_from c b0 b1 b2 h k = ap (λ (r : Result (List ℕ) Fault). r >>= λ after. label_at c.label after) h ∙ k

class_again : (f : Format) (c : ClassEntry) (rest : List ℕ) → IsLabel c.label → class_fields f c (class_bytes f c ++ rest) ≡ Ok rest
unfolding class_fields
class_again One c rest ok = label_again c.label rest ok
class_again Two c rest ok =
    ap (class_fields Two c) (append_assoc (length c.name ∷ c.name) (bytes_of c.label) rest)
    ∙ two_from c (length c.name ∷ (c.name ++ (bytes_of c.label ++ rest))) (bytes_of c.label ++ rest) rest (name_again c.name (bytes_of c.label ++ rest)) (label_again c.label rest ok)

-- ---- the classes

classes_take : (f : Format) (cs : List ClassEntry) (bytes rest : List ℕ) → IsBytes bytes → classes_at f cs bytes ≡ Ok rest → Takes bytes (flat_map (class_bytes f) cs) rest
unfolding classes_at
classes_take f [] bytes rest fits e = subst (λ (r : List ℕ). Takes bytes [] r) (ok_is bytes rest e) (record { parts = refl; rest_fits = fits })
classes_take f (c ∷ cs) bytes rest fits e =
    let b = bind_ok (class_fields f c bytes) (λ after. classes_at f cs after) rest e in
    let first = class_takes f c bytes b.0 fits b.1 in
    let second = classes_take f cs b.0 rest first.rest_fits b.2 in
    rw flat_map-cons (Takes-then bytes (class_bytes f c) b.0 (flat_map (class_bytes f) cs) rest first second)

abbrev HasLabel : ClassEntry → Type 0
HasLabel c = IsLabel c.label

pub labels_all : (cs : List ClassEntry) → ((i : ℕ) → i < length cs → IsLabel (label_of cs i)) → AllByRecursion HasLabel cs
labels_all [] h = tt
labels_all (c ∷ cs) h = (h 0 (omega arith), labels_all cs (λ i lt. h (suc i) (omega (arith, lt))))

classes_from : (f : Format) (c : ClassEntry) (cs : List ClassEntry) (b0 b1 b2 : List ℕ) → class_fields f c b0 ≡ Ok b1 → classes_at f cs b1 ≡ Ok b2 → classes_at f (c ∷ cs) b0 ≡ Ok b2
unfolding classes_at
classes_from f c cs b0 b1 b2 h k = ap (λ (r : Result (List ℕ) Fault). r >>= λ after. classes_at f cs after) h ∙ k

classes_again : (f : Format) (cs : List ClassEntry) (rest : List ℕ) → AllByRecursion HasLabel cs → classes_at f cs (flat_map (class_bytes f) cs ++ rest) ≡ Ok rest
unfolding classes_at
classes_again f [] rest ok = refl
classes_again f (c ∷ cs) rest ok =
    let regrouped : flat_map (class_bytes f) (c ∷ cs) ++ rest ≡ class_bytes f c ++ (flat_map (class_bytes f) cs ++ rest) =
    ap (λ (x : List ℕ). x ++ rest) (flat_map-cons (class_bytes f) c cs) ∙ append_assoc (class_bytes f c) (flat_map (class_bytes f) cs) rest in
    ap (classes_at f (c ∷ cs)) regrouped
    ∙ classes_from f c cs (class_bytes f c ++ (flat_map (class_bytes f) cs ++ rest)) (flat_map (class_bytes f) cs ++ rest) rest (class_again f c (flat_map (class_bytes f) cs ++ rest) ok.0) (classes_again f cs rest ok.1)

-- ---- all of it

pub header_takes : (table : List ClassEntry) (bytes : List ℕ) (x : Format × List ℕ) → IsBytes bytes → header_at table bytes ≡ Ok x → Takes bytes (header x.0 table) x.1 × (has_room x.0 table ≡ true)
unfolding header_at header
header_takes table bytes x fits e =
    let a = bind_ok (magic_at bytes) (λ a. format_at a >>= λ f. zero_at f.1 >>= λ b. classes_number_at f.0 table b >>= λ c. classes_at f.0 table c >>= λ d. Ok (f.0, d)) x e in
    let f = bind_ok (format_at a.0) (λ f. zero_at f.1 >>= λ b. classes_number_at f.0 table b >>= λ c. classes_at f.0 table c >>= λ d. Ok (f.0, d)) x a.2 in
    let b = bind_ok (zero_at f.0.1) (λ b. classes_number_at f.0.0 table b >>= λ c. classes_at f.0.0 table c >>= λ d. Ok (f.0.0, d)) x f.2 in
    let c = bind_ok (classes_number_at f.0.0 table b.0) (λ c. classes_at f.0.0 table c >>= λ d. Ok (f.0.0, d)) x b.2 in
    let d = bind_ok (classes_at f.0.0 table c.0) (λ d. Ok (f.0.0, d)) x c.2 in
    let ta = magic_takes bytes a.0 fits a.1 in
    let tf = format_takes a.0 f.0 ta.rest_fits f.1 in
    let tb = zero_takes f.0.1 b.0 tf.rest_fits b.1 in
    let tc = number_takes f.0.0 table b.0 c.0 tb.rest_fits c.1 in
    let td = classes_take f.0.0 table c.0 d.0 tc.0.rest_fits d.1 in
    let all = flat_map (class_bytes f.0.0) table in
    let tcd = Takes-then b.0 (length table ∷ []) c.0 all d.0 tc.0 td in
    let tbd = Takes-then f.0.1 (0 ∷ []) b.0 ((length table ∷ []) ++ all) d.0 tb tcd in
    let tfd = Takes-then a.0 (format_number f.0.0 ∷ []) f.0.1 ((0 ∷ []) ++ ((length table ∷ []) ++ all)) d.0 tf tbd in
    let tad = Takes-then bytes (codes "GEMVOL") a.0 ((format_number f.0.0 ∷ []) ++ ((0 ∷ []) ++ ((length table ∷ []) ++ all))) d.0 ta tfd in
    carry (λ (y : Format × List ℕ). Takes bytes (header y.0 table) y.1 × (has_room y.0 table ≡ true)) (f.0.0, d.0) x (ok_is (f.0.0, d.0) x d.2) (tad, tc.1)

header_from : (f : Format) (table : List ClassEntry) (b0 b1 b2 b3 b4 b5 : List ℕ) → magic_at b0 ≡ Ok b1 → format_at b1 ≡ Ok (f, b2) → zero_at b2 ≡ Ok b3 → classes_number_at f table b3 ≡ Ok b4 →
    classes_at f table b4 ≡ Ok b5 → header_at table b0 ≡ Ok (f, b5)
unfolding header_at
header_from f table b0 b1 b2 b3 b4 b5 h0 h1 h2 h3 h4 = rw (h0, h1, h2, h3, h4) refl

pub header_again : (f : Format) (table : List ClassEntry) (rest : List ℕ) → IsTable table → has_room f table ≡ true → header_at table (header f table ++ rest) ≡ Ok (f, rest)
unfolding header
header_again f table rest ok room =
    let classes = flat_map (class_bytes f) table ++ rest in
    header_from f table (codes "GEMVOL" ++ (format_number f ∷ 0 ∷ length table ∷ classes)) (format_number f ∷ 0 ∷ length table ∷ classes) (0 ∷ length table ∷ classes) (length table ∷ classes) classes rest
    (magic_again (format_number f ∷ 0 ∷ length table ∷ classes)) (format_again f (0 ∷ length table ∷ classes)) (zero_again (length table ∷ classes)) (number_again f table classes room)
    (classes_again f table rest (labels_all table ok.labels))
