-- Each kind of line, both ways: one without a code spells what it says, and one that spells it has no code.
use Rattle.std.proofs.Common.{◌≡◌, ℕ, ◌<◌, ◌≤◌, true, false, not, ltb, leb, ◌||◌, List, [], ◌∷◌, length, Option, Some, None, refl, sym, ap, subst, ◌∙◌, arith}
use Rattle.std.specs.Prelude.{codes}
use Rattle.std.specs.List.{AllZip}
use Rattle.std.specs.Str.{bytes_eq}
use Rattle.std.proofs.lemmas.Bool.{and_parts, and_from, leb-false, ltb-true, lt-ltb, lt-leb}
use Rattle.text_lines.specs.Number.{IsNumber, misspelt, value_of}
use Rattle.text_lines.specs.Name.{is_name}
use Rattle.text_lines.proofs.FirstFault.{NoneHolds}
use Rattle.labels.specs.Label.{Label, ClassEntry}
use Rattle.labels.specs.Order.{IsLabel}
use Rattle.labels.specs.Reading.{label_of_text}
use Rattle.words_layout.specs.declared.segment.SegId.{SegId}
use Rattle.config_text.specs.Written.{Word, fixed, number, label, number_line, end_line}
use Rattle.config_text.specs.Text.{SpellsWord}
use Rattle.config_text.specs.Rules.{Text, byte, stood_before, is_low}
use Rattle.config_text.proofs.WordFacts.{not_false, or_false, is_fixed, same_text, in_range, range_in, is_spelled, value_is, label_spelled, label_read}
use Rattle.config_text.proofs.TableFacts.{read_is_label}
use Rattle.release_guard.specs.declared.order.Release.{Release}
use Rattle.release_guard.specs.declared.order.Stage.TheVariants as stage
use Rattle.release_guard.specs.Valid.{is_identity, release_ok}
use Rattle.release_guard.specs.Place.{Place}
use Rattle.release_guard.specs.Rules.{header_tests, count_tests, count_in, entry_tests, class_tests, class_next, with_class, is_past, one_misspelt, identity_in, release_tests, release_next, with_release, export_tests, export_next, end_tests}

-- ---- the first two lines

abbrev pub header_words : List Word
header_words = fixed (codes "gemrelease") ∷ fixed (codes "1") ∷ []

pub header_spelled : (ws : List Text) → NoneHolds (header_tests ws) → AllZip SpellsWord ws header_words
header_spelled (k ∷ v ∷ []) none = (is_fixed k (codes "gemrelease") none.0, (is_fixed v (codes "1") none.1.0, tt))
header_spelled ws none = absurd cc

pub header_taken : (ws : List Text) → AllZip SpellsWord ws header_words → NoneHolds (header_tests ws)
header_taken [] all = absurd all
header_taken (k ∷ []) all = absurd all.1
header_taken (k ∷ v ∷ []) all = (rw (same_text k (codes "gemrelease") all.0) refl, (rw (same_text v (codes "1") all.1.0) refl, tt))
header_taken (k ∷ v ∷ w ∷ ws) all = absurd all.1.1

-- the line of so many classes
pub record IsCountLine (ws : List Text) : Type 0 where
  pub spelled : AllZip SpellsWord ws (number_line (codes "classes") (count_in ws))
  pub above : 1 ≤ count_in ws
  pub below : count_in ws ≤ 16

pub count_spelled : (ws : List Text) → NoneHolds (count_tests ws) → IsCountLine ws
count_spelled (k ∷ n ∷ []) none =
    let r = in_range 1 16 (value_of n) none.1.1.0 in
    record { spelled = (is_fixed k (codes "classes") none.0, (is_spelled n none.1.0, tt)); above = r.0; below = r.1 }
count_spelled ws none = absurd cc

pub count_taken : (n : ℕ) (ws : List Text) → 1 ≤ n → n ≤ 16 → AllZip SpellsWord ws (number_line (codes "classes") n) → NoneHolds (count_tests ws) × (count_in ws ≡ n)
count_taken n [] above below all = absurd all
count_taken n (k ∷ []) above below all = absurd all.1
count_taken n (k ∷ w ∷ []) above below all =
    let v = value_is w n all.1.0 (omega (arith, below)) in
    ((rw (same_text k (codes "classes") all.0) refl, (v.spelled, (range_in 1 16 (value_of w) (omega (arith, above, v.value)) (omega (arith, below, v.value)), tt))), v.value)
count_taken n (k ∷ v ∷ w ∷ ws) above below all = absurd all.1.1

-- ---- classes

-- the words of a class line
abbrev pub class_words : Text → Label → List Word
class_words name l = fixed (codes "class") ∷ fixed name ∷ label l ∷ []

-- the line of a class behind these
pub record IsClassLine (t : List ClassEntry) (ws : List Text) : Type 0 where
  pub name : Text
  pub label : Label
  pub spelled : AllZip SpellsWord ws (class_words name label)
  pub named : is_name name ≡ true
  pub new : stood_before t name label ≡ false
  pub high : is_low t label ≡ false
  pub is_label : IsLabel label
  pub next : (p : Place) → class_next p ws ≡ with_class p name (Some label)

class_with : (t : List ClassEntry) (k name l : Text) (o : Option Label) → label_of_text l ≡ o → (not (bytes_eq k (codes "class")) ≡ false) × NoneHolds (entry_tests t name o) → IsClassLine t (k ∷ name ∷ l ∷ [])
unfolding entry_tests
class_with t k name l None is none = absurd (let f : true ≡ false = none.1.0 in cc)
class_with t k name l (Some m) is none = record {
  name = name;
  label = m;
  spelled = (is_fixed k (codes "class") none.0, (refl, (label_spelled l m is, tt)));
  named = not_false (is_name name) none.1.0;
  new = none.1.1.0;
  high = none.1.1.1.0;
  is_label = read_is_label l m is;
  next = λ p. ap (with_class p name) is;
}

pub class_spelled : (t : List ClassEntry) (ws : List Text) → NoneHolds (class_tests t ws) → IsClassLine t ws
class_spelled t (k ∷ name ∷ l ∷ []) none = class_with t k name l (label_of_text l) refl none
class_spelled t ws none = absurd cc

-- The line has no code, and says this class.
pub record TakesClass (t : List ClassEntry) (ws : List Text) (c : ClassEntry) : Type 0 where
  pub none : NoneHolds (class_tests t ws)
  pub next : (p : Place) → class_next p ws ≡ with_class p c.name (Some c.label)

pub class_taken : (t : List ClassEntry) (c : ClassEntry) (ws : List Text) → is_name c.name ≡ true → stood_before t c.name c.label ≡ false → is_low t c.label ≡ false → AllZip SpellsWord ws (class_words c.name c.label) → TakesClass t ws c
unfolding entry_tests
class_taken t c [] named new high all = absurd all
class_taken t c (k ∷ []) named new high all = absurd all.1
class_taken t c (k ∷ name ∷ []) named new high all = absurd all.1.1
class_taken t c (k ∷ name ∷ l ∷ []) named new high all =
    let read = label_read l c.label all.1.1.0 in
    record {
      none = (rw (same_text k (codes "class") all.0) refl, rw (read, all.1.0) (rw named refl, (new, (high, tt))));
      next = λ p. rw (read, all.1.0) refl;
    }
class_taken t c (k ∷ name ∷ l ∷ w ∷ ws) named new high all = absurd all.1.1.1

-- ---- releases and the export

-- the words of a release line
abbrev pub release_words : SegId → SegId → List Word
release_words from to = fixed (codes "release") ∷ number from.mentor ∷ number from.serial ∷ fixed (codes "to") ∷ number to.mentor ∷ number to.serial ∷ []

-- an identity that is in its range
record IsIdentityIn (t : List ClassEntry) (c s : Text) : Type 0 where
  class : byte (value_of c) ≡ value_of c
  serial : byte (value_of s) ≡ value_of s
  ok : is_identity t (identity_in c s) ≡ true

in_its_range : (t : List ClassEntry) (c s : Text) → length t ≤ 16 → is_past (length t) c s ≡ false → IsIdentityIn t c s
in_its_range t c s few past =
    let both = or_false (leb (length t) (value_of c)) (leb 64 (value_of s)) past in
    let low = leb-false (length t) (value_of c) both.0 in
    let small = leb-false 64 (value_of s) both.1 in
    record {
      class = omega (arith, low, few);
      serial = omega (arith, small);
      ok = and_from _ _ (lt-ltb (byte (value_of c)) (length t) (omega (arith, low, few))) (lt-ltb (byte (value_of s)) 64 (omega (arith, small)));
    }

four_spelled : (a b c d : Text) → one_misspelt a b c d ≡ false → (misspelt a ≡ false) × (misspelt b ≡ false) × (misspelt c ≡ false) × (misspelt d ≡ false)
unfolding one_misspelt
four_spelled a b c d e =
    let x = or_false (misspelt a || misspelt b || misspelt c) (misspelt d) e in
    let y = or_false (misspelt a || misspelt b) (misspelt c) x.0 in
    let z = or_false (misspelt a) (misspelt b) y.0 in
    (z.0, z.1, y.1, x.1)

spelled_four : (a b c d : Text) → misspelt a ≡ false → misspelt b ≡ false → misspelt c ≡ false → misspelt d ≡ false → one_misspelt a b c d ≡ false
unfolding one_misspelt
spelled_four a b c d ea eb ec ed = rw (ea, eb, ec, ed) refl

-- the words behind `release`
pub record IsReleaseLine (p : Place) (ws : List Text) : Type 0 where
  pub from : SegId
  pub to : SegId
  pub spelled : (k : Text) → k ≡ codes "release" → AllZip SpellsWord (k ∷ ws) (release_words from to)
  pub ok : (n : ℕ) → release_ok p.table (record { line = n; from = from; to = to }) ≡ true
  pub room : length p.releases < 64
  pub next : release_next p ws ≡ with_release p from to

pub release_spelled : (p : Place) (ws : List Text) → length p.table ≤ 16 → NoneHolds (release_tests p ws) → IsReleaseLine p ws
release_spelled p (a ∷ b ∷ t ∷ c ∷ d ∷ []) few none =
    let s = four_spelled a b c d none.1.0 in
    let from = in_its_range p.table a b few none.1.1.0 in
    let to = in_its_range p.table c d few none.1.1.1.0 in
    record {
      from = identity_in a b;
      to = identity_in c d;
      spelled = λ k is. (is, (subst (IsNumber a) (sym from.class) (is_spelled a s.0), (subst (IsNumber b) (sym from.serial) (is_spelled b s.1), (is_fixed t (codes "to") none.0, (subst (IsNumber c) (sym to.class) (is_spelled c s.2), (subst (IsNumber d) (sym to.serial) (is_spelled d s.3), tt))))));
      ok = λ n. and_from _ _ from.ok to.ok;
      room = leb-false 64 (length p.releases) none.1.1.1.1.0;
      next = refl;
    }
release_spelled p ws few none = absurd cc

-- an identity in its range is not past it
record IsTakenIdentity (n : ℕ) (c s : Text) (u : SegId) : Type 0 where
  class : misspelt c ≡ false
  serial : misspelt s ≡ false
  within : is_past n c s ≡ false
  is : identity_in c s ≡ u

identity_taken : (t : List ClassEntry) (c s : Text) (u : SegId) → length t ≤ 16 → is_identity t u ≡ true → IsNumber c u.mentor → IsNumber s u.serial → IsTakenIdentity (length t) c s u
identity_taken t c s u few ok ic is =
    let both = and_parts (ltb u.mentor (length t)) (ltb u.serial 64) ok in
    let low = ltb-true u.mentor (length t) both.0 in
    let small = ltb-true u.serial 64 both.1 in
    let vc = value_is c u.mentor ic (omega (arith, low, few)) in
    let vs = value_is s u.serial is (omega (arith, small)) in
    let class_is : byte (value_of c) ≡ u.mentor = omega (arith, low, few, vc.value) in
    let serial_is : byte (value_of s) ≡ u.serial = omega (arith, small, vs.value) in
    record {
      class = vc.spelled;
      serial = vs.spelled;
      within = rw (lt-leb (length t) (value_of c) (omega (arith, low, vc.value)), lt-leb 64 (value_of s) (omega (arith, small, vs.value))) refl;
      is = rw (class_is, serial_is) refl;
    }

-- The words behind `release` have no code, and say this release.
pub record TakesRelease (p : Place) (k : Text) (ws : List Text) (x : Release) : Type 0 where
  pub key : bytes_eq k (codes "release") ≡ true
  pub none : NoneHolds (release_tests p ws)
  pub next : release_next p ws ≡ with_release p x.from x.to

pub release_taken : (p : Place) (x : Release) (k : Text) (ws : List Text) → length p.table ≤ 16 → length p.releases < 64 → release_ok p.table x ≡ true → AllZip SpellsWord (k ∷ ws) (release_words x.from x.to) → TakesRelease p k ws x
release_taken p x k [] few room ok all = absurd all.1
release_taken p x k (a ∷ []) few room ok all = absurd all.1.1
release_taken p x k (a ∷ b ∷ []) few room ok all = absurd all.1.1.1
release_taken p x k (a ∷ b ∷ t ∷ []) few room ok all = absurd all.1.1.1.1
release_taken p x k (a ∷ b ∷ t ∷ c ∷ []) few room ok all = absurd all.1.1.1.1.1
release_taken p x k (a ∷ b ∷ t ∷ c ∷ d ∷ []) few room ok all =
    let both = and_parts (is_identity p.table x.from) (is_identity p.table x.to) ok in
    let from = identity_taken p.table a b x.from few both.0 all.1.0 all.1.1.0 in
    let to = identity_taken p.table c d x.to few both.1 all.1.1.1.1.0 all.1.1.1.1.1.0 in
    record {
      key = same_text k (codes "release") all.0;
      none = (rw (same_text t (codes "to") all.1.1.1.0) refl, (spelled_four a b c d from.class from.serial to.class to.serial, (from.within, (to.within, (lt-leb 64 (length p.releases) room, tt)))));
      next = ap (λ (u : SegId). with_release p u (identity_in c d)) from.is ∙ ap (λ (u : SegId). with_release p x.from u) to.is;
    }
release_taken p x k (a ∷ b ∷ t ∷ c ∷ d ∷ w ∷ ws) few room ok all = absurd all.1.1.1.1.1.1

-- the word behind `export`
pub record IsExportLine (p : Place) (ws : List Text) : Type 0 where
  pub class : ℕ
  pub spelled : (k : Text) → k ≡ codes "export" → AllZip SpellsWord (k ∷ ws) (number_line (codes "export") class)
  pub ok : class < length p.table
  pub next : export_next p ws ≡ record p { stage = stage.End; export = class }

pub export_spelled : (p : Place) (ws : List Text) → length p.table ≤ 16 → NoneHolds (export_tests p ws) → IsExportLine p ws
export_spelled p (c ∷ []) few none =
    let low = leb-false (length p.table) (value_of c) none.1.0 in
    let is : byte (value_of c) ≡ value_of c = omega (arith, low, few) in
    record {
      class = byte (value_of c);
      spelled = λ k key. (key, (subst (IsNumber c) (sym is) (is_spelled c none.0), tt));
      ok = omega (arith, low, is);
      next = refl;
    }
export_spelled p ws few none = absurd cc

-- The words have no code, and say this export.
pub record TakesExport (p : Place) (k : Text) (ws : List Text) (class : ℕ) : Type 0 where
  pub other : bytes_eq k (codes "release") ≡ false
  pub key : bytes_eq k (codes "export") ≡ true
  pub none : NoneHolds (export_tests p ws)
  pub next : export_next p ws ≡ record p { stage = stage.End; export = class }

not_release : bytes_eq (codes "export") (codes "release") ≡ false
not_release = refl

pub export_taken : (p : Place) (class : ℕ) (k : Text) (ws : List Text) → length p.table ≤ 16 → class < length p.table → AllZip SpellsWord (k ∷ ws) (number_line (codes "export") class) → TakesExport p k ws class
export_taken p class k [] few low all = absurd all.1
export_taken p class k (c ∷ []) few low all =
    let v = value_is c class all.1.0 (omega (arith, low, few)) in
    let is : byte (value_of c) ≡ class = omega (arith, low, few, v.value) in
    record {
      other = ap (λ (w : Text). bytes_eq w (codes "release")) all.0 ∙ not_release;
      key = same_text k (codes "export") all.0;
      none = (v.spelled, (lt-leb (length p.table) (value_of c) (omega (arith, low, v.value)), tt));
      next = ap (λ (x : ℕ). record p { stage = stage.End; export = x }) is;
    }
export_taken p class k (c ∷ w ∷ ws) few low all = absurd all.1.1

-- ---- the end

pub end_spelled : (ws : List Text) → NoneHolds (end_tests ws) → AllZip SpellsWord ws end_line
end_spelled (k ∷ []) none = (is_fixed k (codes "end") none.0, tt)
end_spelled ws none = absurd cc

pub end_taken : (ws : List Text) → AllZip SpellsWord ws end_line → NoneHolds (end_tests ws)
end_taken [] all = absurd all
end_taken (k ∷ []) all = (rw (same_text k (codes "end") all.0) refl, tt)
end_taken (k ∷ w ∷ ws) all = absurd all.1
