-- The fields of an image in their order, each with what it must be and else its code. The bytes are read from left to
-- right, and the first field at fault ends the reading.
use Rattle.std.specs.Prelude.{ℕ, zero, suc, Bool, not, ◌||◌, List, [], ◌∷◌, length, codes, ◌==◌, if◌then◌else◌, nat_le, nat_lt, Option, Some, None, Result, Ok}
use Rattle.std.specs.Str.{bytes_eq}
use Rattle.std.specs.Int.{w16, w64}
use Rattle.labels.specs.Label.{Label, ClassEntry, at_or_below}
use Rattle.labels.specs.Bytes.{bytes_of}
use Rattle.rings.specs.Brackets.{Brackets, in_order}
use Rattle.words_layout.specs.Segments.{seg}
use Rattle.words_layout.specs.declared.segment.SegId.{SegId}
use Rattle.class_model.specs.Config.{SegRecord}
use Rattle.class_model.specs.Valid.{within, is_root}
use Rattle.volume_image.specs.declared.head.Format.{Format}
use Rattle.volume_image.specs.declared.head.Format.TheVariants.{One, Two}
use Rattle.volume_image.specs.declared.fault.Code.TheVariants as code
use Rattle.volume_image.specs.Valid.{has_room, is_high, is_class, is_identity, is_above, may_stand}
use Rattle.volume_image.specs.Steps.{Fault, Step, ◌>>=◌, short, judged, field, passed, byte_at, front_at, number_at, identity_at}

-- ---- before the records

-- six bytes, GEMVOL
unfoldable pub magic_at : List ℕ → Result (List ℕ) Fault
magic_at bytes = passed (front_at 6) (λ x. (not (bytes_eq x (codes "GEMVOL")), code.Magic) ∷ []) bytes

-- the format of this number
abbrev pub numbered : ℕ → Format
numbered b = if b == 1 then One else Two

-- the format: 1 or 2
unfoldable pub format_at : List ℕ → Step Format
format_at bytes = do
  b ← field byte_at (λ b. (not (b == 1 || b == 2), code.Format) ∷ []) bytes
  Ok (numbered b.0, b.1)

-- a zero
unfoldable pub zero_at : List ℕ → Result (List ℕ) Fault
zero_at bytes = passed byte_at (λ b. (not (b == 0), code.Zero) ∷ []) bytes

-- the number of classes: that of the table, and no more than the format has room for
unfoldable pub classes_number_at : Format → List ClassEntry → List ℕ → Result (List ℕ) Fault
classes_number_at f table bytes = passed byte_at (λ n. (not (n == length table), code.Classes) ∷ (not (has_room f table), code.Classes) ∷ []) bytes

-- the length of the name, and the name
unfoldable pub name_at : List ℕ → List ℕ → Result (List ℕ) Fault
name_at name bytes = do
  after ← passed byte_at (λ n. (not (n == length name), code.Name) ∷ []) bytes
  passed (front_at (length name)) (λ x. (not (bytes_eq x name), code.Name) ∷ []) after

-- ten bytes: a label with levels at most 15, and this one
unfoldable pub label_at : Label → List ℕ → Result (List ℕ) Fault
label_at l bytes = passed (front_at 10) (λ x. (is_high x, code.Level) ∷ (not (bytes_eq x (bytes_of l)), code.Label) ∷ []) bytes

-- the fields of a class
unfoldable pub class_fields : Format → ClassEntry → List ℕ → Result (List ℕ) Fault
class_fields One c bytes = label_at c.label bytes
class_fields Two c bytes = do
  after ← name_at c.name bytes
  label_at c.label after

-- those of each class
unfoldable pub classes_at : Format → List ClassEntry → List ℕ → Result (List ℕ) Fault
classes_at f [] bytes = Ok bytes
classes_at f (c ∷ cs) bytes = do
  after ← class_fields f c bytes
  classes_at f cs after

-- all of it: the format
unfoldable pub header_at : List ClassEntry → List ℕ → Step Format
header_at table bytes = do
  a ← magic_at bytes
  f ← format_at a
  b ← zero_at f.1
  c ← classes_number_at f.0 table b
  d ← classes_at f.0 table c
  Ok (f.0, d)

-- ---- a record

-- the identity: one of the table and format but the root's, and above that of the record before
unfoldable pub id_at : Format → List ClassEntry → SegId → List ℕ → Step SegId
id_at f table before bytes =
    field identity_at (λ u. (not (is_identity f table u), code.Range) ∷ (is_root u, code.Range) ∷ (not (is_above before u), code.Order) ∷ []) bytes

-- the class: one of the table, and at or above the mentor's
unfoldable pub class_number_at : List ClassEntry → ℕ → List ℕ → Step ℕ
class_number_at table m bytes = field byte_at (λ c. (not (is_class table c), code.Range) ∷ (not (at_or_below table m c), code.Class) ∷ []) bytes

-- three bytes
abbrev pub rings_at : List ℕ → Step Brackets
rings_at (a ∷ b ∷ c ∷ rest) = Ok (record { r1 = a; r2 = b; r3 = c }, rest)
rings_at _ = short

-- the brackets: in order, and at most 7
unfoldable pub brackets_at : List ℕ → Step Brackets
brackets_at bytes = field rings_at (λ b. (not (in_order b), code.Range) ∷ []) bytes

-- the size: 1 to 64
unfoldable pub size_at : List ℕ → Step ℕ
size_at bytes = field byte_at (λ n. (not (within 1 64 n), code.Range) ∷ []) bytes

-- the mentor's identity: one of the table and format, under which the segment may stand
unfoldable pub mentor_at : Format → List ClassEntry → SegId → List ℕ → Step SegId
mentor_at f table u bytes =
    field identity_at (λ v. (not (is_identity f table v), code.Range) ∷ (not (may_stand table u v), code.Mentor) ∷ []) bytes

-- the entry: below 8
unfoldable pub entry_at : List ℕ → Step ℕ
entry_at bytes = field byte_at (λ e. (not (nat_lt e 8), code.Range) ∷ []) bytes

-- so many words
unfoldable pub words_at : ℕ → List ℕ → Step (List ℕ)
words_at zero bytes = Ok ([], bytes)
words_at (suc n) bytes = do
  first ← number_at w64 bytes
  others ← words_at n first.1
  Ok (first.0 ∷ others.0, others.1)

-- what follows a 0, or a 1
abbrev pub kept_behind : ℕ → Bool → List ℕ → Step (Option (List ℕ))
kept_behind size flag bytes = if flag then Ok (None, bytes) else (words_at size bytes >>= λ words. Ok (Some words.0, words.1))

-- whether words were kept, 0 or 1, and then as many words as the size
unfoldable pub kept_at : ℕ → List ℕ → Step (Option (List ℕ))
kept_at size bytes = do
  flag ← field byte_at (λ k. (not (nat_le k 1), code.Range) ∷ []) bytes
  kept_behind size (flag.0 == 0) flag.1

-- the fields of a record that follows one of this identity
unfoldable pub record_at : Format → List ClassEntry → SegId → List ℕ → Step SegRecord
record_at f table before bytes = do
  seg ← id_at f table before bytes
  class ← class_number_at table seg.0.mentor seg.1
  brackets ← brackets_at class.1
  size ← size_at brackets.1
  mentor ← mentor_at f table seg.0 size.1
  entry ← entry_at mentor.1
  kept ← kept_at size.0 entry.1
  Ok (record { seg = seg.0; class = class.0; brackets = brackets.0; size = size.0; mentor = mentor.0; entry = entry.0; kept = kept.0 }, kept.1)

-- so many records
unfoldable pub records_at : Format → List ClassEntry → SegId → ℕ → List ℕ → Step (List SegRecord)
records_at f table before zero bytes = Ok ([], bytes)
records_at f table before (suc n) bytes = do
  first ← record_at f table before bytes
  others ← records_at f table first.0.seg n first.1
  Ok (first.0 ∷ others.0, others.1)

-- ---- the whole

-- the header, the number of records, the records, and nothing behind them
unfoldable pub volume_at : List ClassEntry → List ℕ → Result (List SegRecord) Fault
volume_at table bytes = do
  f ← header_at table bytes
  n ← number_at w16 f.1
  rs ← records_at f.0 table (seg 0 0) n.0 n.1
  judged (length rs.1) ((not (length rs.1 == 0), code.Behind) ∷ []) rs.0
