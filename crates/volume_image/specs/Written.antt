-- The one spelling of a volume in each format. Numbers have their high byte first.
use Rattle.std.specs.Prelude.{ℕ, List, [], ◌∷◌, ◌++◌, length, codes, Option, Some, None}
use Rattle.std.specs.List.{flat_map}
use Rattle.std.specs.Int.{w16, w64, to_be_bytes}
use Rattle.labels.specs.Label.{ClassEntry}
use Rattle.labels.specs.Bytes.{bytes_of}
use Rattle.rings.specs.Brackets.{Brackets}
use Rattle.words_layout.specs.declared.segment.SegId.{SegId}
use Rattle.class_model.specs.Config.{SegRecord}
use Rattle.volume_image.specs.declared.head.Format.{Format}
use Rattle.volume_image.specs.declared.head.Format.TheVariants.{One, Two}

-- the number of a format
abbrev pub format_number : Format → ℕ
format_number One = 1
format_number Two = 2

-- a class: in format 2 the length of its name and the name, and in both its label
abbrev pub class_bytes : Format → ClassEntry → List ℕ
class_bytes One c = bytes_of c.label
class_bytes Two c = (length c.name ∷ c.name) ++ bytes_of c.label

-- an identity
abbrev pub identity_bytes : SegId → List ℕ
identity_bytes u = u.mentor ∷ u.serial ∷ []

-- brackets
abbrev pub brackets_bytes : Brackets → List ℕ
brackets_bytes b = b.r1 ∷ b.r2 ∷ b.r3 ∷ []

-- 1 and the words where they were kept, else 0
abbrev pub kept_bytes : Option (List ℕ) → List ℕ
kept_bytes None = 0 ∷ []
kept_bytes (Some words) = 1 ∷ flat_map (to_be_bytes w64) words

-- a record
unfoldable pub record_bytes : SegRecord → List ℕ
record_bytes r =
    identity_bytes r.seg ++ ((r.class ∷ []) ++ (brackets_bytes r.brackets ++ ((r.size ∷ []) ++ (identity_bytes r.mentor ++ ((r.entry ∷ []) ++ kept_bytes r.kept)))))

-- the word that every image begins with, the format, a zero and the number of classes
abbrev pub start : Format → List ClassEntry → List ℕ
start f table = codes "GEMVOL" ++ format_number f ∷ 0 ∷ length table ∷ []

-- what stands before the number of records
unfoldable pub header : Format → List ClassEntry → List ℕ
header f table = start f table ++ flat_map (class_bytes f) table

-- the whole image
unfoldable pub spelling : Format → List ClassEntry → List SegRecord → List ℕ
spelling f table rs = header f table ++ (to_be_bytes w16 (length rs) ++ flat_map record_bytes rs)

-- what is written: the spelling in format 2
abbrev pub written : List ClassEntry → List SegRecord → List ℕ
written table rs = spelling Two table rs

-- what stands before the first of so many records
unfoldable pub front : List ClassEntry → ℕ → List ℕ
front table count = header Two table ++ to_be_bytes w16 count
