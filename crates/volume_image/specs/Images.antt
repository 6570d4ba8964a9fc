-- An image that is written record by record into room that was taken before.
use Rattle.std.specs.Prelude.{ℕ, ◌+◌, ◌*◌, ◌≤◌, List, ◌++◌, length, take}
use Rattle.std.specs.List.{flat_map}
use Rattle.labels.specs.Label.{ClassEntry}
use Rattle.class_model.specs.Config.{SegRecord}
use Rattle.volume_image.specs.Written.{record_bytes, front}

-- its bytes so far, and how many more it has room for
pub record Drawn : Type 0 where
  pub bytes : List ℕ
  pub spare : ℕ

-- How long an image of the table may get: what stands before the first record, and 523 bytes for each identity. A record has
-- 11 bytes and at most 64 words.
abbrev pub largest : List ClassEntry → ℕ
largest table = length (front table 0) + 523 * (64 * length table)

-- how many bytes it has room for in all
abbrev pub room : Drawn → ℕ
room image = length image.bytes + image.spare

-- It has room for each image of the table.
abbrev pub IsMadeFor : List ClassEntry → Drawn → Type 0
IsMadeFor table image = largest table ≤ room image

-- the image of a volume up to its first i records
abbrev pub begun : List ClassEntry → List SegRecord → ℕ → List ℕ
begun table v i = front table (length v) ++ flat_map record_bytes (take i v)
