-- How long an image is, and that its length can be read again.
use Rattle.std.proofs.Common.{◌≡◌, ℕ, suc, ◌+◌, ◌*◌, ◌<◌, ◌≤◌, List, [], ◌∷◌, ◌++◌, length, take, refl, sym, ap, subst, ◌∙◌, length-append, arith}
use Rattle.std.proofs.lemmas.List.Concat.{flat_map-cons}
use Rattle.std.proofs.lemmas.List.{take_at, drop_at}
use Rattle.std.proofs.lemmas.Nat.{from_be_bytes-to_be_bytes_8}
use Rattle.std.specs.Int.{w16, w64, from_be_bytes, to_be_bytes}
use Rattle.std.specs.List.{flat_map}
use Rattle.labels.specs.Label.{ClassEntry}
use Rattle.labels.specs.Bytes.{bytes_of}
use Rattle.labels.specs.Table.{IsTable}
use Rattle.class_model.specs.Config.{SegRecord}
use Rattle.volume_image.specs.declared.head.Format.TheVariants.{Two}
use Rattle.volume_image.specs.Valid.{IsVolume}
use Rattle.volume_image.specs.Written.{class_bytes, record_bytes, start, header, spelling, written}
use Rattle.volume_image.proofs.Counting.{front_size, image_length}
use Rattle.command_save.specs.Images.{HasShortNames, AreStored}

class_length : (c : ClassEntry) → length c.name ≤ 16 → length (class_bytes Two c) ≤ 27
class_length c short = omega (arith, length-append (length c.name ∷ c.name) (bytes_of c.label), short)

classes_length : (table : List ClassEntry) → HasShortNames table → length (flat_map (class_bytes Two) table) ≤ 27 * length table
classes_length [] names = omega arith
classes_length (c ∷ cs) names =
    let parts : length (flat_map (class_bytes Two) (c ∷ cs)) ≡ length (class_bytes Two c) + length (flat_map (class_bytes Two) cs) =
    ap length (flat_map-cons (class_bytes Two) c cs) ∙ length-append (class_bytes Two c) (flat_map (class_bytes Two) cs) in
    omega (arith, parts, class_length c (names 0 (omega arith)), classes_length cs (λ i lt. names (suc i) (omega arith)))

-- an image fits into a half
pub written_fits : (table : List ClassEntry) (v : List SegRecord) → IsTable table → HasShortNames table → IsVolume table v → length (written table v) ≤ 4194304
written_fits table v ok names valid = omega (arith, image_length table v ok valid, front_size table, classes_length table names, ok.few)

-- it has some bytes
pub written_some : (table : List ClassEntry) (v : List SegRecord) → 0 < length (written table v)
unfolding spelling header
written_some table v = omega (
  arith,
  length-append (header Two table) (to_be_bytes w16 (length v) ++ flat_map record_bytes v),
  length-append (start Two table) (flat_map (class_bytes Two) table),
)

-- the length of an image, and the image
stored : (image : List ℕ) → 0 < length image → length image ≤ 4194304 → AreStored image (to_be_bytes w64 (length image) ++ image)
stored image some fits =
    let n = length image in
    let sum : length (to_be_bytes w64 n ++ image) ≡ 8 + n = length-append (to_be_bytes w64 n) image in
    let front : take 8 (to_be_bytes w64 n ++ image) ≡ to_be_bytes w64 n = take_at (to_be_bytes w64 n) image 8 refl in
    let read : from_be_bytes w64 (take 8 (to_be_bytes w64 n ++ image)) ≡ n = ap (from_be_bytes w64) front ∙ from_be_bytes-to_be_bytes_8 n (omega arith) in
    record {
      length = record { some = omega (arith, sum, some); fits = omega (arith, sum, fits); length = omega (arith, sum, read) };
      behind = drop_at (to_be_bytes w64 n) image 8 refl;
    }

pub stored_image : (table : List ClassEntry) (v : List SegRecord) (bytes : List ℕ) → IsTable table → HasShortNames table → IsVolume table v → bytes ≡ to_be_bytes w64 (length (written table v)) ++ written table v → AreStored (written table v) bytes
stored_image table v bytes ok names valid e = subst (AreStored (written table v)) (sym e) (stored (written table v) (written_some table v) (written_fits table v ok names valid))

-- what was put together so is that
pub put_together : (new first none number image whole : List ℕ) → new ≡ first ++ image → first ≡ none ++ number → none ≡ [] → number ≡ to_be_bytes w64 (length whole) → image ≡ whole → new ≡ to_be_bytes w64 (length whole) ++ whole
put_together new first none number image whole a b c d e =
    a ∙ (ap (λ (x : List ℕ). x ++ image) (b ∙ (ap (λ (x : List ℕ). x ++ number) c ∙ d)) ∙ ap (λ (x : List ℕ). to_be_bytes w64 (length whole) ++ x) e)
