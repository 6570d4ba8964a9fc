-- What holds of every volume and its spellings.
use Rattle.std.proofs.Common.{◌≡◌, ℕ, ◌-◌, List, length, Result, Ok, Err, refl, inl, inr}
use Rattle.std.specs.Prelude.{◌⊎◌}
use Rattle.labels.specs.Label.{ClassEntry}
use Rattle.labels.specs.Table.{IsTable}
use Rattle.class_model.specs.Config.{SegRecord}
use Rattle.volume_image.specs.declared.head.Format.TheVariants.{Two}
use Rattle.volume_image.specs.declared.fault.Stop.TheVariants as stop
use Rattle.volume_image.specs.Valid.{IsVolume}
use Rattle.volume_image.specs.Written.{written}
use Rattle.volume_image.specs.Steps.{Fault}
use Rattle.volume_image.specs.Fields.{volume_at}
use Rattle.volume_image.specs.Volumes.{Spells, IsFault, HasFault, code_number}
use Rattle.volume_image.proofs.Taking.{IsBytes}
use Rattle.volume_image.proofs.Whole.{volume_takes, volume_again, ok_only, ok_refused, one_fault, err_right}
use Rattle.volume_image.proofs.Counting.{image_length, wider, begun_next, begun_whole, next_fits}

pub spelled_valid : (table : List ClassEntry) (bytes : List ℕ) (v : List SegRecord) → Spells table bytes v → IsVolume table v
spelled_valid table bytes v s = wider s.0 table v s.1.records

pub written_spells : (table : List ClassEntry) (v : List SegRecord) → IsVolume table v → Spells table (written table v) v
written_spells table v ok = (Two, ok, refl)

pub one_volume : (table : List ClassEntry) (bytes : List ℕ) (v w : List SegRecord) → IsTable table → Spells table bytes v → Spells table bytes w → v ≡ w
one_volume table bytes v w ok s t = ok_only table bytes v w ok (volume_again table bytes v ok s) t

pub never_both : (table : List ClassEntry) (bytes : List ℕ) (v : List SegRecord) → IsTable table → Spells table bytes v → (o n : ℕ) → IsFault table bytes o n → ⊥
never_both table bytes v ok s o n f = ok_refused table bytes v (volume_again table bytes v ok s) o n f

decided : (table : List ClassEntry) (bytes : List ℕ) (r : Result (List SegRecord) Fault) → IsBytes bytes → volume_at table bytes ≡ r → ((v : List SegRecord) × Spells table bytes v) ⊎ HasFault table bytes
decided table bytes (Ok v) fits e = inl (v, volume_takes table bytes v fits e)
decided table bytes (Err f) fits e = inr (length bytes - f.left, code_number f.code, err_right table bytes (stop.Fault f.left f.code) e)

pub always_one : (table : List ClassEntry) (bytes : List ℕ) → IsBytes bytes → ((v : List SegRecord) × Spells table bytes v) ⊎ HasFault table bytes
always_one table bytes fits = decided table bytes (volume_at table bytes) fits refl

pub ruleset laws = (spelled_valid, written_spells, one_volume, never_both, one_fault, always_one, image_length, begun_next, begun_whole, next_fits)
