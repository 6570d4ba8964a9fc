-- Images of volumes, with their length before them, and written anew. Only private functions speak of it.
use Rattle.std.specs.Prelude.{◌≡◌, ◌<◌, ◌≤◌, ℕ, List, length, drop}
use Rattle.class_model.specs.Config.{SegRecord}
use Rattle.labels.specs.Label.{ClassEntry, class_at}
use Rattle.command_input.specs.declared.status.Status.{Status}
use Rattle.command_input.specs.declared.status.Status.TheVariants.{Refused, NoMemory}
use Rattle.command_input.specs.declared.status.Refusal.TheVariants.{Volume}
use Rattle.safe_save.specs.Kept.{IsStored}
use Rattle.volume_image.specs.Volumes.{Spells as SpellsVolume, IsFault as IsVolumeFault}
use Rattle.volume_image.specs.Written.{written}

-- each class has a name of at most 16 bytes
abbrev pub HasShortNames : List ClassEntry → Type 0
HasShortNames table = (c : ℕ) → c < length table → length (class_at table c).name ≤ 16

-- The bytes are the length of the image, and the image.
pub record AreStored (image bytes : List ℕ) : Type 0 where
  pub length : IsStored bytes
  pub behind : drop 8 bytes ≡ image

-- the bytes are the spelling in format 2 of the volume that the image spells
pub record IsRewritten (table : List ClassEntry) (image bytes : List ℕ) : Type 0 where
  pub volume : List SegRecord
  pub spelled : SpellsVolume table image volume
  pub again : bytes ≡ written table volume

-- why there is no such volume
abbrev pub RewriteFails : List ClassEntry → List ℕ → Status → Type 0
RewriteFails table image (Refused (Volume port offset code)) = (port ≡ 5) × IsVolumeFault table image offset code
RewriteFails table image NoMemory = Unit {0}
RewriteFails table image _ = ⊥
