-- What each answer of `save` and of `restore` says of the ports and of the disk, before and after.
use Rattle.std.specs.Prelude.{◌≡◌, ◌<◌, ℕ, List}
use Rattle.class_model.specs.Config.{SegRecord}
use Rattle.command_input.specs.declared.status.Status.{Status}
use Rattle.command_input.specs.declared.status.Status.TheVariants.{Done, Refused, HostFault, NoMemory}
use Rattle.command_input.specs.declared.status.Refusal.TheVariants.{Store, Volume}
use Rattle.command_input.specs.declared.status.PortFault.TheVariants.{Write, Disk}
use Rattle.command_input.specs.Answer.{ConfigCause}
use Rattle.command_input.specs.Input.{Ports}
use Rattle.config_text.specs.declared.config.Config.{Config as ConfigText}
use Rattle.host_ports.specs.Ports.{IsPrefixTaken, with_bytes}
use Rattle.safe_save.specs.Kept.{Image, kept, max_length}
use Rattle.volume_image.specs.Volumes.{Spells as SpellsVolume, IsFault as IsVolumeFault}
use Rattle.volume_image.specs.Written.{written}
use Rattle.command_save.specs.Disks.{Sight, HasRisen, Stays, KeepsOldOrNew, KeepsNew, FoundNoImage, length_in_use}
use Rattle.command_save.specs.Read.{ConfigRead, SomeConfigRead, VolumeRead, VolumeCause}

-- ---- `save`

-- the spelling in format 2 of the volume that was read
abbrev pub image_of : {before after : Ports} → VolumeRead before after → List ℕ
image_of r = written r.config.table r.volume

-- The volume at port 1 was read, and an honest disk keeps its spelling in format 2.
pub record Saved {D : Type 0} (d : Sight D) (before after : Ports) (old new : D) : Type 0 where
  pub of : VolumeRead before after
  pub disk : d.honest old → KeepsNew d (image_of of) old new

-- The volume at port 1 was read, and a call of the disk failed. An honest disk keeps what it kept, or the volume's spelling.
pub record SaveBroken {D : Type 0} (d : Sight D) (before after : Ports) (old new : D) : Type 0 where
  pub of : VolumeRead before after
  pub rose : HasRisen (d.faults old) (d.faults new)
  pub disk : d.honest old → KeepsOldOrNew d (image_of of) old new

-- The volume at port 1 was read, and the half in use begins with a length that is too great for an image. An honest disk has
-- that length, and stays as it was.
pub record FoundTooLong {D : Type 0} (d : Sight D) (length : ℕ) (before after : Ports) (old new : D) : Type 0 where
  pub of : VolumeRead before after
  pub great : max_length < length
  pub found : d.honest old → length ≡ length_in_use (d.seen old)
  pub disk : d.honest old → Stays d old new

-- What each answer of `save` says. Any other answer comes before the first call of the disk.
abbrev pub SaveShows : {D : Type 0} → Sight D → Ports → Ports → D → D → Status → Type 0
SaveShows d before after old new Done = Saved d before after old new
SaveShows d before after old new (HostFault Disk) = SaveBroken d before after old new
SaveShows d before after old new (Refused (Store length)) = FoundTooLong d length before after old new
SaveShows d before after old new other = VolumeCause before after other × (new ≡ old)

-- ---- `restore`

-- The configuration at port 0 was read, and some bytes were loaded: of an honest disk those that it kept before the call.
pub record Loaded {D : Type 0} (d : Sight D) (before after : Ports) (old : D) : Type 0 where
  pub config : ConfigText
  pub read : ConfigRead before after config
  pub image : List ℕ
  pub kept : d.honest old → kept (d.seen old) ≡ Image image

-- they spell a volume of the table
abbrev pub VolumeLoaded : {D : Type 0} → Sight D → Ports → Ports → D → Type 0
VolumeLoaded d before after old = (l : Loaded d before after old) × (v : List SegRecord) × SpellsVolume l.config.table l.image v

-- the spelling in format 2 of the volume that was loaded
abbrev pub loaded_image : {D : Type 0} → (d : Sight D) → (before after : Ports) → (old : D) → VolumeLoaded d before after old → List ℕ
loaded_image d before after old of = written of.0.config.table of.1

-- Port 1 has taken the spelling in format 2 of the volume that was loaded.
pub record Restored {D : Type 0} (d : Sight D) (before after : Ports) (old : D) : Type 0 where
  pub of : VolumeLoaded d before after old
  pub taken : (after 1).taken ≡ with_bytes (before 1).taken (loaded_image d before after old of)

-- Port 1 has taken a proper prefix of it, where a push failed.
pub record RestoredUpTo {D : Type 0} (d : Sight D) (before after : Ports) (old : D) : Type 0 where
  pub of : VolumeLoaded d before after old
  pub torn : IsPrefixTaken (before 1).taken (after 1).taken (loaded_image d before after old of)

-- What each answer of `restore` says.
abbrev pub RestoreShows : {D : Type 0} → Sight D → Ports → Ports → D → D → Status → Type 0
RestoreShows d before after old new Done = Restored d before after old
RestoreShows d before after old new (HostFault (Write port)) = (port ≡ 1) × RestoredUpTo d before after old
RestoreShows d before after old new (HostFault Disk) = SomeConfigRead before after × HasRisen (d.faults old) (d.faults new)
RestoreShows d before after old new (Refused (Store length)) = SomeConfigRead before after × FoundNoImage d length old
-- the bytes that were loaded spell no volume of the table: this is their first fault
RestoreShows d before after old new (Refused (Volume port offset code)) =
    (port ≡ 5) × (l : Loaded d before after old) × IsVolumeFault l.config.table l.image offset code
-- it may come at any moment before the first push
RestoreShows d before after old new NoMemory = Unit {0}
-- there is no configuration, and the disk wasn't called
RestoreShows d before after old new other = ConfigCause before after other × (new ≡ old)
