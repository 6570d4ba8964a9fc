-- What reading the ports does, one after the other.
use Rattle.std.specs.Prelude.{◌≡◌, ◌<◌, ◌≤◌, ℕ, List, length, Contains, Option, Some}
use Rattle.std.specs.List.{AllByRecursion}
use Rattle.labels.specs.Label.{ClassEntry}
use Rattle.host_ports.specs.Ports.{PullKeeps}
use Rattle.config_text.specs.declared.config.Config.{Config as ConfigText}
use Rattle.class_model.specs.Config.{SegRecord}
use Rattle.volume_image.specs.Valid.{IsVolume}
use Rattle.volume_image.specs.Volumes.{Spells as SpellsVolume, IsFault as IsVolumeFault}
use Rattle.loader.specs.Records.{Volumes, named_by, numbers_of}
use Rattle.command_input.specs.declared.status.Status.{Status}
use Rattle.command_input.specs.declared.status.Status.TheVariants.{Refused, HostFault, NoMemory}
use Rattle.command_input.specs.declared.status.Refusal.TheVariants.{Class, TooLong, Volume}
use Rattle.command_input.specs.declared.status.PortFault.TheVariants.{Read}
use Rattle.command_input.specs.Input.{Ports, IfTold, Untouched, NothingPushed, NoneFailed, IsBrokenOff, IsTooLong, IsReadWhole, IsAccepted, AreNamedBelow, limit}

-- the bytes are all that the port had left, and they are within its limit
pub record ReadsIn (port : ℕ) (before after : Ports) (bytes : List ℕ) : Type 0 where
  pub told : IfTold (before port).left (λ left. bytes ≡ left)
  pub short : length bytes ≤ limit port
  pub whole : IsReadWhole port before after
  pub keeps : PullKeeps port before after
  pub stays : (after port).pulls ≡ (before port).pulls

-- why there are no bytes
abbrev pub ReadFails : ℕ → Ports → Ports → Status → Type 0
ReadFails port before after NoMemory = Untouched before after
ReadFails port before after (HostFault (Read p)) = (p ≡ port) × PullKeeps port before after × IsBrokenOff port before after
ReadFails port before after (Refused (TooLong p)) = (p ≡ port) × PullKeeps port before after × IsTooLong port before after × ((after port).pulls ≡ (before port).pulls)
ReadFails port before after _ = ⊥

-- the port was read, and its bytes spell this volume
pub record VolumeReads (table : List ClassEntry) (port : ℕ) (before after : Ports) (v : List SegRecord) : Type 0 where
  pub bytes : List ℕ
  pub reads : ReadsIn port before after bytes
  pub spelled : SpellsVolume table bytes v
  pub valid : IsVolume table v

-- the port was read, and its bytes have this first fault
pub record IsNoVolume (table : List ClassEntry) (port : ℕ) (before after : Ports) (offset code : ℕ) : Type 0 where
  pub bytes : List ℕ
  pub reads : ReadsIn port before after bytes
  pub fault : IsVolumeFault table bytes offset code

-- why there is no volume
abbrev pub VolumeFails : List ClassEntry → ℕ → Ports → Ports → Status → Type 0
VolumeFails table port before after NoMemory = PullKeeps port before after × ((after port).pulls ≡ (before port).pulls)
VolumeFails table port before after (HostFault (Read p)) = (p ≡ port) × PullKeeps port before after × IsBrokenOff port before after
VolumeFails table port before after (Refused (TooLong p)) = (p ≡ port) × PullKeeps port before after × IsTooLong port before after × ((after port).pulls ≡ (before port).pulls)
VolumeFails table port before after (Refused (Volume p offset code)) = (p ≡ port) × IsNoVolume table port before after offset code
VolumeFails table port before after _ = ⊥

-- the volumes that the configuration names, below n, were read from their ports
pub record VolumesRead (n : ℕ) (k : ConfigText) (before after : Ports) (vs : Volumes) : Type 0 where
  pub volumes : AllByRecursion (IsAccepted k.table before after) vs
  pub valid : AllByRecursion (λ (v : ℕ × List SegRecord). IsVolume k.table v.1) vs
  pub numbers : AreNamedBelow n k (numbers_of vs)
  pub others : (p : ℕ) → (Contains (numbers_of vs) p → ⊥) → after p ≡ before p
  pub silent : NothingPushed before after
  pub none : NoneFailed before after

-- The volume of port n, which the configuration names, wasn't read: those below it were, and then this came.
pub record FailsAt (k : ConfigText) (before after : Ports) (n : ℕ) (why : Ports → Type 0) : Type 0 where
  pub some : 1 ≤ n
  pub most : n < 5
  pub named : Contains (named_by k) n
  pub middle : Ports
  pub volumes : Volumes
  pub read : VolumesRead n k before middle volumes
  pub fails : why middle

-- why there are no volumes
abbrev pub VolumesFail : ConfigText → Ports → Ports → Status → Type 0
VolumesFail k before after status = (n : ℕ) × FailsAt k before after n (λ middle. VolumeFails k.table n middle after status)

-- the answer to a class that is none of the configuration's
abbrev pub IsNoClass : Option ℕ → ConfigText → Status → Type 0
IsNoClass wanted k (Refused (Class given classes)) = (wanted ≡ Some given) × (classes ≡ length k.table) × (classes ≤ given)
IsNoClass wanted k _ = ⊥
