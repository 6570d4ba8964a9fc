-- What the calls of the disk do within a command. Only private functions speak of it.
use Rattle.std.specs.Prelude.{◌≡◌, ◌<◌, ◌≤◌, ℕ, List, length, Result, Ok, Err}
use Rattle.command_input.specs.declared.status.Status.{Status}
use Rattle.command_input.specs.declared.status.Status.TheVariants.{Refused, HostFault, NoMemory}
use Rattle.command_input.specs.declared.status.Refusal.TheVariants.{Store}
use Rattle.command_input.specs.declared.status.PortFault.TheVariants as fault
use Rattle.safe_save.specs.declared.keeping.SaveError.{SaveError}
use Rattle.safe_save.specs.declared.keeping.SaveError.TheVariants as error
use Rattle.safe_save.specs.Kept.{Image, kept, max_length}
use Rattle.command_save.specs.Disks.{Sight, HasRisen, Stays, KeepsOldOrNew, KeepsNew, FoundNoImage, length_in_use}

-- the answer to a fault of the disk
abbrev pub answer_of : SaveError → Status
answer_of error.Disk = HostFault fault.Disk
answer_of (error.Length length) = Refused (Store length)

-- what becomes of the disk where these bytes are to be kept
abbrev pub KeepShows : {D : Type 0} → Sight D → List ℕ → D → D → Result (Unit {0}) SaveError → Type 0
KeepShows d image old new (Ok u) = d.honest old → KeepsNew d image old new
KeepShows d image old new (Err error.Disk) = HasRisen (d.faults old) (d.faults new) × (d.honest old → KeepsOldOrNew d image old new)
KeepShows d image old new (Err (error.Length length)) = (max_length < length) × (d.honest old → (length ≡ length_in_use (d.seen old)) × Stays d old new)

-- The bytes were loaded: of an honest disk those that it kept.
pub record IsKept {D : Type 0} (d : Sight D) (old : D) (image : List ℕ) : Type 0 where
  pub fits : length image ≤ max_length
  pub kept : d.honest old → kept (d.seen old) ≡ Image image

-- why there are none
abbrev pub KeptFails : {D : Type 0} → Sight D → D → D → Status → Type 0
KeptFails d old new (HostFault fault.Disk) = HasRisen (d.faults old) (d.faults new)
KeptFails d old new (Refused (Store length)) = FoundNoImage d length old
KeptFails d old new NoMemory = Unit {0}
KeptFails d old new _ = ⊥
