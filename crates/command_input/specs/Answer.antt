-- Why a command has no input, and what holds of the ports at each answer of a command.
use Rattle.std.specs.Prelude.{◌≡◌, ◌≢◌, ◌<◌, ◌≤◌, ◌⊎◌, ℕ, length, Contains, Option, Some}
use Rattle.config_text.specs.declared.config.Config.{Config as ConfigText}
use Rattle.config_text.specs.Text.{Spells, IsFault}
use Rattle.host_ports.specs.Ports.{SameBut}
use Rattle.volume_image.specs.Volumes.{IsFault as IsVolumeFault}
use Rattle.command_input.specs.declared.status.Status.{Status}
use Rattle.command_input.specs.declared.status.Status.TheVariants.{Done, Refused, HostFault, Unfinished, NoMemory}
use Rattle.command_input.specs.declared.status.Refusal.TheVariants.{Config, Class, Volume, Load, TooLong}
use Rattle.command_input.specs.declared.status.PortFault.TheVariants.{Read, Write}
use Rattle.loader.specs.Records.{Volumes, named_by, IsLoadFault}
use Rattle.command_input.specs.Input.{Ports, IfTold, NothingPushed, NoneFailed, OnePullFailed, OnePushFailed, IsBrokenOff, IsTooLong, IsReadWhole, OfConfiguration, ReadsBelow, IsAmong, IsNext, IsTurnOf}

-- ---- at every answer

-- Nothing is pushed but at Done, at Unfinished and where a push failed.
abbrev pub SilenceShows : Ports → Ports → Status → Type 0
SilenceShows before after Done = Unit {0}
SilenceShows before after Unfinished = Unit {0}
SilenceShows before after (HostFault (Write port)) = Unit {0}
SilenceShows before after _ = NothingPushed before after

-- No call of the host has failed, or at a fault of the host just the one that it names.
abbrev pub FaultsShow : Ports → Ports → Status → Type 0
FaultsShow before after (HostFault (Read port)) = OnePullFailed port before after
FaultsShow before after (HostFault (Write port)) = OnePushFailed port before after
FaultsShow before after _ = NoneFailed before after

-- The ports behind the one at fault weren't touched.
abbrev pub UnreadShows : Ports → Ports → Status → Type 0
UnreadShows before after (HostFault (Read port)) = (p : ℕ) → port < p → after p ≡ before p
UnreadShows before after (Refused (TooLong port)) = (p : ℕ) → port < p → after p ≡ before p
UnreadShows before after (Refused (Config line code)) = (p : ℕ) → 0 < p → after p ≡ before p
UnreadShows before after (Refused (Class given classes)) = (p : ℕ) → 0 < p → after p ≡ before p
UnreadShows before after (Refused (Volume port offset code)) = (p : ℕ) → port < p → after p ≡ before p
UnreadShows before after _ = Unit {0}

-- what holds of the ports at every answer
pub record PortsShow (before after : Ports) (status : Status) : Type 0 where
  pub silence : SilenceShows before after status
  pub faults : FaultsShow before after status
  pub unread : UnreadShows before after status

-- ---- no configuration

-- Why there is no configuration: a pull of port 0 failed, it has too many bytes, or they spell none, with their first fault.
abbrev pub ConfigCause : Ports → Ports → Status → Type 0
ConfigCause before after (HostFault (Read port)) = (port ≡ 0) × IsBrokenOff 0 before after
ConfigCause before after (Refused (TooLong port)) = (port ≡ 0) × IsTooLong 0 before after
ConfigCause before after (Refused (Config line code)) = IsReadWhole 0 before after × IfTold (before 0).left (λ bytes. IsFault bytes line code)
ConfigCause before after NoMemory = Unit {0}
ConfigCause before after _ = ⊥

-- There is no configuration, for this cause. Nothing was pushed, and no port but port 0 has changed.
pub record ConfigFails (before after : Ports) (status : Status) : Type 0 where
  pub cause : ConfigCause before after status
  pub silent : NothingPushed before after
  pub others : SameBut 0 before after
  pub ports : PortsShow before after status

-- ---- no input

-- Why there is no input. Each answer comes at the place of this order: port 0 with its text, the class that is asked for, the
-- ports of the volumes with their bytes, in ascending order, and then the records of all volumes.
abbrev pub InputCause : Option ℕ → Ports → Ports → Status → Type 0
-- it was this port's turn, and a pull of it failed
InputCause wanted before after (HostFault (Read port)) = IsTurnOf wanted port before after × IsBrokenOff port before after
-- it was this port's turn, and it has more bytes left than the limit
InputCause wanted before after (Refused (TooLong port)) = IsTurnOf wanted port before after × IsTooLong port before after
-- port 0 was read, and its bytes spell no configuration: this is their first fault
InputCause wanted before after (Refused (Config line code)) = IsReadWhole 0 before after × IfTold (before 0).left (λ bytes. IsFault bytes line code)
-- port 0 was read, and the class that is asked for is none of its classes, of which there are so many
InputCause wanted before after (Refused (Class given classes)) =
    (wanted ≡ Some given) × IsReadWhole 0 before after × OfConfiguration (before 0).left (λ k. (classes ≡ length k.table) × (classes ≤ given))
-- it was this port's turn, it was read, and its bytes spell no volume of the table: this is their first fault
InputCause wanted before after (Refused (Volume port offset code)) =
    IsNext port before after (λ k. IsAmong wanted k × IsReadWhole port before after × IfTold (before port).left (λ bytes. IsVolumeFault k.table bytes offset code))
-- the volumes were read, and this is their first record at fault, with its least code
InputCause wanted before after (Refused (Load volume item code)) =
    (k : ConfigText) × (vs : Volumes) × ReadsBelow 5 before after k vs × IsAmong wanted k × IsLoadFault k vs volume item code
InputCause wanted before after NoMemory = Unit {0}
InputCause wanted before after _ = ⊥

-- A port other than port 0 has changed only where the configuration names its volume.
abbrev pub OnlyNamedRead : Ports → Ports → Type 0
OnlyNamedRead before after = (p : ℕ) → p ≢ 0 → (after p ≡ before p) ⊎ ((k : ConfigText) × IfTold (before 0).left (λ bytes. Spells bytes k) × Contains (named_by k) p)

-- There is no input, for this cause. Nothing was pushed.
pub record InputFails (wanted : Option ℕ) (before after : Ports) (status : Status) : Type 0 where
  pub cause : InputCause wanted before after status
  pub silent : NothingPushed before after
  pub others : OnlyNamedRead before after
  pub ports : PortsShow before after status
