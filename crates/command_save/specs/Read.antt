-- What `save` and `restore` read of the ports, and why there is nothing to be saved.
use Rattle.std.specs.Prelude.{◌≡◌, ◌≤◌, ◌⊎◌, ℕ, List}
use Rattle.class_model.specs.Config.{SegRecord}
use Rattle.command_input.specs.declared.status.Status.{Status}
use Rattle.command_input.specs.declared.status.Status.TheVariants.{Refused, HostFault, NoMemory}
use Rattle.command_input.specs.declared.status.Refusal.TheVariants.{Config, Volume, TooLong}
use Rattle.command_input.specs.declared.status.PortFault.TheVariants.{Read}
use Rattle.command_input.specs.Input.{Ports, IfTold, IsBrokenOff, IsTooLong, IsReadWhole, IsUnpushed}
use Rattle.config_text.specs.declared.config.Config.{Config as ConfigText}
use Rattle.config_text.specs.Text.{Spells, IsFault}
use Rattle.volume_image.specs.Volumes.{Spells as SpellsVolume, IsFault as IsVolumeFault}

-- Port 0 was read whole, and the bytes that it had left spell this configuration.
pub record ConfigRead (before after : Ports) (k : ConfigText) : Type 0 where
  pub told : IfTold (before 0).left (λ bytes. Spells bytes k)
  pub whole : IsReadWhole 0 before after

-- Port 0 was read whole, and the bytes that it had left spell a configuration.
abbrev pub SomeConfigRead : Ports → Ports → Type 0
SomeConfigRead before after = (k : ConfigText) × ConfigRead before after k

-- Ports 0 and 1 were read whole, and the bytes that they had left spell a configuration and a volume of its table.
pub record VolumeRead (before after : Ports) : Type 0 where
  pub config : ConfigText
  pub read : ConfigRead before after config
  pub volume : List SegRecord
  pub told : IfTold (before 1).left (λ bytes. SpellsVolume config.table bytes volume)
  pub whole : IsReadWhole 1 before after

-- it is the turn of the port: of port 0, which is read first, or of port 1, where port 0 was read
abbrev pub IsTurnOf : ℕ → Ports → Ports → Type 0
IsTurnOf port before after = (port ≡ 0) ⊎ ((port ≡ 1) × SomeConfigRead before after)

-- Why there is no volume to be saved. Each answer comes at the place of this order: port 0 with its text, then port 1 with its
-- bytes.
abbrev pub VolumeCause : Ports → Ports → Status → Type 0
-- it was this port's turn, and a pull of it failed
VolumeCause before after (HostFault (Read port)) = IsTurnOf port before after × IsBrokenOff port before after
-- it was this port's turn, and it has more bytes left than its limit
VolumeCause before after (Refused (TooLong port)) = IsTurnOf port before after × IsTooLong port before after
-- port 0 was read, and its bytes spell no configuration: this is their first fault
VolumeCause before after (Refused (Config line code)) = IsReadWhole 0 before after × IfTold (before 0).left (λ bytes. IsFault bytes line code)
-- ports 0 and 1 were read, and the bytes of port 1 spell no volume of the table: this is their first fault
VolumeCause before after (Refused (Volume port offset code)) =
    (port ≡ 1) × (k : ConfigText) × ConfigRead before after k × IsReadWhole 1 before after × IfTold (before 1).left (λ bytes. IsVolumeFault k.table bytes offset code)
VolumeCause before after NoMemory = Unit {0}
VolumeCause before after _ = ⊥

-- no port from this one on has changed
abbrev pub UntouchedFrom : ℕ → Ports → Ports → Type 0
UntouchedFrom first before after = (p : ℕ) → first ≤ p → after p ≡ before p

-- Nothing was pushed but to port 1, nothing was pulled but from port 0, and no port behind them has changed.
pub record OnlyPort1Pushed (before after : Ports) : Type 0 where
  pub unpushed : IsUnpushed (before 0) (after 0)
  pub left : (after 1).left ≡ (before 1).left
  pub pulls : (after 1).pulls ≡ (before 1).pulls
  pub others : UntouchedFrom 2 before after
