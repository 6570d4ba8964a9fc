-- Which inputs of a command are valid, before it is called. Only a host that tells the bytes left has one.
use Rattle.std.specs.Prelude.{◌≡◌, ◌≤◌, ℕ, List, length, Option, Some}
use Rattle.std.specs.List.{AllByRecursion}
use Rattle.class_model.specs.Config.{SegRecord}
use Rattle.command_input.specs.Input.{Ports, AreNamedBelow, IsAmong, limit}
use Rattle.config_text.specs.declared.config.Config.{Config as ConfigText}
use Rattle.config_text.specs.Text.{Spells}
use Rattle.host_ports.specs.Ports.{Rose}
use Rattle.labels.specs.Label.{ClassEntry}
use Rattle.loader.specs.Records.{Volumes, Loads, numbers_of}
use Rattle.volume_image.specs.Volumes.{Spells as SpellsVolume}

-- No count of the host rose in the call.
pub record NoneRose (before after : Ports) : Type 0 where
  pub pulls : (p : ℕ) → ¬ Rose (before p).pulls (after p).pulls
  pub pushes : (p : ℕ) → ¬ Rose (before p).pushes (after p).pushes

-- The bytes left at the port are within its limit, and this holds of them.
pub record HasLeft (p : ℕ) (before : Ports) (P : List ℕ → Type 0) : Type 0 where
  pub bytes : List ℕ
  pub told : (before p).left ≡ Some bytes
  pub within : length bytes ≤ limit p
  pub holds : P bytes

-- The bytes left at port 0 spell the configuration.
abbrev pub HasConfig : Ports → ConfigText → Type 0
HasConfig before k = HasLeft 0 before (λ bytes. Spells bytes k)

-- The bytes left at the port spell the volume of the table.
abbrev pub HasVolume : List ClassEntry → ℕ → Ports → List SegRecord → Type 0
HasVolume table p before v = HasLeft p before (λ bytes. SpellsVolume table bytes v)

-- The valid input of a command: port 0 has the configuration, with the class that the command asks for. Each port that a class
-- names has a volume of the configuration's table, these are the volumes, in the order of their ports, and no record of them is
-- at fault.
pub record IsValidInput (wanted : Option ℕ) (before : Ports) (k : ConfigText) (vs : Volumes) : Type 0 where
  pub config : HasConfig before k
  pub among : IsAmong wanted k
  pub volumes : AllByRecursion (λ (v : ℕ × List SegRecord). HasVolume k.table v.0 before v.1) vs
  pub numbers : AreNamedBelow 5 k (numbers_of vs)
  pub loads : Loads k vs
