-- The input of a command: what the ports' bytes spell, and how far they were read. Where a sentence speaks of bytes left, it
-- holds for a host that tells them.
use Rattle.std.specs.Prelude.{◌≡◌, ◌≢◌, ◌<◌, ◌≤◌, ◌+◌, ◌⊎◌, ℕ, zero, suc, List, [], length, drop, Contains, Option, Some, None}
use Rattle.std.specs.List.{AllByRecursion}
use Rattle.host_ports.specs.Ports.{Port, Told, Rose, IsPrefixPulled, PullKeeps}
use Rattle.labels.specs.Label.{ClassEntry}
use Rattle.script_asm.specs.Spelling.{max_text}
use Rattle.config_text.specs.declared.config.Config.{Config as ConfigText}
use Rattle.config_text.specs.Text.{Spells}
use Rattle.config_text.specs.Valid.{IsValid}
use Rattle.class_model.specs.Config.{Config, SegRecord}
use Rattle.volume_image.specs.Volumes.{Spells as SpellsVolume, max_image}
use Rattle.loader.specs.Configuration.{configuration}
use Rattle.loader.specs.Records.{Volumes, AreVolumes, Ascend, Loads, named_by, numbers_of, records_of}

-- the ports of a host
abbrev pub Ports : Type 0
Ports = ℕ → Port

-- what holds of the bytes that a host tells
abbrev pub IfTold : Told → (List ℕ → Type 0) → Type 0
IfTold None P = Unit {0}
IfTold (Some bytes) P = P bytes

-- the most bytes that a port may have: a configuration at port 0, a volume at any other
abbrev pub limit : ℕ → ℕ
limit zero = max_text
limit (suc p) = max_image

-- no port has changed
abbrev pub Untouched : Ports → Ports → Type 0
Untouched before after = (p : ℕ) → after p ≡ before p

-- no port has taken a byte, or failed to
pub record NothingPushed (before after : Ports) : Type 0 where
  pub taken : (p : ℕ) → (after p).taken ≡ (before p).taken
  pub pushes : (p : ℕ) → (after p).pushes ≡ (before p).pushes

-- no call of a port has failed
pub record NoneFailed (before after : Ports) : Type 0 where
  pub pulls : (p : ℕ) → (after p).pulls ≡ (before p).pulls
  pub pushes : (p : ℕ) → (after p).pushes ≡ (before p).pushes

-- one pull of this port has failed, and no other call of a port
pub record OnePullFailed (port : ℕ) (before after : Ports) : Type 0 where
  pub rose : Rose (before port).pulls (after port).pulls
  pub pulls : (p : ℕ) → p ≢ port → (after p).pulls ≡ (before p).pulls
  pub pushes : (p : ℕ) → (after p).pushes ≡ (before p).pushes

-- one push to this port has failed, and no other call of a port
pub record OnePushFailed (port : ℕ) (before after : Ports) : Type 0 where
  pub rose : Rose (before port).pushes (after port).pushes
  pub pulls : (p : ℕ) → (after p).pulls ≡ (before p).pulls
  pub pushes : (p : ℕ) → p ≢ port → (after p).pushes ≡ (before p).pushes

-- a pull of the port failed, and no more of the bytes that it had left were pulled than its limit
pub record BrokeOff (most : ℕ) (before after : Port) : Type 0 where
  pub rose : Rose before.pulls after.pulls
  pub left : IsPrefixPulled before.left after.left (most + 1)

-- reading the port broke off
abbrev pub IsBrokenOff : ℕ → Ports → Ports → Type 0
IsBrokenOff p before after = BrokeOff (limit p) (before p) (after p)

-- the port has taken no byte, and no push to it has failed
abbrev pub IsUnpushed : Port → Port → Type 0
IsUnpushed before after = (after.taken ≡ before.taken) × (after.pushes ≡ before.pushes)

-- the port had more bytes left than the limit, and one more than the limit was read
abbrev pub IsTooLong : ℕ → Ports → Ports → Type 0
IsTooLong p before after = IfTold (before p).left (λ bytes. (limit p < length bytes) × ((after p).left ≡ Some (drop (limit p + 1) bytes)))

-- all that the port had left was read, and it is within the limit
abbrev pub IsReadWhole : ℕ → Ports → Ports → Type 0
IsReadWhole p before after = IfTold (before p).left (λ bytes. (length bytes ≤ limit p) × ((after p).left ≡ Some []))

-- P holds of the configuration that the bytes left spell
abbrev pub OfConfiguration : Told → (ConfigText → Type 0) → Type 0
OfConfiguration left P = IfTold left (λ bytes. (k : ConfigText) × Spells bytes k × P k)

-- the configuration with its volumes, as the machines' plain data
abbrev pub loaded : ConfigText → Volumes → Config
loaded k vs = configuration k (records_of vs)

-- the volume is what the bytes left at its port spell
abbrev pub IsVolumeLeft : List ClassEntry → Ports → ℕ × List SegRecord → Type 0
IsVolumeLeft table before v = IfTold (before v.0).left (λ bytes. SpellsVolume table bytes v.1)

-- ---- how far the input was read

-- a volume was read from its port
pub record IsAccepted (table : List ClassEntry) (before after : Ports) (v : ℕ × List SegRecord) : Type 0 where
  pub port : 1 ≤ v.0
  pub left : IsVolumeLeft table before v
  pub whole : IsReadWhole v.0 before after

-- the numbers are just those below n of the volumes that the configuration names
pub record AreNamedBelow (n : ℕ) (k : ConfigText) (numbers : List ℕ) : Type 0 where
  pub ascend : Ascend 0 numbers
  pub named : (p : ℕ) → Contains numbers p → (p < n) × Contains (named_by k) p
  pub all : (p : ℕ) → 1 ≤ p → p < n → Contains (named_by k) p → Contains numbers p

-- Port 0 and the ports below n that the configuration names were read to their end, and spell the configuration and these
-- volumes.
pub record ReadsBelow (n : ℕ) (before after : Ports) (k : ConfigText) (vs : Volumes) : Type 0 where
  pub config : IfTold (before 0).left (λ bytes. Spells bytes k)
  pub whole : IsReadWhole 0 before after
  pub volumes : AllByRecursion (IsAccepted k.table before after) vs
  pub numbers : AreNamedBelow n k (numbers_of vs)

-- the whole input was read, and no record is at fault
pub record InputRead (before after : Ports) (k : ConfigText) (vs : Volumes) : Type 0 where
  pub reads : ReadsBelow 5 before after k vs
  pub valid : AreVolumes k vs
  pub loads : Loads k vs

-- ---- what a command asks of it

-- the class that the command asks for, where it asks for one, is a class of the configuration
abbrev pub IsAmong : Option ℕ → ConfigText → Type 0
IsAmong None k = Unit {0}
IsAmong (Some class) k = class < length k.table

-- Port p is the next one to be read: one that the configuration names, where port 0 and those before it were read.
abbrev pub IsNext : ℕ → Ports → Ports → (ConfigText → Type 0) → Type 0
IsNext p before after P = (k : ConfigText) × (vs : Volumes) × (1 ≤ p) × (p < 5) × Contains (named_by k) p × ReadsBelow p before after k vs × P k

-- It is the turn of port p: of port 0, which is the first one to be read, or of the next one.
abbrev pub IsTurnOf : Option ℕ → ℕ → Ports → Ports → Type 0
IsTurnOf wanted p before after = (p ≡ 0) ⊎ IsNext p before after (IsAmong wanted)

-- ---- what has been read

-- Port 0 was read whole, and the bytes that it had left spell this configuration.
pub record ConfigHad (before after : Ports) (k : ConfigText) : Type 0 where
  pub told : IfTold (before 0).left (λ bytes. Spells bytes k)
  pub valid : IsValid k
  pub whole : IsReadWhole 0 before after
  pub keeps : PullKeeps 0 before after
  pub stays : (after 0).pulls ≡ (before 0).pulls

-- Port 0 and then the ports of the volumes that it names were read whole, and spell this configuration and these volumes.
-- Nothing was pushed, no call failed, and no other port has changed.
pub record InputHad (wanted : Option ℕ) (before after : Ports) (k : ConfigText) (vs : Volumes) : Type 0 where
  pub valid : IsValid k
  pub among : IsAmong wanted k
  pub volumes : AreVolumes k vs
  pub reads : ReadsBelow 5 before after k vs
  pub silent : NothingPushed before after
  pub none : NoneFailed before after
  pub others : (p : ℕ) → p ≢ 0 → ¬ Contains (named_by k) p → after p ≡ before p
