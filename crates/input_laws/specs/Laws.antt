-- What holds of a command that is given a valid input.
use Rattle.std.specs.Prelude.{◌≡◌, ℕ, List, Option, Some}
use Rattle.command_input.specs.declared.status.Status.{Status}
use Rattle.command_input.specs.declared.status.Status.TheVariants.{NoMemory}
use Rattle.command_input.specs.Answer.{ConfigFails, InputFails}
use Rattle.command_input.specs.Input.{Ports, ReadsBelow, InputRead, IsAmong}
use Rattle.config_text.specs.declared.config.Config.{Config as ConfigText}
use Rattle.host_ports.specs.Calm.{Calm, calm_port}
use Rattle.loader.specs.Records.{Volumes}
use Rattle.input_laws.specs.Valid.{NoneRose, HasConfig, IsValidInput}

-- A valid input is read where no count rises, unless memory runs out.
abbrev pub ValidInputIsRead : Type 0
ValidInputIsRead = (wanted : Option ℕ) (before after : Ports) (k : ConfigText) (vs : Volumes) (status : Status) →
    IsValidInput wanted before k vs → NoneRose before after → InputFails wanted before after status → status ≡ NoMemory

-- So is a configuration by itself.
abbrev pub ConfigIsRead : Type 0
ConfigIsRead = (before after : Ports) (k : ConfigText) (status : Status) → HasConfig before k → NoneRose before after → ConfigFails before after status → status ≡ NoMemory

-- Whatever is read of a valid input is that input.
abbrev pub ReadsTheInput : Type 0
ReadsTheInput = (wanted : Option ℕ) (before after : Ports) (k l : ConfigText) (vs ws : Volumes) → IsValidInput wanted before k vs → ReadsBelow 5 before after l ws → (l ≡ k) × (ws ≡ vs)

-- Ports have one valid input at most, whichever class is asked for.
abbrev pub HasOneInput : Type 0
HasOneInput = (wanted other : Option ℕ) (before : Ports) (k l : ConfigText) (vs ws : Volumes) → IsValidInput wanted before k vs → IsValidInput other before l ws → (l ≡ k) × (ws ≡ vs)

-- Whatever is read, whole and without a fault, is a valid input, where the host tells the bytes that it has left. So the premise of the
-- other laws is met by each input that a command carries out.
abbrev pub WhatIsReadIsValid : Type 0
WhatIsReadIsValid = (wanted : Option ℕ) (before after : Ports) (k : ConfigText) (vs : Volumes) (bytes : ℕ → List ℕ) → ((p : ℕ) → (before p).left ≡ Some (bytes p)) →
    IsAmong wanted k → InputRead before after k vs → IsValidInput wanted before k vs

-- Over a calm host no count rises in any call.
abbrev pub CalmNeverRises : Type 0
CalmNeverRises = (old new : Calm) → NoneRose (calm_port old) (calm_port new)
