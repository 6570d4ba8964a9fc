-- What is put into a state of the machine of whole instructions, one after the other.
use Rattle.std.specs.Prelude.{ℕ, ◌≡◌, ◌<◌, true, List, [], map}
use Rattle.rings.specs.Brackets.{in_order}
use Rattle.config_text.specs.declared.config.Config.{Config as ConfigText}
use Rattle.config_text.specs.declared.config.ProcessLine.{ProcessLine as ProcessText}
use Rattle.class_model.specs.Config.{Config, SegRecord, low_config}
use Rattle.class_model.specs.Process.{ProcName}
use Rattle.loader.specs.Configuration.{configuration, process_of_text}
use Rattle.whole_machine.specs.Building.{name_after}

-- a record that may be put where there are n classes
pub record IsPut (n : ℕ) (r : SegRecord) : Type 0 where
  pub mentor : r.seg.mentor < n
  pub class : r.class < n
  pub serial : r.seg.serial < 64
  pub entry : r.entry < 8
  pub ordered : in_order r.brackets ≡ true

-- the name of the process of a line that follows these
abbrev pub name_of : List ProcessText → ProcessText → ProcName
name_of front line = name_after (map process_of_text front) (process_of_text line)

-- what is at or below a class of a configuration without its records
abbrev pub low_of : ConfigText → ℕ → Config
low_of k c = low_config c (configuration k [])
