-- What of a configuration is seen: all of it, or its part at or below a class.
use Rattle.std.specs.Prelude.{ℕ, ◌<◌, Bool, true, List, length, if◌then◌else◌, Option, Some, None, IfSome}
use Rattle.labels.specs.Label.{ClassEntry, at_or_below}
use Rattle.config_text.specs.declared.config.Script.{Script as ScriptText}
use Rattle.config_text.specs.declared.config.GateLine.{GateLine}
use Rattle.class_model.specs.Config.{Config, Script, Gate, SegRecord, low_config, kept_below}
use Rattle.loader.specs.Configuration.{script_of_text, gate_of_text}

-- all of it, or its part at or below a class
abbrev pub seen : Config → Option ℕ → Config
seen k None = k
seen k (Some c) = low_config c k

-- the class of a view, if it has one, is in the table
abbrev pub IsView : List ClassEntry → Option ℕ → Type 0
IsView table view = IfSome view (λ c. c < length table)

-- ---- what private functions speak of

-- what is of class d is seen
abbrev pub sees : List ClassEntry → Option ℕ → ℕ → Bool
sees table None d = true
sees table (Some c) d = at_or_below table d c

-- a script, in its place
abbrev pub script_seen : List ClassEntry → Option ℕ → ScriptText → Option Script
script_seen table view x = kept_below (λ (y : Script). y.class) (sees table view) (Some (script_of_text x))

-- a gate, in its place
abbrev pub gate_seen : List ClassEntry → Option ℕ → GateLine → Option Gate
gate_seen table view g = kept_below (λ (y : Gate). y.class) (sees table view) (Some (gate_of_text g))

-- the kept words of a record
abbrev pub kept_seen : List ClassEntry → Option ℕ → SegRecord → Option (List ℕ)
kept_seen table view r = if sees table view r.class then r.kept else None

-- both classes of a record, its mentor's and its own, are in the table
pub record HasClasses (table : List ClassEntry) (r : SegRecord) : Type 0 where
  pub mentor : r.seg.mentor < length table
  pub class : r.class < length table
