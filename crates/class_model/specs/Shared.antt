-- What holds of all that no step changes.
use Rattle.std.specs.Prelude.{ℕ, ◌≡◌, ◌≤◌, ◌<◌, Bool, true, false, Option, Some, None, length, slice_index_or}
use Rattle.std.specs.Option.{option_map_or}
use Rattle.script_lang.specs.Program.{program_ok}
use Rattle.class_model.specs.Config.{Shared, Script, Gate, classes, flows, pool_of}

-- the script at a place, if there is one
abbrev pub script_at : Shared → ℕ → Option Script
script_at s place = slice_index_or s.scripts place None

-- the gate at a place, if there is one
abbrev pub gate_at : Shared → ℕ → Option Gate
gate_at s place = slice_index_or s.gates place None

-- a script is there, and its class is at or below d
abbrev pub has_script : Shared → ℕ → ℕ → Bool
has_script s d place = option_map_or (λ (x : Script). flows s x.class d) (script_at s place) false

-- likewise, with the script
pub record UsesScript (s : Shared) (d place : ℕ) : Type 0 where
  pub script : Script
  pub there : script_at s place ≡ Some script
  pub flows_up : flows s script.class d ≡ true

-- its class is in the table, and its instructions are a program
pub record IsScript (s : Shared) (x : Script) : Type 0 where
  pub class : x.class < classes s
  pub program : program_ok x.program ≡ true

-- its class is in the table, its script there and at or below it
pub record IsGate (s : Shared) (x : Gate) : Type 0 where
  pub class : x.class < classes s
  pub script : UsesScript s x.class x.script

-- One pool for each class, all within the limits; classes of the table alone; each gate's script there and at or below it.
pub record IsShared (s : Shared) : Type 0 where
  pub pools : length s.pools ≡ classes s
  pub frames : (c : ℕ) → (pool_of s c).frames ≤ 16
  pub pages : (c : ℕ) → (pool_of s c).pages ≤ 32
  pub console : s.console ≤ 4096
  pub scripts : length s.scripts ≤ 32
  pub gates : length s.gates ≤ 32
  pub script : (place : ℕ) (x : Script) → script_at s place ≡ Some x → IsScript s x
  pub gate : (place : ℕ) (x : Gate) → gate_at s place ≡ Some x → IsGate s x
