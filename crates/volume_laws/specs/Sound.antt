-- What more the laws of volumes say.
use Rattle.std.specs.Prelude.{ℕ, ◌<◌, ◌^◌, List, IfSome, length}
use Rattle.std.specs.List.{AllByRecursion}
use Rattle.script_lang.specs.declared.instr.Instr.{Instr}
use Rattle.script_lang.specs.declared.instr.Instr.TheVariants as I
use Rattle.class_model.specs.Config.{Config, SegRecord, Script}
use Rattle.class_model.specs.Process.{ProcName}
use Rattle.class_model.specs.Run.{run}
use Rattle.class_model.specs.Valid.{IsConfig}
use Rattle.class_model.specs.Volume.{volume}
use Rattle.volume_image.specs.Valid.{IsVolume}

-- the constant of an instruction is of 64 bits
abbrev pub InstrSmall : Instr → Type 0
InstrSmall (I.Set a n) = n < 2 ^ 64
InstrSmall _ = Unit {0}

-- the kept words of records are of 64 bits
abbrev pub KeepsWords : Config → Type 0
KeepsWords k = AllByRecursion (λ (r : SegRecord). IfSome r.kept (AllByRecursion (λ w. w < 2 ^ 64))) k.records

-- the constants of instructions are of 64 bits
abbrev pub SetsWords : Config → Type 0
SetsWords k = AllByRecursion (λ o. IfSome o (λ (x : Script). AllByRecursion InstrSmall x.program)) k.scripts

-- both are so
pub record HasWords (k : Config) : Type 0 where
  pub kept : KeepsWords k
  pub constants : SetsWords k

-- the volumes that fewer than 2^64 steps of a valid configuration leave are valid, where P holds of it
abbrev pub LeavesVolumes : (Config → Type 0) → Type 0
LeavesVolumes P = (k : Config) (names : List ProcName) (v : ℕ) → IsConfig k → P k → length names < 2 ^ 64 → IsVolume k.table (volume k v (run k names))

-- After fewer than 2^64 steps of a valid configuration of words of 64 bits the records of each volume are those of a valid volume.
abbrev pub VolumesAreValid : Type 0
VolumesAreValid = LeavesVolumes HasWords

-- Neither part of HasWords is enough by itself.
pub record BothAreNeeded : Type 0 where
  pub kept : LeavesVolumes SetsWords → ⊥
  pub constants : LeavesVolumes KeepsWords → ⊥
