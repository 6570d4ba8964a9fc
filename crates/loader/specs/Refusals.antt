-- Which refusals of volumes are right.
use Rattle.std.specs.Prelude.{Result, Ok, Err}
use Rattle.config_text.specs.declared.config.Config.{Config as ConfigText}
use Rattle.loader.specs.declared.loading.LoadError.{LoadError}
use Rattle.loader.specs.declared.loading.LoadError.TheVariants as error
use Rattle.loader.specs.Records.{Volumes, Loads, IsLoadFault}

-- A machine or no memory only where no record is at fault, and a fault only where it is that of the first one at fault, with
-- its least code.
abbrev pub IsRefusedRightly : {M : Type 0} → ConfigText → Volumes → Result M LoadError → Type 0
IsRefusedRightly k vs (Ok m) = Loads k vs
IsRefusedRightly k vs (Err (error.Fault volume item code)) = IsLoadFault k vs volume item code
IsRefusedRightly k vs (Err error.NoMemory) = Loads k vs
