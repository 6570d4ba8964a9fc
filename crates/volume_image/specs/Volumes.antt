-- Which bytes spell a volume, and what is answered to bytes.
use Rattle.std.specs.Prelude.{◌≡◌, ℕ, ◌+◌, ◌-◌, List, length, Result, Ok, Err}
use Rattle.labels.specs.Label.{ClassEntry}
use Rattle.class_model.specs.Config.{SegRecord}
use Rattle.volume_image.specs.declared.head.Format.{Format}
use Rattle.volume_image.specs.declared.fault.Code.{Code}
use Rattle.volume_image.specs.declared.fault.Code.TheVariants as code
use Rattle.volume_image.specs.declared.fault.Stop.{Stop}
use Rattle.volume_image.specs.declared.fault.Stop.TheVariants as stop
use Rattle.volume_image.specs.declared.fault.VolumeError.{VolumeError}
use Rattle.volume_image.specs.declared.fault.VolumeError.TheVariants as error
use Rattle.volume_image.specs.Valid.{IsVolumeOf}
use Rattle.volume_image.specs.Written.{spelling}
use Rattle.volume_image.specs.Fields.{volume_at}

-- the most bytes of a volume
abbrev pub max_image : ℕ
max_image = 4194304

-- the number of a code
abbrev pub code_number : Code → ℕ
code_number code.Short = 1
code_number code.Magic = 2
code_number code.Format = 3
code_number code.Zero = 4
code_number code.Classes = 5
code_number code.Level = 6
code_number code.Label = 7
code_number code.Order = 8
code_number code.Range = 9
code_number code.Mentor = 10
code_number code.Class = 11
code_number code.Behind = 12
code_number code.Name = 13

-- The bytes spell the volume: in one of the formats, which can spell it, they are its spelling.
abbrev pub Spells : List ClassEntry → List ℕ → List SegRecord → Type 0
Spells table bytes rs = (f : Format) × IsVolumeOf f table rs × (bytes ≡ spelling f table rs)

-- The first field at fault begins at this place and has the code of this number.
abbrev pub IsFault : List ClassEntry → List ℕ → ℕ → ℕ → Type 0
IsFault table bytes offset n =
    (left : ℕ) × (c : Code) × (offset + left ≡ length bytes) × (n ≡ code_number c) × (volume_at table bytes ≡ Err (record { left = left; code = c }))

-- Some field is the first one at fault.
abbrev pub HasFault : List ClassEntry → List ℕ → Type 0
HasFault table bytes = (offset : ℕ) × (n : ℕ) × IsFault table bytes offset n

-- what is answered: the volume that the bytes spell, the first fault, or no memory
abbrev pub Answers : List ClassEntry → List ℕ → Result (List SegRecord) VolumeError → Type 0
Answers table bytes (Ok rs) = Spells table bytes rs
Answers table bytes (Err (error.Fault offset n)) = IsFault table bytes offset n
Answers table bytes (Err error.NoMemory) = Unit {0}

-- They are read as this volume, unless memory runs out.
abbrev pub IsReadAs : List SegRecord → Result (List SegRecord) VolumeError → Type 0
IsReadAs rs (Ok v) = v ≡ rs
IsReadAs rs (Err (error.Fault offset n)) = ⊥
IsReadAs rs (Err error.NoMemory) = Unit {0}

-- They are refused with this fault, unless memory runs out.
abbrev pub IsRefusedWith : ℕ → ℕ → Result (List SegRecord) VolumeError → Type 0
IsRefusedWith offset n (Ok v) = ⊥
IsRefusedWith offset n (Err (error.Fault o m)) = (o ≡ offset) × (m ≡ n)
IsRefusedWith offset n (Err error.NoMemory) = Unit {0}

-- ---- what private functions speak of

-- the error where this stopped the reading of so many bytes
abbrev pub error_of : ℕ → Stop → VolumeError
error_of total (stop.Fault left c) = error.Fault (total - left) (code_number c)
error_of total stop.Memory = error.NoMemory
