-- A configuration as plain data, and its part at or below a class.
use Rattle.std.specs.Prelude.{ℕ, Bool, List, [], if◌then◌else◌, map, Option, Some, None, slice_index_or, length}
use Rattle.std.specs.List.{filter, filter_map}
use Rattle.labels.specs.Label.{ClassEntry, at_or_below}
use Rattle.rings.specs.Brackets.{Brackets}
use Rattle.words_layout.specs.declared.segment.SegId.{SegId}
use Rattle.script_lang.specs.declared.instr.Instr.{Instr}
use Rattle.script_lang.specs.declared.instr.Instr.TheVariants.{Halt}

-- the numbers of frames and pages of a class
pub record Pool : Type 0 where
  pub frames : ℕ
  pub pages : ℕ

-- a script: its class and its instructions
pub record Script : Type 0 where
  pub class : ℕ
  pub program : List Instr

-- a gate: its class, its script by place, and its brackets
pub record Gate : Type 0 where
  pub class : ℕ
  pub script : ℕ
  pub brackets : Brackets

-- What no step changes. An empty place is None.
pub record Shared : Type 0 where
  pub table : List ClassEntry
  pub pools : List Pool
  pub console : ℕ
  pub scripts : List (Option Script)
  pub gates : List (Option Gate)

-- a process that there is at the opening
pub record ProcessLine : Type 0 where
  pub processor : ℕ
  pub class : ℕ
  pub script : ℕ
  pub ring : ℕ

-- a record of a volume: a segment, the mentor and entry where it stands, and its words if they were kept
pub record SegRecord : Type 0 where
  pub seg : SegId
  pub class : ℕ
  pub brackets : Brackets
  pub size : ℕ
  pub mentor : SegId
  pub entry : ℕ
  pub kept : Option (List ℕ)

-- The header (classes, pools, the volume of each class, processors, cycle, rounds, quantum, console size), the scripts,
-- gates and processes, and the records of the volumes in the order of loading. The schedule is not among it.
pub record Config : Type 0 where
  pub table : List ClassEntry
  pub pools : List Pool
  pub volumes : List ℕ
  pub processors : ℕ
  pub cycle : List ℕ
  pub rounds : ℕ
  pub quantum : ℕ
  pub console : ℕ
  pub scripts : List (Option Script)
  pub gates : List (Option Gate)
  pub processes : List ProcessLine
  pub records : List SegRecord

-- what of it no step changes
abbrev pub shared_of : Config → Shared
shared_of k = record { table = k.table; pools = k.pools; console = k.console; scripts = k.scripts; gates = k.gates }

-- the number of classes
abbrev pub classes : Shared → ℕ
classes s = length s.table

-- c <= d by the table of the state
abbrev pub flows : Shared → ℕ → ℕ → Bool
flows s c d = at_or_below s.table c d

-- the pool of a class
abbrev pub pool_of : Shared → ℕ → Pool
pool_of s class = slice_index_or s.pools class (record { frames = 0; pages = 0 })

-- the instructions of the script at a place, none where it is empty
abbrev pub program_of : Option Script → List Instr
program_of None = []
program_of (Some script) = script.program

-- the instruction at a place of a script
abbrev pub instr_at : Shared → ℕ → ℕ → Instr
instr_at s script place = slice_index_or (program_of (slice_index_or s.scripts script None)) place Halt

-- what is at or below c: the item, or an empty place
abbrev pub kept_below : {X : Type 0} → (X → ℕ) → (ℕ → Bool) → Option X → Option X
kept_below class low None = None
kept_below class low (Some x) = if low (class x) then Some x else None

-- the scripts and gates at or below c, in their places
abbrev pub low_shared : ℕ → Shared → Shared
low_shared c s = record s {
  scripts = map (kept_below (λ (x : Script). x.class) (λ x. flows s x c)) s.scripts;
  gates = map (kept_below (λ (x : Gate). x.class) (λ x. flows s x c)) s.gates;
}

-- A record's entry has the class of its mentor, and its words have its own class.
abbrev pub low_record : (ℕ → Bool) → SegRecord → Option SegRecord
low_record low r = if low r.seg.mentor then Some (record r { kept = if low r.class then r.kept else None }) else None

-- the part of a configuration at or below c, its header whole
abbrev pub low_config : ℕ → Config → Config
low_config c k = let low : ℕ → Bool = λ x. at_or_below k.table x c in record k {
  scripts = map (kept_below (λ (x : Script). x.class) low) k.scripts;
  gates = map (kept_below (λ (x : Gate). x.class) low) k.gates;
  processes = filter (λ p. low p.class) k.processes;
  records = filter_map (low_record low) k.records;
}
