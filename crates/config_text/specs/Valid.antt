-- Which configurations are valid: ranges and limits.
use Rattle.std.specs.Prelude.{ℕ, ◌≡◌, ◌*◌, ◌<◌, ◌≤◌, Bool, true, false, not, ◌&&◌, List, [], ◌∷◌, ◌==◌, nat_le, nat_lt, length, count_by, IsTrue, slice_get}
use Rattle.std.specs.List.{list_all, sum_by}
use Rattle.std.specs.Option.{option_map_or}
use Rattle.text_lines.specs.Name.{is_name}
use Rattle.labels.specs.Label.{class_at, at_or_below}
use Rattle.labels.specs.Table.{IsTable}
use Rattle.rings.specs.Brackets.{in_order}
use Rattle.words_layout.specs.Sizes.{max_events, most_frames, most_pages}
use Rattle.script_lang.specs.Program.{program_ok}
use Rattle.script_lang.specs.declared.instr.Instr.{Instr}
use Rattle.script_lang.specs.declared.instr.Instr.TheVariants as I
use Rattle.config_text.specs.declared.config.Pool.{Pool}
use Rattle.config_text.specs.declared.config.Script.{Script}
use Rattle.config_text.specs.declared.config.GateLine.{GateLine}
use Rattle.config_text.specs.declared.config.ProcessLine.{ProcessLine}
use Rattle.config_text.specs.declared.config.Item.{Item}
use Rattle.config_text.specs.declared.config.Item.TheVariants as item
use Rattle.config_text.specs.declared.config.Config.{Config}

-- a number from low to high
abbrev pub within : ℕ → ℕ → ℕ → Bool
within low high n = nat_le low n && nat_le n high

-- the class is in the table
abbrev pub is_class : Config → ℕ → Bool
is_class k c = nat_lt c (length k.table)

-- the frames and pages that the layout has, and volume 4 at most
abbrev pub pool_ok : Pool → Bool
pool_ok p = nat_le p.frames most_frames && nat_le p.pages most_pages && nat_le p.volume 4

-- one pool for each class
abbrev pub pools_ok : Config → Bool
pools_ok k = length k.pools == length k.table && list_all pool_ok k.pools

-- the numbers of the header
abbrev pub header_ok : Config → Bool
header_ok k = within 1 4 k.processors && within 1 4096 k.rounds && within 1 256 k.quantum && nat_le k.console 4096

-- 1 to 16 classes
abbrev pub cycle_ok : Config → Bool
cycle_ok k = within 1 16 (length k.cycle) && list_all (is_class k) k.cycle

-- the numbers are those of registers
abbrev pub are_registers : List ℕ → Bool
are_registers numbers = list_all (λ n. nat_lt n 16) numbers

-- registers, places of scripts and gates, and the number of `set` are within their ranges; targets are in `program_ok`
abbrev pub instr_ok : Instr → Bool
instr_ok I.Halt = true
instr_ok (I.Set a n) = are_registers (a ∷ []) && nat_lt n 18446744073709551616
instr_ok (I.Copy a b) = are_registers (a ∷ b ∷ [])
instr_ok (I.Add a b) = are_registers (a ∷ b ∷ [])
instr_ok (I.Sub a b) = are_registers (a ∷ b ∷ [])
instr_ok (I.Jump to) = true
instr_ok (I.JumpZ a to) = are_registers (a ∷ [])
instr_ok (I.JumpL a b to) = are_registers (a ∷ b ∷ [])
instr_ok (I.Get a b) = are_registers (a ∷ b ∷ [])
instr_ok (I.Put a b) = are_registers (a ∷ b ∷ [])
instr_ok (I.Call g) = nat_lt g 32
instr_ok I.Ret = true
instr_ok (I.Spawn s b) = nat_lt s 32 && are_registers (b ∷ [])
instr_ok (I.MakeKnown a b c) = are_registers (a ∷ b ∷ c ∷ [])
instr_ok (I.Terminate a) = are_registers (a ∷ [])
instr_ok (I.Create a b c d e) = are_registers (a ∷ b ∷ c ∷ d ∷ e ∷ [])
instr_ok (I.Delete a b) = are_registers (a ∷ b ∷ [])
instr_ok (I.SwapIn a) = are_registers (a ∷ [])
instr_ok (I.SwapOut a) = are_registers (a ∷ [])
instr_ok (I.Fetch a b c d) = are_registers (a ∷ b ∷ c ∷ d ∷ [])
instr_ok (I.Update a b c d) = are_registers (a ∷ b ∷ c ∷ d ∷ [])
instr_ok (I.Read a) = are_registers (a ∷ [])
instr_ok (I.Await a b) = are_registers (a ∷ b ∷ [])
instr_ok (I.Advance a) = are_registers (a ∷ [])
instr_ok (I.Ticket a) = are_registers (a ∷ [])
instr_ok (I.Out a) = are_registers (a ∷ [])

-- a script of a class of the table, that is a program with operands in range
abbrev pub script_ok : Config → Script → Bool
script_ok k s = is_class k s.class && program_ok s.program && list_all instr_ok s.program

-- the script is there, and its class is at or below class d
abbrev pub uses_script : Config → ℕ → ℕ → Bool
uses_script k d n = option_map_or (λ (s : Script). is_class k s.class && at_or_below k.table s.class d) (slice_get k.scripts n) false

-- a gate of a class of the table, with a script that it may use and brackets in order
abbrev pub gate_ok : Config → GateLine → Bool
gate_ok k g = is_class k g.class && uses_script k g.class g.script && in_order g.brackets

-- a process of a processor and class that there are, in a ring, with a script that it may use
abbrev pub process_ok : Config → ProcessLine → Bool
process_ok k p = nat_lt p.processor k.processors && is_class k p.class && nat_le p.ring 7 && uses_script k p.class p.script

-- how many processes a processor has of a class
abbrev pub processes_of : Config → ℕ → ℕ → ℕ
processes_of k p c = count_by (λ (x : ProcessLine). x.processor == p && x.class == c) k.processes

-- how many events an item stands for
abbrev pub events_of : Config → Item → ℕ
events_of k (item.Events p c n) = n
events_of k (item.Mix x n) = n
events_of k (item.Sweep n) = n * k.quantum * k.processors

-- an item of a processor and class that there are, with 1 to 4,194,304 events or rounds
abbrev pub item_ok : Config → Item → Bool
item_ok k (item.Events p c n) = nat_lt p k.processors && is_class k c && within 1 max_events n
item_ok k (item.Mix x n) = nat_lt x 18446744073709551616 && within 1 max_events n
item_ok k (item.Sweep n) = within 1 max_events n

-- a valid configuration
pub record IsValid (k : Config) : Type 0 where
  -- 1 to 16 classes with different names and labels, each label at or above that of class 0
  pub table : IsTable k.table
  pub names : (c : ℕ) → c < length k.table → is_name (class_at k.table c).name ≡ true
  pub pools : pools_ok k ≡ true
  pub header : header_ok k ≡ true
  pub cycle : cycle_ok k ≡ true
  pub few_scripts : length k.scripts ≤ 32
  pub scripts : list_all (script_ok k) k.scripts ≡ true
  pub few_gates : length k.gates ≤ 32
  pub gates : list_all (gate_ok k) k.gates ≡ true
  pub processes : list_all (process_ok k) k.processes ≡ true
  -- at most four processes of a class on a processor
  pub few_processes : (p c : ℕ) → p < k.processors → c < length k.table → processes_of k p c ≤ 4
  pub items : list_all (item_ok k) k.schedule ≡ true
  pub few_events : sum_by (events_of k) k.schedule ≤ max_events
