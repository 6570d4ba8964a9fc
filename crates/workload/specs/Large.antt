-- The large configuration of a number, as plain data: eight classes one above the other, four processors, four processes of each
-- class on each processor, and four million events drawn from the number.
use Rattle.std.specs.Prelude.{ℕ, zero, suc, ◌+◌, ◌&&◌, ◌==◌, List, [], ◌∷◌, ◌++◌, if◌then◌else◌, codes, map, replicate}
use Rattle.std.specs.List.{flat_map}
use Rattle.lists.specs.Lists.{below}
use Rattle.labels.specs.Label.{ClassEntry}
use Rattle.script_lang.specs.declared.instr.Instr.{Instr}
use Rattle.script_lang.specs.declared.instr.Instr.TheVariants.{Halt, Set, Copy, Add, Jump, JumpZ, JumpL, Put, MakeKnown, Create, SwapIn, Fetch, Update, Advance, Ticket, Out}
use Rattle.config_text.specs.declared.config.Config.{Config}
use Rattle.config_text.specs.declared.config.Pool.{Pool}
use Rattle.config_text.specs.declared.config.Script.{Script}
use Rattle.config_text.specs.declared.config.ProcessLine.{ProcessLine}
use Rattle.config_text.specs.declared.config.Item.TheVariants.{Mix}

-- ---- the header

-- class k: its name is c and the digit k, and its label k{}/15{}
abbrev pub large_class : ℕ → ClassEntry
large_class k = record {
  name = codes "c" ++ (48 + k) ∷ [];
  label = record { secrecy_level = k; secrecy_cats = 0; integrity_level = 15; integrity_cats = 0 };
}

-- the classes 0 to 7
abbrev pub large_table : List ClassEntry
large_table = map large_class (below 8)

-- one frame and one page, and no volume
abbrev pub large_pool : Pool
large_pool = record { frames = 1; pages = 1; volume = 0 }

-- ---- the scripts

-- The creator makes, for each class k, a segment of that class in entry k of the root. Its loop begins at place 4.
abbrev pub creator : List Instr
creator = Set 5 8 ∷ Set 6 511 ∷ Set 7 4 ∷ Set 3 1 ∷ Create 2 4 4 6 7 ∷ Add 4 3 ∷ JumpL 4 5 4 ∷ Halt ∷ []

-- A worker of class k looks, from place 5 on, until entry k of the root is there, and swaps its segment in.
abbrev pub finding : ℕ → List Instr
finding k = Set 4 k ∷ Set 6 3 ∷ Set 7 4 ∷ Set 9 20 ∷ Set 10 1 ∷ MakeKnown 2 4 6 ∷ JumpZ 0 8 ∷ Jump 5 ∷ Copy 5 1 ∷ SwapIn 5 ∷ []

-- Then, twenty times, it draws a ticket, writes it with three words more into the segment, and signals; at last it prints how
-- often. Class 0 does so from place 10 on. A class above it first makes the segment of the class below it known, to observe it
-- alone, and from place 13 on fetches from it each time.
abbrev pub working : ℕ → List Instr
working zero = Ticket 5 ∷ Put 1 2 ∷ Update 5 2 7 2 ∷ Advance 5 ∷ Add 11 10 ∷ JumpL 11 9 10 ∷ Out 11 ∷ Halt ∷ []
working (suc j) =
    Set 12 j ∷ MakeKnown 2 12 10 ∷ Copy 13 1 ∷
    Ticket 5 ∷ Put 1 2 ∷ Update 5 2 7 2 ∷ Fetch 13 2 7 2 ∷ Advance 5 ∷ Add 11 10 ∷ JumpL 11 9 13 ∷ Out 11 ∷ Halt ∷ []

-- the worker of class k
abbrev pub worker : ℕ → Script
worker k = record { class = k; program = finding k ++ working k }

-- script 0 is the creator, and script k + 1 the worker of class k
abbrev pub large_scripts : List Script
large_scripts = record { class = 0; program = creator } ∷ map worker (below 8)

-- ---- the processes

-- the process of class k that stands in this slot of a processor: the very first has the creator, every other one its class's worker
abbrev pub large_process : ℕ → ℕ → ℕ → ProcessLine
large_process processor k slot = record {
  processor = processor;
  class = k;
  script = if processor == 0 && k == 0 && slot == 0 then 0 else k + 1;
  ring = 4;
}

-- by processor and then class, four each
abbrev pub large_processes : List ProcessLine
large_processes = flat_map (λ processor. flat_map (λ k. map (large_process processor k) (below 4)) (below 8)) (below 4)

-- ---- the whole

-- the large configuration of a number
unfoldable pub large_config : ℕ → Config
large_config number = record {
  table = large_table;
  pools = replicate 8 large_pool;
  processors = 4;
  cycle = below 8;
  rounds = 1;
  quantum = 1;
  console = 4096;
  scripts = large_scripts;
  gates = [];
  processes = large_processes;
  schedule = Mix number 4000000 ∷ [];
}
