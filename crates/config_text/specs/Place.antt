-- What the lines so far say.
use Rattle.std.specs.Prelude.{ℕ, List, [], Option, None}
use Rattle.std.specs.Prelude.{map}
use Rattle.labels.specs.Label.{ClassEntry}
use Rattle.labels.specs.Table.{entry_of}
use Rattle.script_asm.specs.Script.{Place as ScriptPlace}
use Rattle.config_text.specs.declared.config.Pool.{Pool}
use Rattle.config_text.specs.declared.config.Script.{Script}
use Rattle.config_text.specs.declared.config.GateLine.{GateLine}
use Rattle.config_text.specs.declared.config.ProcessLine.{ProcessLine}
use Rattle.config_text.specs.declared.config.Item.{Item}
use Rattle.config_text.specs.declared.config.Config.{Config}
use Rattle.config_text.specs.declared.stage.Stage.{Stage}
use Rattle.config_text.specs.declared.stage.Stage.TheVariants as stage
use Rattle.config_text.specs.declared.draft.Draft.{Draft}

-- a script that has begun and not ended
pub record Inside : Type 0 where
  -- the script's class
  pub class : ℕ
  -- the words of all its lines
  pub all : List (List (List ℕ))
  -- what its lines so far say
  pub place : ScriptPlace

-- what the lines so far say, and which line comes next
pub record Place : Type 0 where
  -- which line comes next
  pub stage : Stage
  -- how many class lines are still to come
  pub due : ℕ
  pub table : List ClassEntry
  pub pools : List Pool
  pub processors : ℕ
  pub cycle : List ℕ
  pub rounds : ℕ
  pub quantum : ℕ
  pub console : ℕ
  pub scripts : List Script
  pub gates : List GateLine
  pub processes : List ProcessLine
  pub schedule : List Item
  -- the events of the schedule so far
  pub used : ℕ
  -- the script that has begun
  pub inside : Option Inside

-- a draft without where it lies in memory; it stands at no script's line
abbrev pub place_of : Draft → Place
place_of d = record {
  stage = d.stage;
  due = d.due;
  table = map entry_of d.entries.items;
  pools = d.pools.items;
  processors = d.processors;
  cycle = d.cycle.items;
  rounds = d.rounds;
  quantum = d.quantum;
  console = d.console;
  scripts = d.scripts.items;
  gates = d.gates.items;
  processes = d.processes.items;
  schedule = d.schedule.items;
  used = d.used;
  inside = None;
}

-- before the first line
abbrev pub start : Place
start = record {
  stage = stage.Header;
  due = 0;
  table = [];
  pools = [];
  processors = 0;
  cycle = [];
  rounds = 0;
  quantum = 0;
  console = 0;
  scripts = [];
  gates = [];
  processes = [];
  schedule = [];
  used = 0;
  inside = None;
}

-- the configuration that the lines so far say
abbrev pub config_in : Place → Config
config_in p = record {
  table = p.table;
  pools = p.pools;
  processors = p.processors;
  cycle = p.cycle;
  rounds = p.rounds;
  quantum = p.quantum;
  console = p.console;
  scripts = p.scripts;
  gates = p.gates;
  processes = p.processes;
  schedule = p.schedule;
}
