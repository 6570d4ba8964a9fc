-- The plain data that a configuration's text stands for, for the machines and their events.
use Rattle.std.specs.Prelude.{List, map, Some}
use Rattle.config_text.specs.declared.config.Config.{Config as ConfigText}
use Rattle.config_text.specs.declared.config.Pool.{Pool as PoolText}
use Rattle.config_text.specs.declared.config.Script.{Script as ScriptText}
use Rattle.config_text.specs.declared.config.GateLine.{GateLine}
use Rattle.config_text.specs.declared.config.ProcessLine.{ProcessLine as ProcessText}
use Rattle.class_model.specs.Config.{Config, Pool, Script, Gate, ProcessLine, SegRecord}

-- the pools of a class, without its volume
abbrev pub pool_of_text : PoolText → Pool
pool_of_text p = record { frames = p.frames; pages = p.pages }

-- a script
abbrev pub script_of_text : ScriptText → Script
script_of_text x = record { class = x.class; program = x.program }

-- a gate
abbrev pub gate_of_text : GateLine → Gate
gate_of_text g = record { class = g.class; script = g.script; brackets = g.brackets }

-- a process
abbrev pub process_of_text : ProcessText → ProcessLine
process_of_text p = record { processor = p.processor; class = p.class; script = p.script; ring = p.ring }

-- the configuration with the records of its volumes, in the order of loading
abbrev pub configuration : ConfigText → List SegRecord → Config
configuration k records = record {
  table = k.table;
  pools = map pool_of_text k.pools;
  volumes = map (λ (p : PoolText). p.volume) k.pools;
  processors = k.processors;
  cycle = k.cycle;
  rounds = k.rounds;
  quantum = k.quantum;
  console = k.console;
  scripts = map (λ x. Some (script_of_text x)) k.scripts;
  gates = map (λ g. Some (gate_of_text g)) k.gates;
  processes = map process_of_text k.processes;
  records = records;
}
