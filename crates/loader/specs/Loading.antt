-- What is loaded for a configuration as a view shows it: the virtual processors of each processor.
use Rattle.std.specs.Prelude.{ℕ, Bool, ◌&&◌, ◌==◌, List, [], if◌then◌else◌, map, length, Option, slice_get}
use Rattle.std.specs.List.{filter}
use Rattle.std.specs.Option.{option_map}
use Rattle.lists.specs.Lists.{below}
use Rattle.config_text.specs.declared.config.Config.{Config as ConfigText}
use Rattle.class_model.specs.Config.{ProcessLine}
use Rattle.process.specs.Standing.{Standing, new_standing}
use Rattle.machine.specs.Processing.{Processing}
use Rattle.loader.specs.Configuration.{process_of_text}
use Rattle.loader.specs.Seen.{sees}

-- a process line is of that processor and class
abbrev pub is_own : ℕ → ℕ → ProcessLine → Bool
is_own p c l = l.processor == p && l.class == c

-- the process of a line, before its first step
abbrev pub standing_of : ℕ → ProcessLine → Standing
standing_of c l = new_standing c l.script l.ring 0

-- four slots, with the processes of these lines in their order
abbrev pub slots_for : ℕ → List ProcessLine → List (Option Standing)
slots_for c lines = map (λ i. option_map (standing_of c) (slice_get lines i)) (below 4)

-- the lines of class c on processor p
abbrev pub own_lines : ConfigText → ℕ → ℕ → List ProcessLine
own_lines k p c = filter (is_own p c) (map process_of_text k.processes)

-- the virtual processor of class c with the processes of these lines
abbrev pub vp_with : ConfigText → ℕ → List ProcessLine → Processing
vp_with k c lines = record { class = c; slots = slots_for c lines; current = 0; lines = []; room = k.console }

-- the virtual processor of class c on processor p with all its processes
abbrev pub whole_vp : ConfigText → ℕ → ℕ → Processing
whole_vp k p c = vp_with k c (own_lines k p c)

-- the lines of class c on processor p that are seen
abbrev pub lines_seen : ConfigText → Option ℕ → ℕ → ℕ → List ProcessLine
lines_seen k view p c = if sees k.table view c then own_lines k p c else []

-- the virtual processor of class c on processor p as a view shows it
abbrev pub loaded_vp : ConfigText → Option ℕ → ℕ → ℕ → Processing
loaded_vp k view p c = vp_with k c (lines_seen k view p c)

-- the virtual processors of processor p
abbrev pub loaded_bank : ConfigText → Option ℕ → ℕ → List Processing
loaded_bank k view p = map (loaded_vp k view p) (below (length k.table))

-- those of all processors
abbrev pub loaded_banks : ConfigText → Option ℕ → List (List Processing)
loaded_banks k view = map (loaded_bank k view) (below k.processors)
