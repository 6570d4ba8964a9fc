-- How what fits comes to be: an empty virtual processor, a new process, and a slot that is filled.
use Rattle.std.specs.Prelude.{ℕ, ◌≡◌, ◌<◌, [], None, Some, replicate, slice_set}
use Rattle.class_model.specs.Config.{Shared, classes}
use Rattle.class_model.specs.Shared.{UsesScript}
use Rattle.process.specs.Fits.{IsSound}
use Rattle.process.specs.Standing.{Standing, StandingFits, new_standing}
use Rattle.machine.specs.Processing.{Processing}
use Rattle.machine.specs.Steps.{ProcessingFits}

-- a virtual processor with empty slots, of a class of the table and with its console size, fits
abbrev pub EmptiesFit : Type 0
EmptiesFit =
    (s : Shared) (class : ℕ) → class < classes s → ProcessingFits s (record { class = class; slots = replicate 4 None; current = 0; lines = []; room = s.console })

-- a process at the start of a script that is there, at or below its class, fits
abbrev pub NewProcessesFit : Type 0
NewProcessesFit =
    (s : Shared) (class script ring start : ℕ) → IsSound s → class < classes s → UsesScript s class script → StandingFits s (new_standing class script ring start)

-- a virtual processor still fits where a slot is filled with a process of its class that fits
abbrev pub FillingFits : Type 0
FillingFits =
    (s : Shared) (v : Processing) (slot : ℕ) (p : Standing) → ProcessingFits s v → p.class ≡ v.class → StandingFits s p →
    ProcessingFits s (record v { slots = slice_set v.slots slot (Some p) })
