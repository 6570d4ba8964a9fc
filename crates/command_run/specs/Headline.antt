-- What a run shows to each class, and what it leaves in each volume.
use Rattle.std.specs.Prelude.{ℕ, Bool, List, length}
use Rattle.std.specs.List.{flat_map, list_any}
use Rattle.lists.specs.Lists.{below}
use Rattle.words_layout.specs.declared.op.Event.{Event}
use Rattle.class_model.specs.Config.{Config}
use Rattle.class_model.specs.Run.{run}
use Rattle.class_model.specs.Volume.{volume}
use Rattle.machine.specs.Machine.{Machine, is_live}
use Rattle.machine.specs.Opening.{machine, effects}
use Rattle.report.specs.Reported.{section}
use Rattle.report_laws.specs.Shown.{low_section}
use Rattle.volume_image.specs.Written.{written}
use Rattle.end_volumes.specs.After.{records_after, tree_of_words}

-- The report: what each class is shown, in the order of the classes. `low_section` is the section of the machine of whole
-- instructions, given only the configuration at or below the class and the order in which the steps of words at or below it
-- took effect.
abbrev pub report_of : Config → List Event → List ℕ
report_of k events = flat_map (low_section k events) (below (length k.table))

-- what the step machine shows of each class after the events, in the order of the classes
abbrev pub machine_report_of : Config → List Event → List ℕ
machine_report_of k events = flat_map (λ c. section c (machine k events)) (below (length k.table))

-- The image of volume v after the events, in format 2: of the records that paths of entries reach from the root, in the machine
-- of whole instructions after the order in which the steps of words took effect.
abbrev pub image_of : Config → List Event → ℕ → List ℕ
image_of k events v = written k.table (volume k v (run k (effects k events)))

-- the image of volume v that is told by a machine's words
abbrev pub image_in : Config → Machine → ℕ → List ℕ
image_in k m v = written k.table (records_after k v (tree_of_words m))

-- a process of the class is live
abbrev pub class_live : Machine → ℕ → Bool
class_live m c = list_any (λ p. list_any is_live ((m.part c).vp p).slots) (below 4)

-- some process is live after all events
abbrev pub live_after : Config → List Event → Bool
live_after k events = list_any (class_live (machine k events)) (below (length k.table))
