-- What is at or below a class: of the events, and of the machine.
use Rattle.std.specs.Prelude.{ℕ, List, Option, Some, None, if◌then◌else◌}
use Rattle.std.specs.List.{filter}
use Rattle.labels.specs.Label.{ClassEntry, at_or_below}
use Rattle.words_layout.specs.declared.op.Event.{Event}
use Rattle.class_model.specs.Config.{Shared, flows, low_shared}
use Rattle.class_model.specs.Process.{ProcName}
use Rattle.machine.specs.Machine.{Machine, ClassPart}

-- the events of classes at or below c, in order
abbrev pub low_events : List ClassEntry → ℕ → List Event → List Event
low_events table c events = filter (λ (e : Event). at_or_below table e.class c) events

-- the names of processes of classes at or below c, in order
abbrev pub low_names : List ClassEntry → ℕ → List ProcName → List ProcName
low_names table c names = filter (λ (n : ProcName). at_or_below table n.class c) names

-- What a class may see: the header with the scripts and gates at or below it, and the words and virtual processors of the
-- classes at or below it, with all private state.
pub record LowPart : Type 0 where
  pub shared : Shared
  pub part : ℕ → Option ClassPart

-- the part of a machine at or below c
abbrev pub low_part : ℕ → Machine → LowPart
low_part c m = record { shared = low_shared c m.shared; part = λ d. if flows m.shared d c then Some (m.part d) else None }
