-- The trail of what is at or below a class: it is made of nothing else.
use Rattle.std.specs.Prelude.{ℕ, List}
use Rattle.words_layout.specs.declared.op.Event.{Event}
use Rattle.class_model.specs.Config.{Config, low_config}
use Rattle.class_model.specs.Process.{ProcName}
use Rattle.class_model.specs.Run.{opening}
use Rattle.machine.specs.Low.{low_events}
use Rattle.machine.specs.Machine.{Machine}
use Rattle.machine.specs.Opening.{machine, effects}
use Rattle.audit_trail.specs.Trail.{trail}
use Rattle.audit_trail.specs.declared.entry.Entry.{Entry}

-- the order in which the instructions at or below the class take effect, given the configuration and the events there alone
abbrev pub low_order : ℕ → Config → List Event → List ProcName
low_order c k events = effects (low_config c k) (low_events k.table c events)

-- the machine of words after them
abbrev pub low_machine : ℕ → Config → List Event → Machine
low_machine c k events = machine (low_config c k) (low_events k.table c events)

-- their trail, from the opening of the configuration's part at or below the class
abbrev pub low_trail : ℕ → Config → List Event → List Entry
low_trail c k events = trail (opening (low_config c k)) (low_order c k events)
