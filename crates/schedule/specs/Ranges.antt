-- Events of a configuration's processors and classes.
use Rattle.std.specs.Prelude.{◌<◌, length}
use Rattle.words_layout.specs.declared.op.Event.{Event}
use Rattle.config_text.specs.declared.config.Config.{Config}

-- the event's processor is one of the configuration, and its class is one of the table
abbrev pub IsEventOf : Config → Event → Type 0
IsEventOf k e = (e.processor < k.processors) × (e.class < length k.table)
