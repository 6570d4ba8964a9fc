-- What is proved of summaries.
use Rattle.std.specs.Prelude.{ℕ, ◌≡◌, ◌≤◌, List, length}
use Rattle.words_layout.specs.Sizes.{max_events}
use Rattle.words_layout.specs.declared.op.Event.{Event}
use Rattle.class_model.specs.Config.{Config}
use Rattle.class_model.specs.Run.{run}
use Rattle.class_model.specs.Valid.{IsConfig}
use Rattle.machine.specs.Opening.{machine, effects}
use Rattle.summary.specs.Summary.{summary, machine_summary}

-- After any list of at most 4,194,304 events of a valid configuration the step machine tells the summary that the machine of
-- whole instructions tells after the order in which the steps of words took effect.
abbrev pub SummariesAgree : Type 0
SummariesAgree =
    (k : Config) (events : List Event) (number : ℕ) → IsConfig k → length events ≤ max_events →
    machine_summary number (machine k events) ≡ summary number (run k (effects k events))
