-- The orders of word steps that a run by threads may have.
use Rattle.std.specs.Prelude.{◌≡◌, ℕ, ◌<◌, ◌≤◌, List, length, take}
use Rattle.command_input.specs.Input.{loaded}
use Rattle.config_text.specs.declared.config.Config.{Config as ConfigText}
use Rattle.words_layout.specs.Sizes.{max_events}
use Rattle.loader.specs.Records.{Volumes}
use Rattle.machine.specs.Banks.{State, machine_of}
use Rattle.machine.specs.Opening.{machine}
use Rattle.round_laws.specs.Live.{SomeLive, NoneLive}
use Rattle.round_laws.specs.Rounds.{IsRoundList, joined}
use Rattle.words_layout.specs.declared.op.Event.{Event}
use Rattle.command_threads.specs.Rounds.{plan_for}

-- The events are a round list of the configuration's processors, with its cycle and quantum; these are its rounds. Their number
-- is the least, up to the configured one, after which no process is live in the step machine, and the configured one where
-- there is none.
pub record IsRoundOrder (k : ConfigText) (vs : Volumes) (events : List Event) : Type 0 where
  pub rounds : List (List Event)
  pub events_are : events ≡ joined rounds
  pub round_list : IsRoundList (plan_for k) k.processors (length rounds) rounds
  pub most : length rounds ≤ k.rounds
  pub live : (r : ℕ) → r < length rounds → SomeLive (machine (loaded k vs) (joined (take r rounds)))
  pub ends : length rounds < k.rounds → NoneLive (machine (loaded k vs) events)

-- The machine in memory stands for the step machine after such events, and its classes are those of the configuration.
pub record LeftByRounds (k : ConfigText) (vs : Volumes) (m : State (List ℕ)) : Type 0 where
  pub events : List Event
  pub order : IsRoundOrder k vs events
  pub few : length events ≤ max_events
  pub machine_is : machine_of m ≡ machine (loaded k vs) events
  pub table : m.shared.table ≡ k.table
