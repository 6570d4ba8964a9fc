-- What the command `large` answers: each answer with all that holds where it is given.
use Rattle.std.specs.Prelude.{◌≡◌, ℕ, Bool, true, false, List, []}
use Rattle.class_model.specs.Config.{Config}
use Rattle.class_model.specs.Run.{run}
use Rattle.command_input.specs.declared.status.Status.{Status}
use Rattle.command_input.specs.declared.status.Status.TheVariants.{Done, HostFault, Unfinished, NoMemory}
use Rattle.command_input.specs.declared.status.PortFault.TheVariants.{Write}
use Rattle.command_input.specs.Input.{Ports, Untouched, NoneFailed, OnePushFailed}
use Rattle.command_run.specs.Headline.{live_after}
use Rattle.host_ports.specs.Ports.{SameBut, IsPrefixTaken, with_bytes}
use Rattle.loader.specs.Configuration.{configuration}
use Rattle.machine.specs.Opening.{machine, effects}
use Rattle.schedule.specs.Schedule.{events_of}
use Rattle.summary.specs.Summary.{summary, machine_summary}
use Rattle.words_layout.specs.declared.op.Event.{Event}
use Rattle.workload.specs.Large.{large_config}

-- the large configuration of the number as the machines' plain data; no volume belongs to it
abbrev pub large_data : ℕ → Config
large_data number = configuration (large_config number) []

-- the events of its schedule
abbrev pub large_events : ℕ → List Event
large_events number = events_of (large_config number)

-- What is due to port 0: the summary that the machine of whole instructions tells after the order in which the steps of words by
-- the schedule took effect.
abbrev pub summary_due : ℕ → List ℕ
summary_due number = summary number (run (large_data number) (effects (large_data number) (large_events number)))

-- Nothing was pulled, and no port but port 0 has changed.
pub record OnlyPushed (before after : Ports) : Type 0 where
  pub left : (after 0).left ≡ (before 0).left
  pub others : SameBut 0 before after

-- Port 0 has taken the summary, and a process is live after all events, or none is.
pub record Summed (number : ℕ) (live : Bool) (before after : Ports) : Type 0 where
  pub text : (after 0).taken ≡ with_bytes (before 0).taken (summary_due number)
  -- It is also what the step machine tells after these events.
  pub machine : machine_summary number (machine (large_data number) (large_events number)) ≡ summary_due number
  pub ended : live_after (large_data number) (large_events number) ≡ live
  pub only : OnlyPushed before after
  pub none : NoneFailed before after

-- A push failed: port 0 has taken a proper prefix of the summary.
pub record SummedUpTo (number port : ℕ) (before after : Ports) : Type 0 where
  pub zero : port ≡ 0
  pub torn : IsPrefixTaken (before 0).taken (after 0).taken (summary_due number)
  pub only : OnlyPushed before after
  pub one : OnePushFailed 0 before after

-- What each answer says: Done and Unfinished that the summary was printed whole, and no process is live or one is; a failed push
-- that it was printed up to there; and out of memory that no port was touched. There is no other answer.
abbrev pub LargeShows : ℕ → Ports → Ports → Status → Type 0
LargeShows number before after Done = Summed number false before after
LargeShows number before after Unfinished = Summed number true before after
LargeShows number before after (HostFault (Write port)) = SummedUpTo number port before after
LargeShows number before after NoMemory = Untouched before after
LargeShows number before after _ = ⊥
