-- What the commands `sim` and `run` answer, and the command `show`: each answer with all that holds where it is given. A run has
-- one configuration with its volumes, and one order of word steps; all that is said of it is said of these.
use Rattle.std.specs.Prelude.{◌≡◌, ◌≢◌, ◌<◌, ◌≤◌, ◌⊎◌, ℕ, zero, suc, Bool, true, false, List, length, Contains, None}
use Rattle.command_input.specs.declared.status.Status.{Status}
use Rattle.command_input.specs.declared.status.Status.TheVariants.{Done, HostFault, Unfinished}
use Rattle.command_input.specs.declared.status.PortFault.TheVariants.{Write}
use Rattle.command_input.specs.Answer.{ConfigFails, InputFails}
use Rattle.command_input.specs.Input.{Ports, IfTold, IsReadWhole, InputRead, IsUnpushed, NoneFailed, OnePushFailed, loaded}
use Rattle.command_run.specs.Headline.{report_of, machine_report_of, image_of, live_after}
use Rattle.config_text.specs.declared.config.Config.{Config as ConfigText}
use Rattle.config_text.specs.Text.{Spells}
use Rattle.words_layout.specs.Sizes.{max_events}
use Rattle.config_text.specs.Written.{written}
use Rattle.host_ports.specs.Ports.{SameBut, IsPrefixTaken, with_bytes}
use Rattle.loader.specs.Records.{Volumes, named_by}
use Rattle.machine.specs.Opening.{effects}
use Rattle.schedule.specs.Schedule.{events_of}
use Rattle.whole_runs.specs.Whole.{RunIsRight}
use Rattle.words_layout.specs.declared.op.Event.{Event}

-- the order of word steps that the schedule of the configuration gives
abbrev pub IsSchedule : ConfigText → Volumes → List Event → Type 0
IsSchedule k vs events = events ≡ events_of k

-- ---- what a run shows

-- The input of a run, and an order of word steps that it may have. The whole input was read, and no record is at fault. In the
-- order of effect each step shows what it must after those before it, and each access is allowed by the labels and brackets that
-- segments were given.
pub record RunOf (IsOrder : ConfigText → Volumes → List Event → Type 0) (before after : Ports) : Type 0 where
  pub config : ConfigText
  pub volumes : Volumes
  pub input : InputRead before after config volumes
  pub events : List Event
  pub order : IsOrder config volumes events
  pub few : length events ≤ max_events
  pub right : RunIsRight (loaded config volumes) (effects (loaded config volumes) events)

-- what is due to a port: the report to port 0, and to the port of a volume its image after the run
abbrev pub due : ConfigText → Volumes → List Event → ℕ → List ℕ
due k vs events zero = report_of (loaded k vs) events
due k vs events (suc p) = image_of (loaded k vs) events (suc p)

-- the port is port 0, or that of a volume which the configuration names
abbrev pub IsDue : ConfigText → ℕ → Type 0
IsDue k p = (p ≡ 0) ⊎ Contains (named_by k) p

-- a port other than port 0 has changed only where the configuration names its volume
abbrev pub OthersStay : ConfigText → Ports → Ports → Type 0
OthersStay k before after = (p : ℕ) → p ≢ 0 → ¬ Contains (named_by k) p → after p ≡ before p

-- Where a process is live after the run, nothing was pushed to a volume's port. Where none is, the port of each volume that the
-- configuration names has taken its image.
abbrev pub ImagesShow : Bool → ConfigText → Volumes → List Event → Ports → Ports → Type 0
ImagesShow true k vs events before after = (p : ℕ) → 1 ≤ p → IsUnpushed (before p) (after p)
ImagesShow false k vs events before after = (p : ℕ) → 1 ≤ p → p < 5 → Contains (named_by k) p → (after p).taken ≡ with_bytes (before p).taken (due k vs events p)

-- A run was printed whole, and a process is live after it, or none is.
pub record Ran (IsOrder : ConfigText → Volumes → List Event → Type 0) (live : Bool) (before after : Ports) : Type 0 where
  pub run : RunOf IsOrder before after
  -- Port 0 has taken the report: for each class the section of the machine of whole instructions, given only what is at or
  -- below the class.
  pub report : (after 0).taken ≡ with_bytes (before 0).taken (report_of (loaded run.config run.volumes) run.events)
  -- It is also what the step machine shows after these events.
  pub machine : machine_report_of (loaded run.config run.volumes) run.events ≡ report_of (loaded run.config run.volumes) run.events
  pub ended : live_after (loaded run.config run.volumes) run.events ≡ live
  pub images : ImagesShow live run.config run.volumes run.events before after
  pub others : OthersStay run.config before after
  pub none : NoneFailed before after

-- A push to port n failed, to which something was due: the ports before it have taken what is due to them, it a proper prefix,
-- and nothing was pushed to those behind it. Where it is the port of a volume, no process is live.
pub record BreaksAt (n : ℕ) (before after : Ports) (k : ConfigText) (vs : Volumes) (events : List Event) : Type 0 where
  pub whole : (p : ℕ) → p < n → IsDue k p → (after p).taken ≡ with_bytes (before p).taken (due k vs events p)
  pub torn : IsPrefixTaken (before n).taken (after n).taken (due k vs events n)
  pub behind : (p : ℕ) → n < p → IsUnpushed (before p) (after p)
  pub is_due : IsDue k n
  pub ended : 1 ≤ n → live_after (loaded k vs) events ≡ false

-- A run was printed up to port n, where a push failed: one call of the host, and no other.
pub record RanUpTo (IsOrder : ConfigText → Volumes → List Event → Type 0) (n : ℕ) (before after : Ports) : Type 0 where
  pub run : RunOf IsOrder before after
  pub port : n < 5
  pub breaks : BreaksAt n before after run.config run.volumes run.events
  pub others : OthersStay run.config before after
  pub one : OnePushFailed n before after

-- What each answer of a run says: Done and Unfinished that it was printed whole, and no process is live or one is; a failed push
-- that it was printed up to that port; and any other answer that there is no input, and why. Usage is none of them.
abbrev pub RunShows : (ConfigText → Volumes → List Event → Type 0) → Ports → Ports → Status → Type 0
RunShows IsOrder before after Done = Ran IsOrder false before after
RunShows IsOrder before after Unfinished = Ran IsOrder true before after
RunShows IsOrder before after (HostFault (Write port)) = RanUpTo IsOrder port before after
RunShows IsOrder before after other = InputFails None before after other

-- ---- what showing a configuration shows

-- The configuration that port 0 spells was read.
pub record ShownOf (before after : Ports) : Type 0 where
  pub config : ConfigText
  pub told : IfTold (before 0).left (λ bytes. Spells bytes config)
  pub whole : IsReadWhole 0 before after

-- Port 0 has taken its text, and no other port has changed.
pub record Shown (before after : Ports) : Type 0 where
  pub of : ShownOf before after
  pub text : (after 0).taken ≡ with_bytes (before 0).taken (written of.config)
  pub others : SameBut 0 before after
  pub none : NoneFailed before after

-- Port 0 has taken a proper prefix of it, where a push failed.
pub record ShownUpTo (port : ℕ) (before after : Ports) : Type 0 where
  pub zero : port ≡ 0
  pub of : ShownOf before after
  pub torn : IsPrefixTaken (before 0).taken (after 0).taken (written of.config)
  pub others : SameBut 0 before after
  pub one : OnePushFailed 0 before after

-- What each answer of showing a configuration says.
abbrev pub ShowShows : Ports → Ports → Status → Type 0
ShowShows before after Done = Shown before after
ShowShows before after Unfinished = ⊥
ShowShows before after (HostFault (Write port)) = ShownUpTo port before after
ShowShows before after other = ConfigFails before after other
