-- What a command about one class answers, which pushes one text to port 0: each answer with all that holds where it is given. The
-- commands differ in the text that is due, and in what else holds of it.
use Rattle.std.specs.Prelude.{◌≡◌, ◌<◌, ◌≤◌, ℕ, Bool, true, false, List, length, Some, Result, Ok, Err}
use Rattle.class_model.specs.Config.{low_config}
use Rattle.command_input.specs.declared.status.Status.{Status}
use Rattle.command_input.specs.declared.status.Status.TheVariants.{Done, HostFault, Unfinished}
use Rattle.command_input.specs.declared.status.PortFault.TheVariants.{Write}
use Rattle.command_input.specs.Answer.{InputFails}
use Rattle.command_input.specs.Input.{Ports, InputRead, IsUnpushed, NoneFailed, OnePushFailed, loaded}
use Rattle.command_run.specs.Headline.{live_after}
use Rattle.command_run.specs.Shows.{OthersStay}
use Rattle.config_text.specs.declared.config.Config.{Config as ConfigText}
use Rattle.host_ports.specs.Ports.{IsPrefixTaken, with_bytes}
use Rattle.loader.specs.Records.{Volumes}
use Rattle.machine.specs.Low.{low_events}
use Rattle.report.specs.Printing.{Pushed, Torn}
use Rattle.report.specs.declared.printing.WriteFault.{WriteFault}
use Rattle.schedule.specs.Schedule.{events_of}

-- The input: the whole input was read, no record is at fault, and the class is one of its classes.
pub record LowInput (class : ℕ) (before after : Ports) : Type 0 where
  pub config : ConfigText
  pub volumes : Volumes
  pub input : InputRead before after config volumes
  pub among : class < length config.table

-- a process at or below the class is live after the events at or below it, where nothing else is given
abbrev pub low_live : ℕ → ConfigText → Volumes → Bool
low_live class k vs = live_after (low_config class (loaded k vs)) (low_events k.table class (events_of k))

-- nothing was pushed to a port other than port 0, and such a port has changed only where the configuration names its volume
pub record OnlyToZero (k : ConfigText) (before after : Ports) : Type 0 where
  pub images : (p : ℕ) → 1 ≤ p → IsUnpushed (before p) (after p)
  pub others : OthersStay k before after

-- The text was printed whole, what else is said of it holds, and a process at or below the class is live after the events there,
-- or none is.
pub record LowShown (due : ℕ → ConfigText → Volumes → List ℕ) (Holds : ℕ → ConfigText → Volumes → Type 0) (class : ℕ) (live : Bool) (before after : Ports) : Type 0 where
  pub of : LowInput class before after
  pub text : (after 0).taken ≡ with_bytes (before 0).taken (due class of.config of.volumes)
  pub holds : Holds class of.config of.volumes
  pub ended : low_live class of.config of.volumes ≡ live
  pub only : OnlyToZero of.config before after
  pub none : NoneFailed before after

-- A push failed: port 0 has taken a proper prefix of the text.
pub record LowShownUpTo (due : ℕ → ConfigText → Volumes → List ℕ) (class port : ℕ) (before after : Ports) : Type 0 where
  pub zero : port ≡ 0
  pub of : LowInput class before after
  pub torn : IsPrefixTaken (before 0).taken (after 0).taken (due class of.config of.volumes)
  pub only : OnlyToZero of.config before after
  pub one : OnePushFailed 0 before after

-- What each answer says: Done and Unfinished that the text was printed whole, and no process is live or one is; a failed push that
-- it was printed up to there; and any other answer that there is no input, and why.
abbrev pub LowShows : (ℕ → ConfigText → Volumes → List ℕ) → (ℕ → ConfigText → Volumes → Type 0) → ℕ → Ports → Ports → Status → Type 0
LowShows due Holds class before after Done = LowShown due Holds class false before after
LowShows due Holds class before after Unfinished = LowShown due Holds class true before after
LowShows due Holds class before after (HostFault (Write port)) = LowShownUpTo due class port before after
LowShows due Holds class before after other = InputFails (Some class) before after other

-- ---- what printing does, from where the input was read

-- the answer after the text was pushed or a push failed, by whether a process is live
abbrev pub answer_after : Result (Unit {0}) WriteFault → Bool → Status
answer_after (Ok pushed) true = Unfinished
answer_after (Ok pushed) false = Done
answer_after (Err fault) live = HostFault (Write 0)

-- what else is said of the text holds, and a process at or below the class is live, or none is
pub record LowEnds (Holds : ℕ → ConfigText → Volumes → Type 0) (class : ℕ) (k : ConfigText) (vs : Volumes) (live : Bool) : Type 0 where
  pub holds : Holds class k vs
  pub live_is : low_live class k vs ≡ live

abbrev pub LowPrints : (ℕ → ConfigText → Volumes → List ℕ) → (ℕ → ConfigText → Volumes → Type 0) → ℕ → ConfigText → Volumes → Ports → Ports → Status → Type 0
LowPrints due Holds class k vs before after Done = Pushed before after (due class k vs) × LowEnds Holds class k vs false
LowPrints due Holds class k vs before after Unfinished = Pushed before after (due class k vs) × LowEnds Holds class k vs true
LowPrints due Holds class k vs before after (HostFault (Write port)) = (port ≡ 0) × Torn before after (due class k vs)
LowPrints due Holds class k vs before after _ = ⊥
