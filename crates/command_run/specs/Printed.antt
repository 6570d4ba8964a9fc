-- What the parts of a run print, from one state of the ports to the next.
use Rattle.std.specs.Prelude.{◌≡◌, ◌<◌, ◌≤◌, ◌⊎◌, ℕ, Bool, true, false, List, Contains}
use Rattle.command_input.specs.declared.status.Status.{Status}
use Rattle.command_input.specs.declared.status.Status.TheVariants.{Done, Refused, HostFault, Unfinished, NoMemory}
use Rattle.command_input.specs.declared.status.Refusal.TheVariants.{Load}
use Rattle.command_input.specs.declared.status.PortFault.TheVariants.{Write}
use Rattle.command_input.specs.Input.{Ports, NoneFailed, loaded}
use Rattle.command_run.specs.Headline.{report_of, machine_report_of, live_after}
use Rattle.command_run.specs.Shows.{due}
use Rattle.config_text.specs.declared.config.Config.{Config as ConfigText}
use Rattle.host_ports.specs.Ports.{Rose, PushKeeps, IsPrefixTaken, with_bytes}
use Rattle.loader.specs.declared.loading.LoadError.{LoadError}
use Rattle.loader.specs.declared.loading.LoadError.TheVariants as error
use Rattle.loader.specs.Records.{Volumes, named_by}
use Rattle.report.specs.Printing.{Pushed, Torn}
use Rattle.words_layout.specs.declared.op.Event.{Event}

-- the ports below n of the volumes that the configuration names have taken what is due to them, and nothing else has changed
pub record ImagesPushed (n : ℕ) (k : ConfigText) (images : ℕ → List ℕ) (before after : Ports) : Type 0 where
  pub taken : (p : ℕ) → 1 ≤ p → p < n → Contains (named_by k) p → (after p).taken ≡ with_bytes (before p).taken (images p)
  pub left : (p : ℕ) → (after p).left ≡ (before p).left
  pub others : (p : ℕ) → ((1 ≤ p) × (p < n) × Contains (named_by k) p → ⊥) → after p ≡ before p
  pub none : NoneFailed before after

-- so it was up to port n, and a push to it failed
pub record ImageTorn (n : ℕ) (k : ConfigText) (images : ℕ → List ℕ) (before after : Ports) : Type 0 where
  pub some : 1 ≤ n
  pub most : n < 5
  pub named : Contains (named_by k) n
  pub middle : Ports
  pub pushed : ImagesPushed n k images before middle
  pub torn : IsPrefixTaken (middle n).taken (after n).taken (images n)
  pub rose : Rose (middle n).pushes (after n).pushes
  pub keeps : PushKeeps n middle after

-- a run ends by whether a process is live after all events; its report is also what the step machine shows then
pub record RunEnds (k : ConfigText) (vs : Volumes) (events : List Event) (live : Bool) : Type 0 where
  pub live_is : live_after (loaded k vs) events ≡ live
  pub report : machine_report_of (loaded k vs) events ≡ report_of (loaded k vs) events

-- the report was pushed, and then the images of the volumes
pub record AllPushed (k : ConfigText) (vs : Volumes) (events : List Event) (before after : Ports) : Type 0 where
  pub middle : Ports
  pub report : Pushed before middle (report_of (loaded k vs) events)
  pub images : ImagesPushed 5 k (due k vs events) middle after

-- a push failed: of the report, or of an image after it, where no process is live
abbrev pub SomeTorn : ℕ → ConfigText → Volumes → List Event → Ports → Ports → Type 0
SomeTorn port k vs events before after =
    ((port ≡ 0) × Torn before after (report_of (loaded k vs) events)) ⊎
    ((middle : Ports) × Pushed before middle (report_of (loaded k vs) events) × ImageTorn port k (due k vs events) middle after × RunEnds k vs events false)

-- what the end of a run prints
abbrev pub Ends : ConfigText → Volumes → List Event → Ports → Ports → Status → Type 0
Ends k vs events before after Done = AllPushed k vs events before after × RunEnds k vs events false
Ends k vs events before after Unfinished = Pushed before after (report_of (loaded k vs) events) × RunEnds k vs events true
Ends k vs events before after (HostFault (Write port)) = SomeTorn port k vs events before after
Ends k vs events before after _ = ⊥

-- the answer where the state can't be made
abbrev pub answer_of : LoadError → Status
answer_of (error.Fault volume item code) = Refused (Load volume item code)
answer_of error.NoMemory = NoMemory
