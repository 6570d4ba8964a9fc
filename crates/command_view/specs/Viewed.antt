-- What the command `view` answers.
use Rattle.std.specs.Prelude.{◌≡◌, ℕ, List}
use Rattle.command_input.specs.declared.status.Status.{Status}
use Rattle.command_input.specs.Input.{Ports, loaded}
use Rattle.config_text.specs.declared.config.Config.{Config as ConfigText}
use Rattle.loader.specs.Records.{Volumes}
use Rattle.low_answer.specs.LowShows.{LowShows}
use Rattle.machine.specs.Opening.{machine}
use Rattle.report.specs.Reported.{section}
use Rattle.report_laws.specs.Shown.{low_section}
use Rattle.schedule.specs.Schedule.{events_of}

-- what is due to port 0: the section of the class that `sim` prints for the same input
abbrev pub section_due : ℕ → ConfigText → Volumes → List ℕ
section_due class k vs = low_section (loaded k vs) (events_of k) class

-- it is also what the step machine shows of the class after all events of the schedule
abbrev pub IsMachineSection : ℕ → ConfigText → Volumes → Type 0
IsMachineSection class k vs = section class (machine (loaded k vs) (events_of k)) ≡ section_due class k vs

-- What each answer of a view says.
abbrev pub ViewShows : ℕ → Ports → Ports → Status → Type 0
ViewShows class before after status = LowShows section_due IsMachineSection class before after status
