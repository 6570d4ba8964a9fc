-- What the command `audit` answers.
use Rattle.std.specs.Prelude.{◌≡◌, ℕ, true, List}
use Rattle.audit_trail.specs.Lines.{lines_text}
use Rattle.class_model.specs.Access.{all_allowed}
use Rattle.class_model.specs.Config.{low_config}
use Rattle.command_input.specs.declared.status.Status.{Status}
use Rattle.command_input.specs.Input.{Ports, loaded}
use Rattle.config_text.specs.declared.config.Config.{Config as ConfigText}
use Rattle.loader.specs.Records.{Volumes}
use Rattle.low_answer.specs.LowShows.{LowShows}
use Rattle.low_trail.specs.LowTrail.{low_trail, low_order}
use Rattle.schedule.specs.Schedule.{events_of}

-- what is due to port 0: the lines of the trail of what is at or below the class
abbrev pub trail_due : ℕ → ConfigText → Volumes → List ℕ
trail_due class k vs = lines_text (low_trail class (loaded k vs) (events_of k))

-- each access of the trail is allowed by the labels and brackets that segments were given
abbrev pub IsAllowed : ℕ → ConfigText → Volumes → Type 0
IsAllowed class k vs = all_allowed (low_config class (loaded k vs)) (low_order class (loaded k vs) (events_of k)) ≡ true

-- What each answer of an audit says.
abbrev pub AuditShows : ℕ → Ports → Ports → Status → Type 0
AuditShows class before after status = LowShows trail_due IsAllowed class before after status
