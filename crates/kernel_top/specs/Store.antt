-- What the commands with a disk answer.
use Rattle.command_input.specs.declared.status.Status.{Status}
use Rattle.command_input.specs.Input.{Ports, NothingPushed}
use Rattle.command_save.specs.Disks.{Sight, Stays}
use Rattle.command_save.specs.Read.{OnlyPort1Pushed, UntouchedFrom}
use Rattle.command_save.specs.Shows.{SaveShows, RestoreShows}

-- What `save` does: nothing is pushed, and no port but 0 and 1 has changed.
pub record SaveAnswers {D : Type 0} (d : Sight D) (before after : Ports) (old new : D) (status : Status) : Type 0 where
  pub shows : SaveShows d before after old new status
  pub silent : NothingPushed before after
  pub others : UntouchedFrom 2 before after

-- What `restore` does: nothing is pushed but to port 1, and what a read of an honest disk gives is as it was.
pub record RestoreAnswers {D : Type 0} (d : Sight D) (before after : Ports) (old new : D) (status : Status) : Type 0 where
  pub shows : RestoreShows d before after old new status
  pub pushed : OnlyPort1Pushed before after
  pub stays : d.honest old → Stays d old new
