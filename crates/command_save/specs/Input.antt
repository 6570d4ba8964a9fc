-- What is to be saved, or why there is nothing. Only private functions speak of it.
use Rattle.std.specs.Prelude.{ℕ, List}
use Rattle.command_input.specs.declared.status.Status.{Status}
use Rattle.command_input.specs.Answer.{PortsShow}
use Rattle.command_input.specs.Input.{Ports, NothingPushed, NoneFailed}
use Rattle.command_save.specs.Images.{AreStored}
use Rattle.command_save.specs.Read.{VolumeRead, VolumeCause, UntouchedFrom}
use Rattle.command_save.specs.Shows.{image_of}

-- The volume at port 1 was read, and these bytes are to be written on the disk.
pub record ImageHad (before after : Ports) (bytes : List ℕ) : Type 0 where
  pub of : VolumeRead before after
  pub stored : AreStored (image_of of) bytes
  pub silent : NothingPushed before after
  pub none : NoneFailed before after
  pub others : UntouchedFrom 2 before after

-- There is no volume to be saved, for this cause.
pub record ImageFails (before after : Ports) (status : Status) : Type 0 where
  pub cause : VolumeCause before after status
  pub silent : NothingPushed before after
  pub others : UntouchedFrom 2 before after
  pub ports : PortsShow before after status
