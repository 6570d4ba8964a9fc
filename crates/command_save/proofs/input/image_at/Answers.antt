use Rattle.command_save.proofs.Reading.{no_volume, image_had}
use Rattle.command_save.proofs.input.image_at.Goals as goal

pub returns-in-Err-volume_at-clause-fault : goal.returns-in-Err-volume_at-clause-fault
returns-in-Err-volume_at-clause-fault g c = no_volume _ _ _ _ c.in-Ok.ensures.config c.in-Err-volume_at.status c.in-Err-volume_at.ensures.fault

pub returns-in-Ok-stored_bytes-clause-image : goal.returns-in-Ok-stored_bytes-clause-image
returns-in-Ok-stored_bytes-clause-image g c = image_had _ _ _ _ c.in-Ok.ensures.config _ _ c.in-Ok-volume_at.ensures.volume c.in-Ok-stored_bytes.ensures
