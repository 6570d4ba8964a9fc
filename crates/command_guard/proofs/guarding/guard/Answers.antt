use Rattle.command_guard.proofs.Steps.{volume_fails}
use Rattle.command_guard.proofs.guarding.guard.Goals as goal

pub returns-in-Err-volume_at : goal.returns-in-Err-volume_at
returns-in-Err-volume_at g c = volume_fails _ _ _ _ _ c.in-Ok.ensures.order c.in-Err-volume_at.ensures.fault
