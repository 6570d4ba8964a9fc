use Rattle.std.proofs.Common.{refl}
use Rattle.command_save.proofs.Restores.{no_kept_volume, restored, restored_up_to}
use Rattle.command_save.proofs.restoring.restore.Goals as goal

pub returns-in-Err-rewritten-clause-shows : goal.returns-in-Err-rewritten-clause-shows
returns-in-Err-rewritten-clause-shows g c =
    no_kept_volume _ _ _ _ _ _ _ _ c.in-Err-rewritten.status c.in-Ok.ensures.config c.in-Ok-kept_image.ensures.image c.as_slice.ensures.value c.in-Err-rewritten.ensures.fault

pub returns-in-Ok-push_whole-clause-shows : goal.returns-in-Ok-push_whole-clause-shows
returns-in-Ok-push_whole-clause-shows g c =
    restored _ _ _ _ _ _ _ _ _ _ c.in-Ok.ensures.config c.in-Ok-kept_image.ensures.image c.as_slice.ensures.value c.in-Ok-rewritten.ensures.written c.as_slice-2.ensures.value c.push_whole.ensures.keeps c.in-Ok-push_whole.ensures.done

pub returns-clause-shows : goal.returns-clause-shows
returns-clause-shows g c = (
  refl,
  restored_up_to _ _ _ _ _ _ _ _ _ _ c.in-Ok.ensures.config c.in-Ok-kept_image.ensures.image c.as_slice.ensures.value c.in-Ok-rewritten.ensures.written c.as_slice-2.ensures.value c.push_whole.ensures.keeps c.in-Err-push_whole.ensures.prefix,
)
