use Rattle.std.proofs.Common.{sym, subst}
use Rattle.command_save.specs.Shows.{SaveShows}
use Rattle.command_save.proofs.Saves.{saved, not_saved}
use Rattle.command_save.proofs.saving.save.Goals as goal

pub returns-in-Ok-keep-clause-shows : goal.returns-in-Ok-keep-clause-shows
returns-in-Ok-keep-clause-shows g c = saved _ _ _ _ _ _ _ c.in-Ok.ensures.image c.as_slice.ensures.value c.in-Ok-keep.ensures.shows

pub returns-clause-shows : goal.returns-clause-shows
returns-clause-shows g c = subst (SaveShows _ _ _ _ _) (sym c.answer_of.ensures) (not_saved _ _ _ _ _ _ _ c.in-Ok.ensures.image c.as_slice.ensures.value c.in-Err-keep.error c.in-Err-keep.ensures.shows)
