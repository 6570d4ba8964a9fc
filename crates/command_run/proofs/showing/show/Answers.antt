use Rattle.std.proofs.Common.{◌∙◌}
use Rattle.report.proofs.Texts.{pushed_as, torn_as}
use Rattle.command_run.proofs.Shown.{shown, shown_up_to}
use Rattle.command_run.proofs.showing.show.Goals as goal

pub returns-in-Err-push_text-clause-shows : goal.returns-in-Err-push_text-clause-shows
returns-in-Err-push_text-clause-shows g c = shown_up_to _ _ _ _ c.in-Ok.ensures.config (torn_as _ _ _ _ (c.as_bytes.ensures.value ∙ c.in-Ok-print_config.ensures.text) c.in-Err-push_text.ensures)

pub returns-clause-shows : goal.returns-clause-shows
returns-clause-shows g c = shown _ _ _ _ c.in-Ok.ensures.config (pushed_as _ _ _ _ (c.as_bytes.ensures.value ∙ c.in-Ok-print_config.ensures.text) c.in-Ok-push_text.ensures)
