use Rattle.std.proofs.Common.{refl, ap, Err}
use Rattle.text_lines.specs.Lines.{views}
use Rattle.command_words.specs.declared.asked.Plan.TheVariants.{Save, Restore}
use Rattle.kernel_top.specs.Answer.{NeedsNoDisk, SaveMainShows}
use Rattle.kernel_top.proofs.Answers.{usage, with_disk, save_answered, save_stays, faulty, one_plan, no_plan, as_asked_stored}
use Rattle.kernel_top.proofs.Completing.{stored_completes}
use Rattle.kernel_top.proofs.store.save_main.Goals as goal

pub returns-in-Ok-clause-usage : goal.returns-in-Ok-clause-usage
returns-in-Ok-clause-usage g c = with_disk NeedsNoDisk (SaveMainShows _ c.in-Ok.plan _ _ _ _) (views c.args.words.now) _ _ _ _ _ (save_stays _ _ _ _ _ c.in-Ok.plan) c.carry_out_stored.ensures.shows (
    usage NeedsNoDisk (views c.args.words.now) _ _ c.in-Ok.plan ((c.in-Ok.ensures.accepts c.in-Ok.plan).0 refl) (λ q h. one_plan c.in-Ok.plan q ((c.in-Ok.ensures.accepts q).1 h)) _ (save_answered _ _ _ _ _ c.in-Ok.plan _ c.carry_out_stored.ensures.shows))

pub returns-in-Err-clause-usage : goal.returns-in-Err-clause-usage
returns-in-Err-clause-usage g c =
    (faulty NeedsNoDisk (views c.args.words.now) _ _ c.fault_kind.result ((c.in-Err.ensures.refuses c.fault_kind.result).0 (ap Err c.fault_kind.ensures)) (λ q h. no_plan _ q ((c.in-Err.ensures.accepts q).1 h)) (λ p. refl), refl)

pub returns-in-Ok-clause-save : goal.returns-in-Ok-clause-save
returns-in-Ok-clause-save g c = λ h. as_asked_stored (SaveMainShows _) c.in-Ok.plan Save _ _ _ _ _ ((c.in-Ok.ensures.accepts Save).1 h) c.carry_out_stored.ensures.shows

pub returns-in-Err-clause-save : goal.returns-in-Err-clause-save
returns-in-Err-clause-save g c = λ h. absurd (no_plan _ Save ((c.in-Err.ensures.accepts Save).1 h))

pub returns-in-Ok-clause-restore : goal.returns-in-Ok-clause-restore
returns-in-Ok-clause-restore g c = λ h. as_asked_stored (SaveMainShows _) c.in-Ok.plan Restore _ _ _ _ _ ((c.in-Ok.ensures.accepts Restore).1 h) c.carry_out_stored.ensures.shows

pub returns-in-Err-clause-restore : goal.returns-in-Err-clause-restore
returns-in-Err-clause-restore g c = λ h. absurd (no_plan _ Restore ((c.in-Err.ensures.accepts Restore).1 h))

pub returns-in-Ok-clause-complete : goal.returns-in-Ok-clause-complete
returns-in-Ok-clause-complete g c = λ q h. stored_completes _ _ _ _ _ q _ (as_asked_stored (SaveMainShows _) c.in-Ok.plan q _ _ _ _ _ ((c.in-Ok.ensures.accepts q).1 h) c.carry_out_stored.ensures.shows) c.carry_out_stored.ensures.ports

pub returns-in-Err-clause-complete : goal.returns-in-Err-clause-complete
returns-in-Err-clause-complete g c = λ q h. absurd (no_plan _ q ((c.in-Err.ensures.accepts q).1 h))
