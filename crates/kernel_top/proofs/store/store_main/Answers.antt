use Rattle.std.proofs.Common.{refl, ap, Err}
use Rattle.text_lines.specs.Lines.{views}
use Rattle.kernel_top.specs.Answer.{IsNone, StoreMainShows}
use Rattle.kernel_top.proofs.Answers.{usage, with_disk, store_answered, store_stays, faulty, one_plan, no_plan, as_asked_stored}
use Rattle.kernel_top.proofs.Completing.{any_completes}
use Rattle.kernel_top.proofs.store.store_main.Goals as goal

pub returns-in-Ok-clause-usage : goal.returns-in-Ok-clause-usage
returns-in-Ok-clause-usage g c = with_disk IsNone (StoreMainShows _ c.in-Ok.plan _ _ _ _) (views c.args.words.now) _ _ _ _ _ (store_stays _ _ _ _ _ c.in-Ok.plan) c.carry_out_any.ensures.shows (
    usage IsNone (views c.args.words.now) _ _ c.in-Ok.plan ((c.in-Ok.ensures.accepts c.in-Ok.plan).0 refl) (λ q h. one_plan c.in-Ok.plan q ((c.in-Ok.ensures.accepts q).1 h)) _ (store_answered _ _ _ _ _ c.in-Ok.plan _ c.carry_out_any.ensures.shows))

pub returns-in-Ok-clause-shows : goal.returns-in-Ok-clause-shows
returns-in-Ok-clause-shows g c = λ q h. as_asked_stored (StoreMainShows _) c.in-Ok.plan q _ _ _ _ _ ((c.in-Ok.ensures.accepts q).1 h) c.carry_out_any.ensures.shows

pub returns-in-Err-clause-usage : goal.returns-in-Err-clause-usage
returns-in-Err-clause-usage g c =
    (faulty IsNone (views c.args.words.now) _ _ c.fault_kind.result ((c.in-Err.ensures.refuses c.fault_kind.result).0 (ap Err c.fault_kind.ensures)) (λ q h. no_plan _ q ((c.in-Err.ensures.accepts q).1 h)) (λ p. refl), refl)

pub returns-in-Err-clause-shows : goal.returns-in-Err-clause-shows
returns-in-Err-clause-shows g c = λ q h. absurd (no_plan _ q ((c.in-Err.ensures.accepts q).1 h))

pub returns-in-Ok-clause-complete : goal.returns-in-Ok-clause-complete
returns-in-Ok-clause-complete g c = λ q h. any_completes _ _ _ _ _ q _ (as_asked_stored (StoreMainShows _) c.in-Ok.plan q _ _ _ _ _ ((c.in-Ok.ensures.accepts q).1 h) c.carry_out_any.ensures.shows) c.carry_out_any.ensures.ports

pub returns-in-Err-clause-complete : goal.returns-in-Err-clause-complete
returns-in-Err-clause-complete g c = λ q h. absurd (no_plan _ q ((c.in-Err.ensures.accepts q).1 h))
