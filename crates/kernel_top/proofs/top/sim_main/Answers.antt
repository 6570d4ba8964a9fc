use Rattle.std.proofs.Common.{refl, ap, Err}
use Rattle.text_lines.specs.Lines.{views}
use Rattle.command_words.specs.declared.asked.Plan.TheVariants.{Sim, Show, View, Large, Audit, Guard}
use Rattle.kernel_top.specs.Answer.{NeedsEither, SimMainShows}
use Rattle.kernel_top.proofs.Answers.{usage, sim_answered, faulty, one_plan, no_plan, as_asked}
use Rattle.kernel_top.proofs.Completing.{sim_completes}
use Rattle.kernel_top.proofs.top.sim_main.Goals as goal

pub returns-in-Ok-clause-usage : goal.returns-in-Ok-clause-usage
returns-in-Ok-clause-usage g c = usage NeedsEither (views c.args.words.now) _ _ c.in-Ok.plan ((c.in-Ok.ensures.accepts c.in-Ok.plan).0 refl) (λ q h. one_plan c.in-Ok.plan q ((c.in-Ok.ensures.accepts q).1 h)) _ (sim_answered c.in-Ok.plan _ _ _ c.carry_out.ensures.shows)

pub returns-in-Ok-clause-headline : goal.returns-in-Ok-clause-headline
returns-in-Ok-clause-headline g c = λ h. as_asked SimMainShows c.in-Ok.plan Sim _ _ _ ((c.in-Ok.ensures.accepts Sim).1 h) c.carry_out.ensures.shows

pub returns-in-Ok-clause-show : goal.returns-in-Ok-clause-show
returns-in-Ok-clause-show g c = λ h. as_asked SimMainShows c.in-Ok.plan Show _ _ _ ((c.in-Ok.ensures.accepts Show).1 h) c.carry_out.ensures.shows

pub returns-in-Ok-clause-view : goal.returns-in-Ok-clause-view
returns-in-Ok-clause-view g c = λ n h. as_asked SimMainShows c.in-Ok.plan (View n) _ _ _ ((c.in-Ok.ensures.accepts (View n)).1 h) c.carry_out.ensures.shows

pub returns-in-Ok-clause-large : goal.returns-in-Ok-clause-large
returns-in-Ok-clause-large g c = λ n h. as_asked SimMainShows c.in-Ok.plan (Large n) _ _ _ ((c.in-Ok.ensures.accepts (Large n)).1 h) c.carry_out.ensures.shows

pub returns-in-Ok-clause-audit : goal.returns-in-Ok-clause-audit
returns-in-Ok-clause-audit g c = λ n h. as_asked SimMainShows c.in-Ok.plan (Audit n) _ _ _ ((c.in-Ok.ensures.accepts (Audit n)).1 h) c.carry_out.ensures.shows

pub returns-in-Err-clause-usage : goal.returns-in-Err-clause-usage
returns-in-Err-clause-usage g c = faulty NeedsEither (views c.args.words.now) _ _ c.fault_kind.result ((c.in-Err.ensures.refuses c.fault_kind.result).0 (ap Err c.fault_kind.ensures)) (λ q h. no_plan _ q ((c.in-Err.ensures.accepts q).1 h)) (λ p. refl)

pub returns-in-Err-clause-headline : goal.returns-in-Err-clause-headline
returns-in-Err-clause-headline g c = λ h. absurd (no_plan _ Sim ((c.in-Err.ensures.accepts Sim).1 h))

pub returns-in-Err-clause-show : goal.returns-in-Err-clause-show
returns-in-Err-clause-show g c = λ h. absurd (no_plan _ Show ((c.in-Err.ensures.accepts Show).1 h))

pub returns-in-Err-clause-view : goal.returns-in-Err-clause-view
returns-in-Err-clause-view g c = λ n h. absurd (no_plan _ (View n) ((c.in-Err.ensures.accepts (View n)).1 h))

pub returns-in-Err-clause-large : goal.returns-in-Err-clause-large
returns-in-Err-clause-large g c = λ n h. absurd (no_plan _ (Large n) ((c.in-Err.ensures.accepts (Large n)).1 h))

pub returns-in-Err-clause-audit : goal.returns-in-Err-clause-audit
returns-in-Err-clause-audit g c = λ n h. absurd (no_plan _ (Audit n) ((c.in-Err.ensures.accepts (Audit n)).1 h))

pub returns-in-Ok-clause-guard : goal.returns-in-Ok-clause-guard
returns-in-Ok-clause-guard g c = λ h. as_asked SimMainShows c.in-Ok.plan Guard _ _ _ ((c.in-Ok.ensures.accepts Guard).1 h) c.carry_out.ensures.shows

pub returns-in-Err-clause-guard : goal.returns-in-Err-clause-guard
returns-in-Err-clause-guard g c = λ h. absurd (no_plan _ Guard ((c.in-Err.ensures.accepts Guard).1 h))

pub returns-in-Ok-clause-complete : goal.returns-in-Ok-clause-complete
returns-in-Ok-clause-complete g c = λ q h. sim_completes _ _ q _ (as_asked SimMainShows c.in-Ok.plan q _ _ _ ((c.in-Ok.ensures.accepts q).1 h) c.carry_out.ensures.shows)

pub returns-in-Err-clause-complete : goal.returns-in-Err-clause-complete
returns-in-Err-clause-complete g c = λ q h. absurd (no_plan _ q ((c.in-Err.ensures.accepts q).1 h))
