use Rattle.std.proofs.Common.{refl, ap, Err}
use Rattle.text_lines.specs.Lines.{views}
use Rattle.command_words.specs.declared.asked.Plan.TheVariants.{Run}
use Rattle.kernel_top.specs.Answer.{NeedsDisk, KernelMainShows}
use Rattle.kernel_top.proofs.Answers.{usage, kernel_answered, faulty, one_plan, no_plan, as_asked}
use Rattle.kernel_top.proofs.Completing.{kernel_completes}
use Rattle.kernel_top.proofs.threads.kernel_main.Goals as goal

pub returns-in-Ok-clause-usage : goal.returns-in-Ok-clause-usage
returns-in-Ok-clause-usage g c = usage NeedsDisk (views c.args.words.now) _ _ c.in-Ok.plan ((c.in-Ok.ensures.accepts c.in-Ok.plan).0 refl) (λ q h. one_plan c.in-Ok.plan q ((c.in-Ok.ensures.accepts q).1 h)) _ (kernel_answered c.in-Ok.plan _ _ _ c.carry_out_threaded.ensures.shows)

pub returns-in-Ok-clause-shows : goal.returns-in-Ok-clause-shows
returns-in-Ok-clause-shows g c = λ q h. as_asked KernelMainShows c.in-Ok.plan q _ _ _ ((c.in-Ok.ensures.accepts q).1 h) c.carry_out_threaded.ensures.shows

pub returns-in-Err-clause-usage : goal.returns-in-Err-clause-usage
returns-in-Err-clause-usage g c = faulty NeedsDisk (views c.args.words.now) _ _ c.fault_kind.result ((c.in-Err.ensures.refuses c.fault_kind.result).0 (ap Err c.fault_kind.ensures)) (λ q h. no_plan _ q ((c.in-Err.ensures.accepts q).1 h)) (λ p. refl)

pub returns-in-Err-clause-shows : goal.returns-in-Err-clause-shows
returns-in-Err-clause-shows g c = λ q h. absurd (no_plan _ q ((c.in-Err.ensures.accepts q).1 h))

pub returns-in-Ok-clause-headline : goal.returns-in-Ok-clause-headline
returns-in-Ok-clause-headline g c = λ h. as_asked KernelMainShows c.in-Ok.plan Run _ _ _ ((c.in-Ok.ensures.accepts Run).1 h) c.carry_out_threaded.ensures.shows

pub returns-in-Err-clause-headline : goal.returns-in-Err-clause-headline
returns-in-Err-clause-headline g c = λ h. absurd (no_plan _ Run ((c.in-Err.ensures.accepts Run).1 h))

pub returns-in-Ok-clause-complete : goal.returns-in-Ok-clause-complete
returns-in-Ok-clause-complete g c = λ q h. kernel_completes _ _ q _ (as_asked KernelMainShows c.in-Ok.plan q _ _ _ ((c.in-Ok.ensures.accepts q).1 h) c.carry_out_threaded.ensures.shows)

pub returns-in-Err-clause-complete : goal.returns-in-Err-clause-complete
returns-in-Err-clause-complete g c = λ q h. absurd (no_plan _ q ((c.in-Err.ensures.accepts q).1 h))
