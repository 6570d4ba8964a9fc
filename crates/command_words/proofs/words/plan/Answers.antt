use Rattle.std.proofs.Common.{◌≡◌, ℕ, Some, Result, Ok, Err, sym, subst}
use Rattle.std.specs.Prelude.{◌↔◌}
use Rattle.text_lines.specs.Faults.{first_code}
use Rattle.text_lines.specs.Lines.{views}
use Rattle.command_words.specs.declared.asked.Plan.{Plan}
use Rattle.command_words.specs.declared.asked.PlanError.{PlanError}
use Rattle.command_words.specs.declared.asked.PlanError.TheVariants.{Fault}
use Rattle.command_words.specs.Words.{Accepts, kinds}
use Rattle.command_words.proofs.Accepted.{accepted}
use Rattle.command_words.proofs.Refused.{refused}
use Rattle.command_words.proofs.words.plan.Goals as goal

pub returns-clause-accepts : goal.returns-clause-accepts
returns-clause-accepts c = subst (λ (r : Result Plan PlanError). (p : Plan) → (r ≡ Ok p) ↔ Accepts (views c.args.words.now) p) (sym c.plan_of.ensures) (accepted (views c.args.words.now))

pub returns-clause-refuses : goal.returns-clause-refuses
returns-clause-refuses c = subst (λ (r : Result Plan PlanError). (kind : ℕ) → (r ≡ Err (Fault kind)) ↔ (first_code (kinds (views c.args.words.now)) ≡ Some kind)) (sym c.plan_of.ensures) (refused (views c.args.words.now))
