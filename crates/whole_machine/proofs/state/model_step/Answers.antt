use Rattle.std.proofs.Common.{◌≡◌, subst}
use Rattle.std.proofs.lemmas.Result.{err_from_is_err_and}
use Rattle.whole_machine.specs.Parts.{ListedState, state_of}
use Rattle.whole_machine.specs.Steps.{standing}
use Rattle.whole_machine.proofs.Recorded.{same_state}
use Rattle.whole_machine.proofs.state.model_step.Goals as goal

pub returns-in_err-perform-in-Some-clause-err : goal.returns-in_err-perform-in-Some-clause-err
returns-in_err-perform-in-Some-clause-err c =
    let s = c.state.inside.shared in
    let after = c.perform.new.parts.items in
    let p = err_from_is_err_and c.from_residual.result c.from_residual.ensures.1 in
    rw p.1 (subst (λ (z : ListedState). standing s after ≡ state_of z) c.state.view_is
    (same_state s c.state.inside.parts.items after c.in_err-perform-in-Some.ensures.err))
