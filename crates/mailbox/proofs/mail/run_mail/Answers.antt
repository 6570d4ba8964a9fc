use Rattle.std.proofs.Common.{◌≡◌, ◌≤◌, ◌^◌, take, get_or, length, sym, ap, ◌∙◌, arith}
use Rattle.std.proofs.lemmas.List.{take_all}
use Rattle.class_model.specs.Process.{ProcName}
use Rattle.class_model.specs.State.{State}
use Rattle.class_model.specs.Step.{step, deed}
use Rattle.class_model.specs.Run.{steps}
use Rattle.whole_machine.specs.Parts.{state_of}
use Rattle.whole_machine.specs.Steps.{step_takes}
use Rattle.mailbox_laws.proofs.Runs.{mail_arrives}
use Rattle.mailbox.specs.Ran.{StopsAt}
use Rattle.mailbox.proofs.Arriving.{steps_next, arrives, stops, on_err}
use Rattle.mailbox.proofs.mail.run_mail.Goals as goal

pub loop-name-preserved : goal.loop-name-preserved
loop-name-preserved c =
    let a : State = state_of c.args.state.now in
    let n : ProcName = c.name-item.result in
    record {
      after = c.in_ok-model_step.ensures.step ∙ ap (λ z. step z n) c.loop-name.invariant.after ∙ ap (λ m. step (steps a (take c.loop-name.name-index c.args.names.now)) m) c.name-item.is
          ∙ sym (steps_next a c.args.names.now c.loop-name.name-index n c.loop-name-test.true);
      shared = c.in_ok-model_step.ensures.shared ∙ c.loop-name.invariant.shared;
    }

pub returns-in_err-model_step-clause-err : goal.returns-in_err-model_step-clause-err
returns-in_err-model_step-clause-err c =
    let a : State = state_of c.args.state.now in
    let n : ProcName = c.name-item.result in
    let same = c.in_err-model_step.ensures.err in
    let e1 = c.loop-name.auto.name-index-end in
    let e2 = c.loop-name-test.true in
    let few : length c.args.names.now ≤ 2 ^ 64 = omega arith in
    on_err (StopsAt a c.args.names.now (state_of c.model_step.new.state)) c.from_residual.result
    (stops mail_arrives a (state_of c.model_step.new.state) c.args.names.now c.loop-name.name-index n few c.loop-name-test.true (same ∙ c.loop-name.invariant.after)
    (ap (λ z. step_takes (deed z (get_or c.args.names.now c.loop-name.name-index n))) same ∙ ap (λ m. step_takes (deed (state_of c.loop-name.state) m)) (sym c.name-item.is) ∙ c.in_err-model_step.ensures.takes))

pub returns-clause-mail : goal.returns-clause-mail
returns-clause-mail c =
    let e1 = c.loop-name.auto.name-index-end in
    let e2 = c.loop-name-test.false in
    let few : length c.args.names.now ≤ 2 ^ 64 = omega arith in
    let whole : take c.loop-name.name-index c.args.names.now ≡ c.args.names.now = take_all c.loop-name.name-index c.args.names.now e2 in
    arrives mail_arrives (state_of c.args.state.now) (state_of c.loop-name.state) c.args.names.now few (c.loop-name.invariant.after ∙ ap (steps (state_of c.args.state.now)) whole)
