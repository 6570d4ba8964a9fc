use Rattle.std.proofs.Common.{List, ◌+◌, ◌++◌, ap, ◌∙◌, inl, inr}
use Rattle.whole_machine.specs.Parts.{state_of}
use Rattle.audit_trail.specs.declared.entry.Entry.{Entry}
use Rattle.audit_trail.specs.Dues.{step_entries}
use Rattle.audit_trail.proofs.Trails.{one_more, after_some, err_holds}
use Rattle.audit_trail.proofs.trail.audit.Goals as goal

pub returns-in_err-audit_step-clause-prefix : goal.returns-in_err-audit_step-clause-prefix
returns-in_err-audit_step-clause-prefix c =
    let a = state_of c.args.state.now in
    let more = one_more a (state_of c.loop-name.state) c.args.names.now c.loop-name.name-index c.name-item.result c.loop-name-test.true c.name-item.is c.loop-name.invariant.state in
    err_holds c.from_residual.result (elim c.in_err-audit_step.ensures.err [
      | inl same ↦ after_some a (state_of c.audit_step.new.state) c.args.names.now c.loop-name.name-index (same ∙ c.loop-name.invariant.state)
      | inr made ↦ after_some a (state_of c.audit_step.new.state) c.args.names.now (c.loop-name.name-index + 1) (made ∙ more.0)
    ])

pub loop-name-preserved : goal.loop-name-preserved
loop-name-preserved c =
    let a = state_of c.args.state.now in
    let more = one_more a (state_of c.loop-name.state) c.args.names.now c.loop-name.name-index c.name-item.result c.loop-name-test.true c.name-item.is c.loop-name.invariant.state in
    record {
      state = c.in_ok-audit_step.ensures.step ∙ more.0;
      entries = c.in_ok-audit_step.ensures.entries ∙ ap (λ (xs : List Entry). xs ++ step_entries (state_of c.loop-name.state) c.name-item.result) c.loop-name.invariant.entries ∙ more.1;
      shared = c.audit_step.ensures.shared ∙ c.loop-name.invariant.shared;
    }
