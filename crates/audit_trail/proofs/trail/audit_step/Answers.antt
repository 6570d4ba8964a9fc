use Rattle.std.proofs.Common.{List, ◌++◌, sym, ap, ◌∙◌}
use Rattle.class_model.specs.State.{State}
use Rattle.whole_machine.specs.Parts.{state_of}
use Rattle.audit_trail.specs.Dues.{entries_after}
use Rattle.audit_trail.specs.declared.entry.Entry.{Entry}
use Rattle.audit_trail.proofs.Written.{written_some}
use Rattle.audit_trail.proofs.trail.audit_step.Goals as goal

pub returns-in_ok-push_entries-clause-entries : goal.returns-in_ok-push_entries-clause-entries
returns-in_ok-push_entries-clause-entries c =
    let made = c.in_ok-model_step.ensures.step in
    c.in_ok-push_entries.ensures
    ∙ ap (λ (b : State). c.args.entries.now.items ++ entries_after b c.args.name.now c.in-Some.due) made
    ∙ ap (λ (xs : List Entry). c.args.entries.now.items ++ xs) (written_some (state_of c.args.state.now) c.args.name.now c.in-Some.due (sym c.due_of-due.ensures ∙ c.in-Some.is))
