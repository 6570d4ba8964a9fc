use Rattle.std.proofs.Common.{◌∙◌, ap}
use Rattle.audit_trail.specs.Lines.{lines_text}
use Rattle.machine.specs.Banks.{machine_of}
use Rattle.low_answer.proofs.Ended.{low_prints}
use Rattle.command_audit.specs.Audited.{IsAllowed, trail_due}
use Rattle.command_audit.proofs.auditing.print_trail.Goals as goal

pub returns : goal.returns
returns g c =
    let is = ap lines_text (c.as_slice.ensures.value ∙ c.requires.trail) in
    low_prints c.args.class c.args.input.now.config c.args.input.now.volumes.items (machine_of c.args.trail.now.machine) c.requires.machine
    trail_due IsAllowed c.requires.allowed _ _ _ _ (rw is at c.push_lines-printed.ensures) c.answer_after.ensures
