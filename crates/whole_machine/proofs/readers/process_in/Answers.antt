use Rattle.std.proofs.Common.{◌≤◌, sym, subst, length}
use Rattle.class_model.specs.Process.{ProcName}
use Rattle.whole_machine.proofs.Stepped.{absent}
use Rattle.whole_machine.proofs.readers.process_in.Goals as goal

pub returns-then-name-parts : goal.returns-then-name-parts
returns-then-name-parts c s =
    sym (absent s c.args.parts.now c.args.name.now (subst (λ (m : ProcName). length c.args.parts.now ≤ m.class) c.name.view_is c.if-name-parts.true))
