use Rattle.std.proofs.Common.{set, subst}
use Rattle.class_model.specs.Process.{ProcName}
use Rattle.class_model.specs.declared.request.Next.TheVariants as N
use Rattle.whole_machine.specs.Steps.{IsSomeDue, StepsTo}
use Rattle.whole_machine.proofs.Stepped.{change_done}
use Rattle.whole_machine.proofs.step.change.Goals as goal

pub returns-clause-ok : goal.returns-clause-ok
returns-clause-ok c =
    let s = c.args.shared.now in
    let old = c.args.parts.now.items in
    let r = c.args.request.now in
    let n : ProcName = record { processor = c.name.inside.processor; class = c.name.inside.class; slot = c.name.inside.slot } in
    let P : ProcName → Type 0 = λ m. IsSomeDue s old m (N.Ask r) → StepsTo s old (set old n.class c.ask.new.self) m in
    subst P c.name.view_is (λ due. change_done s old n c.requires.fits c.index_mut-part.result.now c.ask.new.self c.index_mut-part.ensures.value r due c.requires.change c.in_ok-ask.ensures.ok) c.requires.due
