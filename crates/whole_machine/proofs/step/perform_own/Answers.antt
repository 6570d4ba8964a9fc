use Rattle.class_model.specs.Process.{ProcName}
use Rattle.class_model.specs.declared.request.Next.TheVariants as N
use Rattle.whole_machine.specs.Steps.{IsSomeDue, StepsTo}
use Rattle.whole_machine.proofs.Stepped.{own_done}
use Rattle.std.proofs.Common.{set, subst}
use Rattle.whole_machine.proofs.step.perform_own.Goals as goal

pub returns : goal.returns
returns c =
    let s = c.args.shared.now in
    let old = c.args.parts.now.items in
    let n : ProcName = record { processor = c.name.inside.processor; class = c.name.inside.class; slot = c.name.inside.slot } in
    let P : ProcName → Type 0 = λ m. IsSomeDue s old m N.Own → StepsTo s old (set old n.class c.perform_own.new.self) m in
    subst P c.name.view_is (λ due. own_done s old n c.requires.fits c.index_mut-part.result.now c.perform_own.new.self c.index_mut-part.ensures.value due c.perform_own.ensures) c.requires.due
