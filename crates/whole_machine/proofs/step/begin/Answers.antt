use Rattle.std.proofs.Common.{set, subst, refl}
use Rattle.class_model.specs.Process.{ProcName}
use Rattle.class_model.specs.declared.request.Next.TheVariants as N
use Rattle.whole_machine.specs.Steps.{IsSomeDue, StepsTo}
use Rattle.whole_machine.proofs.Stepped.{begin_done}
use Rattle.whole_machine.proofs.step.begin.Goals as goal

pub returns : goal.returns
returns c =
    let s = c.args.shared.now in
    let old = c.args.parts.now.items in
    let n : ProcName = record { processor = c.name.inside.processor; class = c.name.inside.class; slot = c.name.inside.slot } in
    let P : ProcName → Type 0 = λ m. IsSomeDue s old m (N.Begin c.args.script c.args.start) → StepsTo s old (set old n.class c.begin.new.self) m in
    subst P c.name.view_is (λ due. begin_done s old n c.requires.fits c.index_mut-part.result.now c.begin.new.self c.index_mut-part.ensures.value
    c.args.script c.args.start c.ring-ring.result c.new-child.result due c.new-child.ensures c.ring-ring.ensures (λ p h. c.begin.ensures n p refl refl h)) c.requires.due
