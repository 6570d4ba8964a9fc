use Rattle.std.proofs.Common.{◌≡◌, ◌≤◌, ◌<◌, ◌∙◌, ap, sym, subst, arith, length}
use Rattle.std.specs.Prelude.{IfSome}
use Rattle.class_model.specs.Step.{deed}
use Rattle.class_model.specs.Config.{classes}
use Rattle.class_model.specs.Process.{ProcName}
use Rattle.whole_machine.specs.Parts.{ListedPart}
use Rattle.whole_machine.specs.Steps.{slot_in, standing, step_takes, next_takes}
use Rattle.whole_machine.proofs.Stepped.{nobody, due_takes}
use Rattle.whole_machine.proofs.step.due.Goals as goal

pub returns-then-name-parts-clause-none : goal.returns-then-name-parts-clause-none
returns-then-name-parts-clause-none c _ =
    nobody c.args.shared.now c.args.parts.now c.args.name.now (subst (λ (m : ProcName). length c.args.parts.now ≤ m.class) c.name.view_is c.if-name-parts.true)

pub next_of-requires : goal.next_of-requires
next_of-requires c =
    let inside = c.name.inside in
    let some : inside.class < classes c.args.shared.now = omega (arith, c.requires.one_each) in
    record {
      class = some;
      known = ((c.requires.fits inside.class).processes inside.processor inside.slot c.in-Some.process.now
          (ap (λ (z : ListedPart). slot_in z inside.processor inside.slot) (sym c.part_at.ensures) ∙ sym c.in-Some.ensures.process)).knows;
    }

pub returns-in-Some-clause-takes : goal.returns-in-Some-clause-takes
returns-in-Some-clause-takes c =
    let s = c.args.shared.now in
    let parts = c.args.parts.now in
    let inside = c.name.inside in
    let n : ProcName = record { processor = inside.processor; class = inside.class; slot = inside.slot } in
    let p = c.in-Some.process.now in
    let there = ap (λ (z : ListedPart). slot_in z inside.processor inside.slot) (sym c.part_at.ensures) ∙ sym c.in-Some.ensures.process in
    subst (λ (m : ProcName). IfSome c.next_of.result (λ next. step_takes (deed (standing s parts) m) ≡ next_takes next)) c.name.view_is
    (due_takes s parts n p c.next_of.result there c.next_of.ensures.next)
