use Rattle.std.proofs.Common.{◌∙◌, List, ap, refl, length}
use Rattle.std.specs.Prelude.{slice_index}
use Rattle.policy.specs.Outcome.{components, tallied}
use Rattle.class_model.specs.State.{component_at}
use Rattle.class_model.specs.declared.request.Request.TheVariants as A
use Rattle.whole_machine.specs.Parts.{ListedPart}
use Rattle.whole_machine.specs.Steps.{standing}
use Rattle.whole_machine.proofs.Stepped.{look_done}
use Rattle.whole_machine.proofs.step.count.Goals as goal

pub returns : goal.returns
returns c =
    let s = c.args.shared.now in
    let old = c.args.parts.now.items in
    let n = c.args.name.now in
    let k = c.args.known.now in
    look_done s old c.settle.new.parts.items n c.requires.fits (A.Read k c.args.wanted c.args.tally) _ c.requires.due
    (c.look-shown.ensures ∙
    ap (λ (xs : List ListedPart). tallied (length (components s.table k.class)) c.args.wanted c.args.tally (component_at (standing s xs) (slice_index (components s.table k.class) c.args.tally.seen) k.class k.seg)) c.as_slice.ensures.value)
    refl c.settle.ensures
