use Rattle.std.proofs.Common.{◌≡◌, ◌<◌, ◌∙◌, ℕ, List, ap, subst, get_or, length}
use Rattle.labels.specs.Label.{ClassEntry}
use Rattle.policy.specs.Outcome.{components}
use Rattle.class_model.specs.State.{component_at}
use Rattle.whole_machine.specs.Parts.{no_part, count_in}
use Rattle.whole_machine.specs.Steps.{standing}
use Rattle.whole_machine.proofs.SegmentPieces.{sum_more}
use Rattle.whole_machine.proofs.segments.eventcount.Goals as goal

pub loop-low-preserved : goal.loop-low-preserved
loop-low-preserved c =
    let s = c.args.shared.now in
    let old = c.args.parts.now in
    let xs = components s.table c.args.class in
    let i = c.loop-low.low-index in
    let f = λ (k : ℕ). component_at (standing s old) k c.args.class c.args.seg in
    let same : c.as_slice-low-items.result.now ≡ xs = c.as_slice-low-items.ensures.value ∙ c.components.ensures ∙ ap (λ (t : List ClassEntry). components t c.args.class) c.table.ensures in
    sum_more f xs i 0 c.loop-low.sum c.component-sum.result (subst (λ (ys : List ℕ). i < length ys) same c.loop-low-test.true) c.loop-low.invariant
    (c.component-sum.ensures ∙ ap (λ (ys : List ℕ). count_in (get_or old (get_or ys i 0) no_part).counts c.args.class c.args.seg) same)
