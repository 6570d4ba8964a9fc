use Rattle.std.proofs.Common.{ℕ, ◌≡◌, ◌≤◌, ◌∙◌, ap, sym, length, arith}
use Rattle.std.proofs.lemmas.Grind.{common_steps}
use Rattle.std.specs.List.{filter}
use Rattle.lists.specs.Lists.{below}
use Rattle.labels.specs.Label.{at_or_below}
use Rattle.whole_machine.proofs.Counting.{kept_more, left_more}
use Rattle.whole_machine.proofs.looks.components.Goals as goal
use Rattle.whole_machine.proofs.looks.components.Goals.{then-below, else-below}

pub loop-low-preserved : goal.loop-low-preserved
loop-low-preserved c =
    let p = λ (k : ℕ). at_or_below c.args.table.now k c.args.class in
    let low = c.loop-low.low in
    let before : length c.loop-low.classes.items ≤ low = c.loop-low.invariant.1 in
    elim c.if-below.branch [
      | then-below w ↦ rw w.classes-is (kept_more p low c.loop-low.classes.items w.push.new.self.items (sym c.below.ensures.computed ∙ w.if-below.true) c.loop-low.invariant.0 (grind (arith, common_steps)), grind (arith, common_steps, before))
      | else-below w ↦ rw w.classes-is (left_more p low c.loop-low.classes.items (sym c.below.ensures.computed ∙ w.if-below.false) c.loop-low.invariant.0, omega (arith, before))
    ]

pub returns : goal.returns
returns c =
    let p = λ (k : ℕ). at_or_below c.args.table.now k c.args.class in
    let n : c.loop-low.low ≡ length c.args.table.now = omega arith in
    c.loop-low.invariant.0 ∙ ap (λ (m : ℕ). filter p (below m)) n
