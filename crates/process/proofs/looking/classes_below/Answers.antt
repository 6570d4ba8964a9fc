use Rattle.std.proofs.Common.{◌≡◌, ℕ, ◌<◌, ◌∙◌, sym, subst, arith, length}
use Rattle.labels.specs.Label.{at_or_below}
use Rattle.process.proofs.Classes.{Tells, tells_none, tells_more, tells_no_more, bits_tell}
use Rattle.process.proofs.looking.classes_below.Goals as goal
use Rattle.process.proofs.looking.classes_below.Goals.{then-below, else-below}

pub loop-low-init : goal.loop-low-init
loop-low-init c = tells_none (λ k. at_or_below c.args.table.now k c.args.class)

pub loop-low-preserved : goal.loop-low-preserved
loop-low-preserved c =
    let q = λ (k : ℕ). at_or_below c.args.table.now k c.args.class in
    let within : c.loop-low.low < 16 = omega (arith, c.table_law.ensures.few) in
    elim c.if-below.branch [
      | then-below w ↦ rw w.bits-is (tells_more c.loop-low.bits c.loop-low.low q within (sym c.below.ensures.computed ∙ w.if-below.true) c.loop-low.invariant)
      | else-below w ↦ rw w.bits-is (tells_no_more c.loop-low.bits c.loop-low.low q (sym c.below.ensures.computed ∙ w.if-below.false) c.loop-low.invariant)
    ]

pub returns : goal.returns
returns c =
    let q = λ (k : ℕ). at_or_below c.args.table.now k c.args.class in
    let n : c.loop-low.low ≡ length c.args.table.now = omega arith in
    bits_tell c.loop-low.bits (length c.args.table.now) q c.table_law.ensures.few (subst (λ (m : ℕ). Tells c.loop-low.bits m q) n c.loop-low.invariant)
