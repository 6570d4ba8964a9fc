use Rattle.std.proofs.Common.{ℕ, List, ap, sym, ◌∙◌}
use Rattle.labels.specs.Label.{ClassEntry, at_or_below}
use Rattle.words_layout.specs.Named.{words_in}
use Rattle.class_model.specs.Config.{Shared}
use Rattle.report.proofs.WordsRead.{sum_more, sum_same}
use Rattle.report.proofs.reading.count_of.Goals as goal
use Rattle.report.proofs.reading.count_of.Goals.{then-below, else-below}

pub loop-low-preserved : goal.loop-low-preserved
loop-low-preserved c =
    let m = c.args.machine.now in
    let test = λ (k : ℕ). at_or_below m.shared.table k c.args.class in
    let at = λ (k : ℕ). (words_in m.words k).component c.args.class c.args.seg in
    let table = c.table-table.ensures ∙ ap (λ (s : Shared). s.table) c.shared.ensures in
    let told = c.below.ensures.computed ∙ ap (λ (t : List ClassEntry). at_or_below t c.loop-low.low c.args.class) table in
    elim c.if-below.branch [
      | then-below w ↦ (let value = w.component_at-sum.ensures ∙ ap (λ (ws : List ℕ). (words_in ws c.loop-low.low).component c.args.class c.args.seg) w.words.ensures in
          rw w.sum-is (sum_more test at c.loop-low.low c.loop-low.sum _ (sym told ∙ w.if-below.true) c.loop-low.invariant value))
      | else-below w ↦ rw w.sum-is (sum_same test at c.loop-low.low c.loop-low.sum (sym told ∙ w.if-below.false) c.loop-low.invariant)
    ]
