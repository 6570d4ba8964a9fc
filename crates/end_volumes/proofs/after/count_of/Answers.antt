use Rattle.std.proofs.Common.{ℕ, ◌*◌, sym, ap, ◌∙◌, arith, length}
use Rattle.std.specs.Prelude.{[]}
use Rattle.words_layout.specs.Segments.{numbered}
use Rattle.words_layout.specs.declared.segment.SegId.{SegId}
use Rattle.loader.specs.Configuration.{configuration}
use Rattle.end_volumes.specs.After.{found, listed}
use Rattle.end_volumes.proofs.AfterVolume.{count_more, count_same}
use Rattle.end_volumes.proofs.after.count_of.Goals as goal
use Rattle.end_volumes.proofs.after.count_of.Goals.{then-is_some, else-is_some}

pub loop-number-preserved : goal.loop-number-preserved
loop-number-preserved c =
    let at = λ (u : SegId). found (configuration c.args.config.now []) c.args.volume (listed c.args.origins.now) (64 * length c.args.config.now.table) u in
    let by_number = λ (n : ℕ). at (numbered n) in
    let is = c.found_at.ensures.value ∙ ap at c.numbered.ensures.value in
    elim c.if-is_some.branch [
      | then-is_some w ↦ record { few = omega arith; counted = w.count-is ∙ count_more by_number c.loop-number.number c.loop-number.count c.loop-number.invariant.counted c.found_at.result is (sym c.is_some.ensures ∙ w.if-is_some.true) }
      | else-is_some w ↦ record { few = omega arith; counted = w.count-is ∙ count_same by_number c.loop-number.number c.loop-number.count c.loop-number.invariant.counted c.found_at.result is (sym c.is_some.ensures ∙ w.if-is_some.false) }
    ]
