use Rattle.std.proofs.Common.{◌≡◌, ◌+◌, subst, ◌∙◌, ap, sym, Bool, arith}
use Rattle.words_layout.specs.declared.segment.SegId.{SegId}
use Rattle.whole_machine.specs.Parts.{ListedPart, cell_in}
use Rattle.whole_machine.specs.Pools.{uses, uses_at, under, in_use}
use Rattle.whole_machine.proofs.Counting.{mentors_counted}
use Rattle.whole_machine.proofs.Tallies.{under_is}
use Rattle.whole_machine.proofs.part.PartState.in_use.Goals as goal

pub loop-mentor-preserved : goal.loop-mentor-preserved
loop-mentor-preserved c =
    let p : SegId → Bool = λ u. uses c.args.kind (cell_in c.args.self.now.cells u) in
    let m = c.loop-mentor.mentor in
    let P : ListedPart → Type 0 = λ z. c.used_under-count.result ≡ under (uses_at c.args.kind z.cells) m in
    let counted = subst P c.self.view_is c.used_under-count.ensures.count in (
      ap (λ n. n + c.used_under-count.result) c.loop-mentor.invariant.0 ∙
          ap (λ n. in_use c.args.kind c.args.self.now.cells m + n) (counted ∙ under_is p m) ∙ sym (mentors_counted p m),
      omega arith,
    )
