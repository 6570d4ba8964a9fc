use Rattle.std.proofs.Common.{◌<◌, length, arith, ◌∙◌, [], List, ℕ}
use Rattle.std.specs.Borrow.{Bor}
use Rattle.script_asm.proofs.Counts.{count_step, name_step}
use Rattle.script_asm.proofs.names.Names.new.Goals as goal

pub loop-line-preserved : goal.loop-line-preserved
loop-line-preserved c =
    let within : c.loop-line.line-index < length c.args.lines.now = omega arith in
    let none : Bor (List ℕ) = record { ref_ptr = (0, 0); now = [] } in
    let counted = count_step c.args.lines.now c.loop-line.line-index none _ c.loop-line.count _ within c.first_word-first.ensures c.loop-line.invariant.2 c.instruction_count-count.ensures.count in (
      λ w name. c.in_ok-note.ensures w name ∙ name_step c.args.lines.now c.loop-line.line-index none w _ _ c.loop-line.number c.loop-line.count within c.first_word-first.ensures (c.loop-line.invariant.0 w name) c.loop-line.invariant.1 c.loop-line.invariant.2,
      omega arith,
      counted,
      omega (arith, c.instruction_count-count.ensures.few, c.loop-line.invariant.3),
    )
