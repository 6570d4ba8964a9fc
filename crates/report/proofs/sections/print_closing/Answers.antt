use Rattle.std.proofs.Common.{◌≡◌, Bool, true, false, sym, ◌∙◌}
use Rattle.report.proofs.Texts.{err_prints, torn_more, torn_as, pushed_as, prints_as, prints_then}
use Rattle.report.proofs.SectionParts.{closed_text, open_text}
use Rattle.report.proofs.sections.print_closing.Goals as goal

no : {P : Type 0} {b : Bool} → (P → b ≡ true) → b ≡ false → P → ⊥
no h e p = let t : true ≡ false = sym (h p) ∙ e in cc

pub returns-in_err-push_line : goal.returns-in_err-push_line
returns-in_err-push_line g c =
    let e = closed_text c.args.machine.now c.args.class (c.ended.ensures.0 c.if-ended.true) in
    err_prints _ _ _ _ c.from_residual.ensures.0 (torn_as _ _ _ _ e (torn_more _ _ _ _ (torn_as _ _ _ _ c.word_line.ensures c.in_err-push_line.ensures)))

pub returns-in_ok-push_line : goal.returns-in_ok-push_line
returns-in_ok-push_line g c =
    let e = closed_text c.args.machine.now c.args.class (c.ended.ensures.0 c.if-ended.true) in
    prints_as _ _ _ _ _ e (prints_then _ _ _ _ _ _ (pushed_as _ _ _ _ c.word_line.ensures c.in_ok-push_line.ensures) c.print_segments.ensures)

pub returns-else-ended : goal.returns-else-ended
returns-else-ended g c =
    prints_as _ _ _ _ _ (c.word_line-else-ended.ensures ∙ open_text c.args.machine.now c.args.class c.machine_law.ensures.most (no c.ended.ensures.1 c.if-ended.false)) c.push_line-else-ended.ensures
