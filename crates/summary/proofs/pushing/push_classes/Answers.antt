use Rattle.std.proofs.Common.{ℕ, List, arith, ap, ◌∙◌, length}
use Rattle.class_model.specs.Config.{Shared, classes}
use Rattle.machine.specs.Banks.{machine_of}
use Rattle.report.proofs.Texts.{pushed_none, err_prints, pushed_as, torn_as}
use Rattle.report.proofs.Numbers.{counted_more, counted_torn, counted_all}
use Rattle.summary.specs.Summary.{totals_line, machine_totals}
use Rattle.summary.proofs.pushing.push_classes.Goals as goal

pub loop-class-init : goal.loop-class-init
loop-class-init g c = pushed_none _

pub loop-class-preserved : goal.loop-class-preserved
loop-class-preserved g c =
    let text : ℕ → List ℕ = λ d. totals_line d (machine_totals (machine_of c.args.machine.now) d) in
    counted_more text _ _ _ c.loop-class.class c.loop-class.invariant (pushed_as _ _ _ _ (c.totals_line.ensures ∙ ap (totals_line c.loop-class.class) c.class_totals.ensures) c.in_ok-push_line.ensures)

pub returns-in_err-push_line : goal.returns-in_err-push_line
returns-in_err-push_line g c =
    let text : ℕ → List ℕ = λ d. totals_line d (machine_totals (machine_of c.args.machine.now) d) in
    let n = c.count-class-end.ensures ∙ ap length (c.table.ensures ∙ ap (λ (s : Shared). s.table) c.shared.ensures) in
    err_prints _ _ _ _ c.from_residual.ensures.0 (counted_torn text _ _ _ c.loop-class.class (classes c.args.machine.now.shared) (omega (arith, n)) c.loop-class.invariant
    (torn_as _ _ _ _ (c.totals_line.ensures ∙ ap (totals_line c.loop-class.class) c.class_totals.ensures) c.in_err-push_line.ensures))

pub returns : goal.returns
returns g c =
    let text : ℕ → List ℕ = λ d. totals_line d (machine_totals (machine_of c.args.machine.now) d) in
    let n = c.count-class-end.ensures ∙ ap length (c.table.ensures ∙ ap (λ (s : Shared). s.table) c.shared.ensures) in
    counted_all text _ _ c.loop-class.class (classes c.args.machine.now.shared) (omega (arith, n)) (omega (arith, n)) c.loop-class.invariant
