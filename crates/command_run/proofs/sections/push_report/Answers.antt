use Rattle.std.proofs.Common.{ℕ, List, arith, ap, ◌∙◌, length}
use Rattle.class_model.specs.Config.{Shared, classes}
use Rattle.machine.specs.Banks.{machine_of}
use Rattle.report.specs.Reported.{section}
use Rattle.report.proofs.Texts.{pushed_none, err_prints}
use Rattle.report.proofs.Numbers.{counted_more, counted_torn, counted_all}
use Rattle.command_run.proofs.sections.push_report.Goals as goal

pub loop-class-init : goal.loop-class-init
loop-class-init g c = pushed_none _

pub loop-class-preserved : goal.loop-class-preserved
loop-class-preserved g c =
    let text : ℕ → List ℕ = λ d. section d (machine_of c.args.machine.now) in
    counted_more text _ _ _ c.loop-class.class c.loop-class.invariant c.in_ok-section.ensures

pub returns-in_err-section : goal.returns-in_err-section
returns-in_err-section g c =
    let text : ℕ → List ℕ = λ d. section d (machine_of c.args.machine.now) in
    let n = c.count-class-end.ensures ∙ ap length (c.table.ensures ∙ ap (λ (s : Shared). s.table) c.shared.ensures) in
    err_prints _ _ _ _ c.from_residual.ensures.0 (counted_torn text _ _ _ c.loop-class.class (classes c.args.machine.now.shared) (omega (arith, n)) c.loop-class.invariant c.in_err-section.ensures)

pub returns : goal.returns
returns g c =
    let text : ℕ → List ℕ = λ d. section d (machine_of c.args.machine.now) in
    let n = c.count-class-end.ensures ∙ ap length (c.table.ensures ∙ ap (λ (s : Shared). s.table) c.shared.ensures) in
    counted_all text _ _ c.loop-class.class (classes c.args.machine.now.shared) (omega (arith, n)) (omega (arith, n)) c.loop-class.invariant
