use Rattle.std.proofs.Common.{ℕ, List, ap, ◌∙◌, arith, length}
use Rattle.class_model.specs.Config.{Shared, classes}
use Rattle.machine.specs.Banks.{machine_of}
use Rattle.report.specs.Parts.{mentor_text}
use Rattle.report.proofs.Texts.{pushed_none, err_prints}
use Rattle.report.proofs.Numbers.{counted_more, counted_torn, counted_all}
use Rattle.report.proofs.segments.print_segments.Goals as goal

pub loop-mentor-init : goal.loop-mentor-init
loop-mentor-init g c = pushed_none _

pub loop-mentor-preserved : goal.loop-mentor-preserved
loop-mentor-preserved g c =
    let text : ℕ → List ℕ = λ mentor. mentor_text (machine_of c.args.machine.now) c.args.class mentor in
    counted_more text _ _ _ c.loop-mentor.mentor c.loop-mentor.invariant c.in_ok-print_mentor.ensures

pub returns-in_err-print_mentor : goal.returns-in_err-print_mentor
returns-in_err-print_mentor g c =
    let text : ℕ → List ℕ = λ mentor. mentor_text (machine_of c.args.machine.now) c.args.class mentor in
    let n = c.count-mentor-end.ensures ∙ ap length (c.table-2.ensures ∙ ap (λ (s : Shared). s.table) c.shared-2.ensures) in
    err_prints _ _ _ _ c.from_residual.ensures.0 (counted_torn text _ _ _ c.loop-mentor.mentor (classes c.args.machine.now.shared) (omega (arith, n)) c.loop-mentor.invariant c.in_err-print_mentor.ensures)

pub returns : goal.returns
returns g c =
    let text : ℕ → List ℕ = λ mentor. mentor_text (machine_of c.args.machine.now) c.args.class mentor in
    let n = c.count-mentor-end.ensures ∙ ap length (c.table-2.ensures ∙ ap (λ (s : Shared). s.table) c.shared-2.ensures) in
    counted_all text _ _ c.loop-mentor.mentor (classes c.args.machine.now.shared) (omega (arith, n)) (omega (arith, n)) c.loop-mentor.invariant
