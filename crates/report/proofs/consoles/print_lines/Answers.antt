use Rattle.std.proofs.Common.{ℕ, List, ap, ◌∙◌, arith}
use Rattle.lists.specs.Lists.{below}
use Rattle.class_model.specs.Config.{Shared}
use Rattle.machine.specs.Banks.{machine_of}
use Rattle.machine.specs.Reading.{buffered}
use Rattle.report.specs.Parts.{value_text, value_in}
use Rattle.report.proofs.Texts.{pushed_none, err_prints, pushed_as, torn_as}
use Rattle.report.proofs.Numbers.{counted_more, counted_torn, counted_all}
use Rattle.report.proofs.LinesByPlace.{values_are}
use Rattle.report.proofs.consoles.print_lines.Goals as goal

pub loop-place-init : goal.loop-place-init
loop-place-init g c = pushed_none _

pub loop-place-preserved : goal.loop-place-preserved
loop-place-preserved g c =
    let text : ℕ → List ℕ = λ place. value_text (value_in (buffered ((machine_of c.args.machine.now).part c.args.class)) place) in
    counted_more text _ _ _ c.loop-place.place c.loop-place.invariant c.in_ok-print_line_at.ensures

pub returns-in_err-print_line_at : goal.returns-in_err-print_line_at
returns-in_err-print_line_at g c =
    let give = λ (place : ℕ). value_in (buffered ((machine_of c.args.machine.now).part c.args.class)) place in
    let n = c.console-place-end.ensures ∙ ap (λ (s : Shared). s.console) c.shared.ensures in
    err_prints _ _ _ _ c.from_residual.ensures.0
    (torn_as _ _ _ _ (values_are give (below c.args.machine.now.shared.console))
    (counted_torn (λ place. value_text (give place)) _ _ _ c.loop-place.place c.args.machine.now.shared.console (omega (arith, n)) c.loop-place.invariant c.in_err-print_line_at.ensures))

pub returns : goal.returns
returns g c =
    let give = λ (place : ℕ). value_in (buffered ((machine_of c.args.machine.now).part c.args.class)) place in
    let n = c.console-place-end.ensures ∙ ap (λ (s : Shared). s.console) c.shared.ensures in
    pushed_as _ _ _ _ (values_are give (below c.args.machine.now.shared.console))
    (counted_all (λ place. value_text (give place)) _ _ c.loop-place.place c.args.machine.now.shared.console (omega (arith, n)) (omega (arith, n)) c.loop-place.invariant)
