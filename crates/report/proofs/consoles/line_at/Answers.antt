use Rattle.std.proofs.Common.{◌<◌, ℕ, List, ap, sym, ◌∙◌, arith}
use Rattle.machine.specs.Processing.{Processing}
use Rattle.report.specs.Parts.{value_in}
use Rattle.report.proofs.LinesByPlace.{found_on, none_on, none_at_all}
use Rattle.report.proofs.consoles.line_at.Goals as goal

pub loop-processor-preserved : goal.loop-processor-preserved
loop-processor-preserved c =
    let lines = c.lines-lines.ensures ∙ ap (λ (v : Processing). v.lines) c.virtual_processor.ensures in
    let none = sym (c.value_in.ensures ∙ ap (λ (xs : List (ℕ × ℕ)). value_in xs c.args.place) lines) ∙ c.in_default.is in
    none_on c.args.machine.now.banks c.args.class c.args.place c.loop-processor.processor c.loop-processor.invariant none

pub returns-in-Some : goal.returns-in-Some
returns-in-Some c =
    let lines = c.lines-lines.ensures ∙ ap (λ (v : Processing). v.lines) c.virtual_processor.ensures in
    let some = sym (c.value_in.ensures ∙ ap (λ (xs : List (ℕ × ℕ)). value_in xs c.args.place) lines) ∙ c.in-Some.is in
    let small : c.loop-processor.processor < 4 = omega (arith, c.processors-processor-end.ensures, c.machine_law.ensures.most) in
    sym (found_on c.args.machine.now.banks c.args.class c.args.place c.loop-processor.processor _ small c.loop-processor.invariant some)

pub returns : goal.returns
returns c =
    let n = c.processors-processor-end.ensures in
    sym (none_at_all c.args.machine.now.banks c.args.class c.args.place c.loop-processor.processor c.machine_law.ensures.most (omega (arith, n)) (omega (arith, n)) c.loop-processor.invariant)
