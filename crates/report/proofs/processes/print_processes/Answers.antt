use Rattle.std.proofs.Common.{ℕ, List, ap, arith}
use Rattle.machine.specs.Banks.{vp_at}
use Rattle.report.specs.Parts.{slots_text}
use Rattle.report.proofs.Texts.{pushed_none, err_prints, pushed_as, torn_as}
use Rattle.report.proofs.Numbers.{counted_more, counted_torn, flat_rest}
use Rattle.report.proofs.SlotTexts.{no_slots}
use Rattle.report.proofs.processes.print_processes.Goals as goal

pub loop-processor-init : goal.loop-processor-init
loop-processor-init g c = pushed_none _

pub loop-processor-preserved : goal.loop-processor-preserved
loop-processor-preserved g c =
    let text : ℕ → List ℕ = λ p. slots_text p (vp_at c.args.machine.now.banks p c.args.class) in
    counted_more text _ _ _ c.loop-processor.processor c.loop-processor.invariant
    (pushed_as _ _ _ _ (ap (slots_text c.loop-processor.processor) c.virtual_processor.ensures) c.in_ok-print_slots.ensures)

pub returns-in_err-print_slots : goal.returns-in_err-print_slots
returns-in_err-print_slots g c =
    let text : ℕ → List ℕ = λ p. slots_text p (vp_at c.args.machine.now.banks p c.args.class) in
    err_prints _ _ _ _ c.from_residual.ensures.0
    (counted_torn text _ _ _ c.loop-processor.processor 4 (omega (arith, c.processors-processor-end.ensures, c.machine_law.ensures.most)) c.loop-processor.invariant
    (torn_as _ _ _ _ (ap (slots_text c.loop-processor.processor) c.virtual_processor.ensures) c.in_err-print_slots.ensures))

pub returns : goal.returns
returns g c =
    let text : ℕ → List ℕ = λ p. slots_text p (vp_at c.args.machine.now.banks p c.args.class) in
    let n = c.processors-processor-end.ensures in
    pushed_as _ _ _ _
    (flat_rest text c.loop-processor.processor 4 (omega (arith, n, c.machine_law.ensures.most)) (λ p h. no_slots c.args.machine.now.banks c.args.class p (omega (arith, n, h)))) c.loop-processor.invariant
