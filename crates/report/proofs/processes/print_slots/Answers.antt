use Rattle.std.proofs.Common.{ℕ, List, None, arith}
use Rattle.std.specs.Prelude.{slice_index_or}
use Rattle.report.specs.Parts.{slot_text}
use Rattle.report.proofs.Texts.{pushed_none, err_prints}
use Rattle.report.proofs.Numbers.{counted_more, counted_torn, counted_all}
use Rattle.report.proofs.processes.print_slots.Goals as goal

pub loop-slot-init : goal.loop-slot-init
loop-slot-init g c = pushed_none _

pub loop-slot-preserved : goal.loop-slot-preserved
loop-slot-preserved g c =
    let text : ℕ → List ℕ = λ slot. slot_text c.args.processor slot (slice_index_or c.args.here.now.slots slot None) in
    counted_more text _ _ _ c.loop-slot.slot c.loop-slot.invariant c.in_ok-print_slot.ensures

pub returns-in_err-print_slot : goal.returns-in_err-print_slot
returns-in_err-print_slot g c =
    let text : ℕ → List ℕ = λ slot. slot_text c.args.processor slot (slice_index_or c.args.here.now.slots slot None) in
    err_prints _ _ _ _ c.from_residual.ensures.0 (counted_torn text _ _ _ c.loop-slot.slot 4 (omega arith) c.loop-slot.invariant c.in_err-print_slot.ensures)

pub returns : goal.returns
returns g c =
    let text : ℕ → List ℕ = λ slot. slot_text c.args.processor slot (slice_index_or c.args.here.now.slots slot None) in
    counted_all text _ _ c.loop-slot.slot 4 (omega arith) (omega arith) c.loop-slot.invariant
