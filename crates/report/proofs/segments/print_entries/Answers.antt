use Rattle.std.proofs.Common.{ℕ, List, arith}
use Rattle.report.specs.Found.{entry_in}
use Rattle.report.specs.Parts.{alias_text}
use Rattle.report.proofs.Texts.{pushed_none, err_prints}
use Rattle.report.proofs.Numbers.{counted_more, counted_torn, counted_all}
use Rattle.report.proofs.segments.print_entries.Goals as goal

pub loop-entry-init : goal.loop-entry-init
loop-entry-init g c = pushed_none _

pub loop-entry-preserved : goal.loop-entry-preserved
loop-entry-preserved g c =
    let text : ℕ → List ℕ = λ e. alias_text e (entry_in c.args.machine.now c.args.class c.args.seg e) in
    counted_more text _ _ _ c.loop-entry.entry c.loop-entry.invariant c.in_ok-print_entry.ensures

pub returns-in_err-print_entry : goal.returns-in_err-print_entry
returns-in_err-print_entry g c =
    let text : ℕ → List ℕ = λ e. alias_text e (entry_in c.args.machine.now c.args.class c.args.seg e) in
    err_prints _ _ _ _ c.from_residual.ensures.0 (counted_torn text _ _ _ c.loop-entry.entry 8 (omega arith) c.loop-entry.invariant c.in_err-print_entry.ensures)

pub returns : goal.returns
returns g c =
    let text : ℕ → List ℕ = λ e. alias_text e (entry_in c.args.machine.now c.args.class c.args.seg e) in
    counted_all text _ _ c.loop-entry.entry 8 (omega arith) (omega arith) c.loop-entry.invariant
