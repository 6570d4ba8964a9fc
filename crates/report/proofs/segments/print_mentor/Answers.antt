use Rattle.std.proofs.Common.{ℕ, List, arith}
use Rattle.words_layout.specs.Segments.{seg}
use Rattle.machine.specs.Banks.{machine_of}
use Rattle.report.specs.Parts.{touched_text}
use Rattle.report.proofs.Texts.{pushed_none, err_prints}
use Rattle.report.proofs.Numbers.{counted_more, counted_torn, counted_all}
use Rattle.report.proofs.segments.print_mentor.Goals as goal

pub loop-serial-init : goal.loop-serial-init
loop-serial-init g c = pushed_none _

pub loop-serial-preserved : goal.loop-serial-preserved
loop-serial-preserved g c =
    let text : ℕ → List ℕ = λ serial. touched_text (machine_of c.args.machine.now) c.args.class (seg c.args.mentor serial) in
    counted_more text _ _ _ c.loop-serial.serial c.loop-serial.invariant c.in_ok-print_touched.ensures

pub returns-in_err-print_touched : goal.returns-in_err-print_touched
returns-in_err-print_touched g c =
    let text : ℕ → List ℕ = λ serial. touched_text (machine_of c.args.machine.now) c.args.class (seg c.args.mentor serial) in
    err_prints _ _ _ _ c.from_residual.ensures.0 (counted_torn text _ _ _ c.loop-serial.serial 64 (omega arith) c.loop-serial.invariant c.in_err-print_touched.ensures)

pub returns : goal.returns
returns g c =
    let text : ℕ → List ℕ = λ serial. touched_text (machine_of c.args.machine.now) c.args.class (seg c.args.mentor serial) in
    counted_all text _ _ c.loop-serial.serial 64 (omega arith) (omega arith) c.loop-serial.invariant
