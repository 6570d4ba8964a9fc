use Rattle.std.specs.Prelude.{string_bytes}
use Rattle.std.proofs.Common.{◌≡◌, ℕ, List, ◌++◌, sym, ap, ◌∙◌, append_assoc}
use Rattle.config_text.specs.Written.{gate_line}
use Rattle.config_print.proofs.Pieces.{mapped_more}
use Rattle.config_print.proofs.push_gates.Goals as goal

pub loop-gate-preserved : goal.loop-gate-preserved
loop-gate-preserved c =
    let more = mapped_more gate_line c.args.gates.now c.loop-gate.gate-index c.gate-item.result c.loop-gate-test.true c.gate-item.is in
    c.in_ok-push_gate.ensures ∙ rw (c.loop-gate.invariant, append_assoc) (ap (λ (t : List ℕ). (string_bytes c.args.out.now) ++ t) (sym more))
