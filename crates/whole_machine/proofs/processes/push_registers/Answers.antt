use Rattle.std.proofs.Common.{[], ◌∷◌, ◌++◌, ◌∙◌, ◌<◌, ℕ, ap, arith, length, append_assoc}
use Rattle.std.specs.Prelude.{string_bytes}
use Rattle.std.specs.Fmt.{decimal}
use Rattle.whole_machine.proofs.Pieces.{read_pushed}
use Rattle.whole_machine.proofs.processes.push_registers.Goals as goal

pub loop-number-preserved : goal.loop-number-preserved
loop-number-preserved c =
    let xs = c.args.process.now.regs in
    let i = c.loop-number.number in
    let out = string_bytes c.loop-number.out in
    let lt : i < length xs = omega arith in
    c.in_ok-push_named.ensures ∙ append_assoc out (32 ∷ []) (decimal c.register.result) ∙ ap (λ (n : ℕ). out ++ (32 ∷ decimal n)) c.register.ensures ∙
    read_pushed (λ (n : ℕ). 32 ∷ decimal n) xs i 0 (string_bytes c.args.out.now) out lt c.loop-number.invariant
