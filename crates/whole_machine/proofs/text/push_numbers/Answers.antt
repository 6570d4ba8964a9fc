use Rattle.std.proofs.Common.{[], ◌∷◌, ◌∙◌, ℕ, get_or, append_assoc}
use Rattle.std.specs.Prelude.{string_bytes}
use Rattle.std.specs.Fmt.{decimal}
use Rattle.whole_machine.proofs.Pieces.{read_pushed}
use Rattle.whole_machine.proofs.text.push_numbers.Goals as goal

pub loop-number-preserved : goal.loop-number-preserved
loop-number-preserved c =
    let xs = c.args.numbers.now in
    let i = c.loop-number.number-index in
    c.in_ok-push_named.ensures ∙ append_assoc (string_bytes c.loop-number.out) (32 ∷ []) (decimal (get_or xs i 0)) ∙
    read_pushed (λ (n : ℕ). 32 ∷ decimal n) xs i 0 (string_bytes c.args.out.now) (string_bytes c.loop-number.out) c.loop-number-test.true c.loop-number.invariant
