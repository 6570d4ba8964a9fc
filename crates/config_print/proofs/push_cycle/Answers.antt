use Rattle.std.specs.Prelude.{string_bytes}
use Rattle.std.proofs.Common.{◌≡◌, ℕ, List, take, ◌∙◌, arith}
use Rattle.std.proofs.lemmas.List.{take_all}
use Rattle.config_print.proofs.Pieces.{cycle_pieces}
use Rattle.config_print.proofs.push_cycle.Goals as goal

pub returns : goal.returns
returns c =
    let whole : take c.loop-class.class-index c.args.cycle.now ≡ c.args.cycle.now = take_all c.loop-class.class-index c.args.cycle.now (omega (arith, c.loop-class-test.false)) in
    c.in_ok-push_str-3.ensures.bytes ∙ simp (c.loop-class.invariant, c.in_ok-push_str.ensures.bytes, whole) (cycle_pieces (string_bytes c.args.out.now) c.args.cycle.now)
