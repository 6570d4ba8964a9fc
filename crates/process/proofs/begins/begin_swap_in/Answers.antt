use Rattle.std.proofs.Common.{◌∙◌}
use Rattle.policy.specs.Private.{swap_in_tests}
use Rattle.turns.specs.Doing.{ClassTurn}
use Rattle.swap_gates.specs.Swap.{swap_in_body}
use Rattle.process.proofs.Bodied.{swap_in_replies}
use Rattle.process.proofs.Beginning.{begins_told, nesting_begun}
use Rattle.process.proofs.begins.begin_swap_in.Goals as goal

pub returns-clause-held : goal.returns-clause-held
returns-clause-held c =
    let told = begins_told c.args.known.now (swap_in_tests c.args.who.now.ring) (λ k. ClassTurn (swap_in_body c.args.frames k)) _ _ c.args.answer c.start-gate.ensures.act c.requires.usable c.requires.passed c.start-gate.ensures.fresh in (
      c.absorb.ensures.class ∙ c.start-gate.ensures.class,
      nesting_begun (swap_in_body c.args.frames c.args.known.now) c.args.answer _ _ _ _ told c.absorb.ensures.doing c.start-gate.ensures.reply c.absorb.ensures.reply (swap_in_replies c.args.frames c.args.known.now),
    )
