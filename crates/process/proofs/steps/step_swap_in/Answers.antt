use Rattle.swap_gates.specs.SwappingIn.{act_of, doing_of}
use Rattle.process.proofs.Stepping.{nesting_turned}
use Rattle.process.proofs.steps.step_swap_in.Goals as goal

pub returns : goal.returns
returns c =
    let g = c.args.gate.now in
    let done = c.absorb-outcome.ensures in
    let turn = nesting_turned (act_of g) (doing_of g) c.args.answer c.args.state.now c.requires.gate.1 c.effect-kept.ensures c.effect.ensures
    done.outcome done.reply done.doing c.turn_step.ensures.state c.turn_step.ensures.step in
    record { told = turn.told; doing = turn.doing; gate = λ on. (done.class, turn.goes on) }
