use Rattle.data_gates.specs.Updating.{act_of, doing_of}
use Rattle.process.proofs.Stepping.{alone_turned}
use Rattle.process.proofs.steps.step_update.Goals as goal

pub returns : goal.returns
returns c =
    let g = c.args.gate.now in
    let done = c.absorb-outcome.ensures in
    let turn = alone_turned (act_of g) (doing_of g) c.args.answer c.args.state.now c.requires.gate.1 done.outcome done.doing c.turn_step.ensures.state c.turn_step.ensures.step in
    record { told = turn.told; doing = turn.doing; gate = λ on. (done.class, turn.goes on) }
