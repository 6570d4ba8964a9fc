use Rattle.std.proofs.Common.{◌∙◌, ap, subst, Option}
use Rattle.policy.specs.Known.{Known}
use Rattle.policy.specs.Outcome.{Outcome}
use Rattle.turns.specs.Doing.{Told}
use Rattle.tree_gates.specs.MakingKnown.{act_of, doing_of, FoundBy}
use Rattle.process.specs.Shows.{IsLooking, IsLearning}
use Rattle.process.specs.Standing.{learnt_by}
use Rattle.process.proofs.Stepping.{begun_look, look_stepped, look_goes, make_known_settles, learning_silent, any_table}
use Rattle.process.proofs.steps.step_make_known.Goals as goal

pub returns-clause-told : goal.returns-clause-told
returns-clause-told c =
    let g = c.args.gate.now in
    let t = c.args.table.now in
    let done = c.absorb-outcome in
    let settled = make_known_settles t g done.new.self c.args.answer done.result c.requires.gate done.ensures.outcome done.ensures.found c.args.state.now in
    look_stepped IsLearning (act_of t g) (doing_of t g) c.args.answer done.result (c.requires.gate.2 t) done.ensures.outcome learning_silent
    c.args.state.now c.take_learnt.new.state c.look_step.result
    (c.take_learnt.ensures ∙ (ap (λ (k : Option Known). learnt_by c.args.state.now done.result k) c.learnt.ensures ∙ settled)) c.look_step.ensures

pub returns-clause-gate : goal.returns-clause-gate
returns-clause-gate c = λ on.
    let g = c.args.gate.now in
    let t = c.args.table.now in
    let done = c.absorb-outcome in
    let begun = begun_look IsLearning (act_of t g) (doing_of t g) c.args.answer (c.requires.gate.2 t) in
    let next = look_goes IsLearning (act_of t g) (doing_of t g) c.args.answer done.result (c.requires.gate.2 t) done.ensures.outcome c.look_step.result c.look_step.ensures on in
    let looks : IsLooking IsLearning (doing_of t done.new.self) = rw (done.ensures.doing, begun) next.0 in
    let found_now = subst (λ (x : Told Outcome). FoundBy g done.new.self x.takes) begun done.ensures.found in
    let found = subst (λ (o : Option Outcome). FoundBy g done.new.self o) next.1 found_now in
    (done.ensures.class, found ∙ c.requires.gate.1, λ other. any_table done.new.self t other looks)
