use Rattle.std.proofs.Common.{◌≡◌, ◌∙◌, ap, List, ℕ}
use Rattle.policy.specs.Outcome.{Outcome}
use Rattle.turns.specs.Doing.{Told}
use Rattle.data_gates.specs.Fetching.{act_of, doing_of}
use Rattle.process.specs.Shows.{IsFetch}
use Rattle.process.specs.Standing.{fetched_by}
use Rattle.process.proofs.Stepping.{begun_look, look_stepped, look_goes, fetch_settles, fetch_silent}
use Rattle.process.proofs.steps.step_fetch.Goals as goal

pub returns-clause-told : goal.returns-clause-told
returns-clause-told c =
    let g = c.args.gate.now in
    let done = c.absorb-outcome in
    let got : c.as_slice.result.now ≡ done.new.self.words.items = c.as_slice.ensures.value ∙ ap (λ w. w.items) c.words.ensures in
    let settled = fetch_settles c.args.pad done.new.self.words.items (act_of g) (doing_of g) c.args.answer done.result c.requires.gate done.ensures.outcome done.ensures.words c.args.state.now in
    look_stepped (IsFetch c.args.pad) (act_of g) (doing_of g) c.args.answer done.result c.requires.gate done.ensures.outcome (fetch_silent c.args.pad)
    c.args.state.now c.take_fetched.new.state c.look_step.result
    (c.take_fetched.ensures ∙ (ap (λ (ws : List ℕ). fetched_by c.args.state.now done.result c.args.pad ws) got ∙ settled)) c.look_step.ensures

pub returns-clause-doing : goal.returns-clause-doing
returns-clause-doing c =
    let g = c.args.gate.now in
    c.absorb-outcome.ensures.doing ∙ ap (λ (t : Told Outcome). t.doing) (begun_look (IsFetch c.args.pad) (act_of g) (doing_of g) c.args.answer c.requires.gate)

pub returns-clause-gate : goal.returns-clause-gate
returns-clause-gate c = λ on.
    let g = c.args.gate.now in
    let done = c.absorb-outcome in
    let next = look_goes (IsFetch c.args.pad) (act_of g) (doing_of g) c.args.answer done.result c.requires.gate done.ensures.outcome c.look_step.result c.look_step.ensures on in
    rw (done.ensures.doing, begun_look (IsFetch c.args.pad) (act_of g) (doing_of g) c.args.answer c.requires.gate) next.0
