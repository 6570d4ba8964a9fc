use Rattle.std.proofs.Common.{◌∙◌, List, ap}
use Rattle.class_model.specs.State.{process_at}
use Rattle.whole_machine.specs.Parts.{ListedPart, ListedState, state_of}
use Rattle.whole_machine.specs.Steps.{standing}
use Rattle.whole_machine.proofs.state.ModelState.process.Goals as goal

pub returns : goal.returns
returns c =
    c.process_in.ensures c.self.inside.shared ∙ ap (λ (ps : List ListedPart). process_at (standing c.self.inside.shared ps) c.args.name.now) c.as_slice.ensures.value ∙
    ap (λ (m : ListedState). process_at (state_of m) c.args.name.now) c.self.view_is
