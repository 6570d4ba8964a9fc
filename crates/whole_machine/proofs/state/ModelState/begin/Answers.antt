use Rattle.std.proofs.Common.{◌≡◌, ◌∙◌, [], List, Option, subst}
use Rattle.std.specs.Prelude.{IfOk}
use Rattle.class_model.specs.Config.{Config, Pool, Script, Gate, shared_of}
use Rattle.class_model.specs.Run.{opening}
use Rattle.whole_machine.specs.Parts.{state_of}
use Rattle.whole_machine.proofs.state.ModelState.begin.Goals as goal

pub returns-clause-opening : goal.returns-clause-opening
returns-clause-opening c =
    let P : List Pool → List (Option Script) → List (Option Gate) → Type 0 = λ ps xs gs. IfOk c.opening.result (λ m. (k : Config) →
    shared_of k ≡ record { table = c.args.table; pools = ps; console = c.args.console; scripts = xs; gates = gs } → k.processes ≡ [] → k.records ≡ [] → state_of m ≡ opening k) in
    subst (λ (gs : List (Option Gate)). P c.args.pools.items [] gs) (c.of-3.ensures ∙ c.new-2.ensures.items)
    (subst (λ (xs : List (Option Script)). P c.args.pools.items xs c.of-3.result) (c.of-2.ensures ∙ c.new.ensures.items)
    (subst (λ (ps : List Pool). P ps c.of-2.result c.of-3.result) c.of.ensures c.opening.ensures.opening))
