use Rattle.std.proofs.Common.{◌≡◌, ◌<◌, ◌++◌, ◌∷◌, [], List, Option, Some, length, subst, sym}
use Rattle.std.specs.Prelude.{IfOk, OnErr}
use Rattle.class_model.specs.Config.{Shared, Script}
use Rattle.class_model.specs.Shared.{IsScript}
use Rattle.whole_machine.proofs.Filled.{script_tried}
use Rattle.whole_machine.proofs.filling.push_script.Goals as goal

pub invariant_of-shared : goal.invariant_of-shared
invariant_of-shared c =
    let s : Shared = record { table = c.shared.inside.table; pools = c.shared.inside.pools; console = c.shared.inside.console; scripts = c.shared.inside.scripts; gates = c.shared.inside.gates } in
    let few = subst (λ (m : Shared). length m.scripts < 32) (sym c.shared.view_is) c.requires.few in
    let new = subst (λ (m : Shared). (x : Script) → c.args.script ≡ Some x → IsScript m x) (sym c.shared.view_is) c.requires.script in
    let was = c.replace-scripts.ensures.value in
    script_tried s c.args.script c.with_script-scripts.result.0 c.with_script-scripts.result.1 c.shared.invariant few new
    (subst (λ (xs : List (Option Script)). IfOk c.with_script-scripts.result.1 (λ _. c.with_script-scripts.result.0 ≡ xs ++ c.args.script ∷ [])) was c.with_script-scripts.ensures.ok)
    (subst (λ (xs : List (Option Script)). OnErr c.with_script-scripts.result.1 (c.with_script-scripts.result.0 ≡ xs)) was c.with_script-scripts.ensures.err)
