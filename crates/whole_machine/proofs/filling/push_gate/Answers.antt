use Rattle.std.proofs.Common.{◌≡◌, ◌<◌, ◌++◌, ◌∷◌, [], List, Option, Some, length, subst, sym}
use Rattle.std.specs.Prelude.{IfOk, OnErr}
use Rattle.class_model.specs.Config.{Shared, Gate}
use Rattle.class_model.specs.Shared.{IsGate}
use Rattle.whole_machine.proofs.Filled.{gate_tried}
use Rattle.whole_machine.proofs.filling.push_gate.Goals as goal

pub invariant_of-shared : goal.invariant_of-shared
invariant_of-shared c =
    let s : Shared = record { table = c.shared.inside.table; pools = c.shared.inside.pools; console = c.shared.inside.console; scripts = c.shared.inside.scripts; gates = c.shared.inside.gates } in
    let few = subst (λ (m : Shared). length m.gates < 32) (sym c.shared.view_is) c.requires.few in
    let new = subst (λ (m : Shared). (x : Gate) → c.args.gate ≡ Some x → IsGate m x) (sym c.shared.view_is) c.requires.gate in
    let was = c.replace-gates.ensures.value in
    gate_tried s c.args.gate c.with_gate-gates.result.0 c.with_gate-gates.result.1 c.shared.invariant few new
    (subst (λ (xs : List (Option Gate)). IfOk c.with_gate-gates.result.1 (λ _. c.with_gate-gates.result.0 ≡ xs ++ c.args.gate ∷ [])) was c.with_gate-gates.ensures.ok)
    (subst (λ (xs : List (Option Gate)). OnErr c.with_gate-gates.result.1 (c.with_gate-gates.result.0 ≡ xs)) was c.with_gate-gates.ensures.err)
