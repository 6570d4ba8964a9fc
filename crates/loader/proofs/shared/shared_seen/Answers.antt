use Rattle.std.proofs.Common.{◌<◌, refl, ap, sym, subst, ◌∙◌, map, length}
use Rattle.std.specs.List.{All}
use Rattle.config_text.specs.declared.config.Script.{Script as ScriptText}
use Rattle.config_text.specs.declared.config.GateLine.{GateLine}
use Rattle.loader.specs.Configuration.{pool_of_text}
use Rattle.loader.specs.Seen.{script_seen, gate_seen}
use Rattle.loader.proofs.Seen.{script_classes, gate_classes}
use Rattle.loader.proofs.Copies.{copies_are, copies_fit}
use Rattle.loader.proofs.shared.shared_seen.Goals as goal

pub scripts_seen-requires-clause-classes : goal.scripts_seen-requires-clause-classes
scripts_seen-requires-clause-classes c =
    subst (All (λ (x : ScriptText). x.class < length c.args.config.now.table)) (sym c.as_slice-2.ensures) (script_classes c.args.config.now c.requires.valid)

pub gates_seen-requires-clause-classes : goal.gates_seen-requires-clause-classes
gates_seen-requires-clause-classes c =
    subst (All (λ (g : GateLine). g.class < length c.args.config.now.table)) (sym c.as_slice-3.ensures) (gate_classes c.args.config.now c.requires.valid)

pub invariant_of-result : goal.invariant_of-result
invariant_of-result c = copies_fit c.args.config.now c.args.view c.in_ok-table.table c.in_ok-pools.pools c.args.config.now.console c.in_ok-scripts.scripts c.in_ok-gates.gates c.in_ok-table.ensures
    (c.in_ok-pools.ensures ∙ ap (map pool_of_text) c.as_slice.ensures) refl (c.in_ok-scripts.ensures ∙ ap (map (script_seen c.args.config.now.table c.args.view)) c.as_slice-2.ensures)
    (c.in_ok-gates.ensures ∙ ap (map (gate_seen c.args.config.now.table c.args.view)) c.as_slice-3.ensures) c.requires.valid

pub returns : goal.returns
returns c = copies_are c.args.config.now c.args.view c.in_ok-table.table c.in_ok-pools.pools c.args.config.now.console c.in_ok-scripts.scripts c.in_ok-gates.gates c.in_ok-table.ensures
    (c.in_ok-pools.ensures ∙ ap (map pool_of_text) c.as_slice.ensures) refl (c.in_ok-scripts.ensures ∙ ap (map (script_seen c.args.config.now.table c.args.view)) c.as_slice-2.ensures)
    (c.in_ok-gates.ensures ∙ ap (map (gate_seen c.args.config.now.table c.args.view)) c.as_slice-3.ensures)
