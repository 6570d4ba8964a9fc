use Rattle.std.proofs.Common.{◌<◌, length, sym, subst}
use Rattle.config_text.specs.declared.config.GateLine.{GateLine}
use Rattle.loader.specs.Seen.{gate_seen}
use Rattle.loader.proofs.Lists.{copied_more}
use Rattle.loader.proofs.shared.gates_seen.Goals as goal

pub gate_seen-gate-requires-clause-class : goal.gate_seen-gate-requires-clause-class
gate_seen-gate-requires-clause-class c =
    subst (λ (x : GateLine). x.class < length c.args.table.now) (sym c.line-item.is) (c.requires.classes c.loop-line.line-index c.line-item.result c.loop-line-test.true)

pub loop-line-preserved : goal.loop-line-preserved
loop-line-preserved c = copied_more (gate_seen c.args.table.now c.args.view) c.args.lines.now c.loop-line.line-index c.line-item.result c.loop-line.gates.items c.push.new.self.items c.gate_seen-gate.result c.loop-line.invariant c.loop-line-test.true c.line-item.is c.in_ok-push.ensures.items
    c.gate_seen-gate.ensures
