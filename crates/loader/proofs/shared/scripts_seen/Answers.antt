use Rattle.std.proofs.Common.{◌<◌, length, sym, subst}
use Rattle.config_text.specs.declared.config.Script.{Script as ScriptText}
use Rattle.loader.specs.Seen.{script_seen}
use Rattle.loader.proofs.Lists.{copied_more}
use Rattle.loader.proofs.shared.scripts_seen.Goals as goal

pub script_seen-requires-clause-class : goal.script_seen-requires-clause-class
script_seen-requires-clause-class c =
    subst (λ (x : ScriptText). x.class < length c.args.table.now) (sym c.line-item.is) (c.requires.classes c.loop-line.line-index c.line-item.result c.loop-line-test.true)

pub loop-line-preserved : goal.loop-line-preserved
loop-line-preserved c = copied_more (script_seen c.args.table.now c.args.view) c.args.lines.now c.loop-line.line-index c.line-item.result c.loop-line.scripts.items c.push.new.self.items c.in_ok-script.script c.loop-line.invariant c.loop-line-test.true c.line-item.is c.in_ok-push.ensures.items
    c.in_ok-script.ensures
