use Rattle.std.specs.Prelude.{string_bytes}
use Rattle.std.proofs.Common.{◌≡◌, ℕ, List, ◌++◌, sym, ap, ◌∙◌, append_assoc, arith}
use Rattle.config_print.proofs.Pieces.{classes_more}
use Rattle.config_print.proofs.push_classes.Goals as goal

pub loop-class-preserved : goal.loop-class-preserved
loop-class-preserved c =
    c.in_ok-push_pool.ensures ∙ rw (c.in_ok-push_class.ensures, c.loop-class.invariant, c.name.ensures, c.label.ensures)
    (classes_more (string_bytes c.args.out.now) c.args.table.now c.args.pools.now c.loop-class.class _ (omega (arith, c.count-class-end.ensures)) c.requires)
