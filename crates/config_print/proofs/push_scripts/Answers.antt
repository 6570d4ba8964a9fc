use Rattle.std.specs.Prelude.{string_bytes}
use Rattle.std.proofs.Common.{◌≡◌, ℕ, List, ◌++◌, sym, ap, ◌∙◌, append_assoc}
use Rattle.config_print.proofs.Pieces.{scripts_more}
use Rattle.config_print.proofs.push_scripts.Goals as goal

pub loop-script-preserved : goal.loop-script-preserved
loop-script-preserved c =
    let more = scripts_more c.args.scripts.now c.loop-script.script-index c.script-item.result c.loop-script-test.true c.script-item.is in
    c.in_ok-push_script.ensures ∙ rw (c.loop-script.invariant, append_assoc) (ap (λ (t : List ℕ). (string_bytes c.args.out.now) ++ t) (sym more))
