use Rattle.std.specs.Prelude.{string_bytes}
use Rattle.std.proofs.Common.{◌≡◌, ℕ, List, ◌++◌, sym, ap, ◌∙◌, append_assoc}
use Rattle.config_text.specs.declared.config.Item.TheVariants.{Events}
use Rattle.config_text.specs.Written.{item_line}
use Rattle.config_print.proofs.Pieces.{mapped_at}
use Rattle.config_print.proofs.push_items.Goals as goal

pub loop-item-preserved : goal.loop-item-preserved
loop-item-preserved c =
    let more = mapped_at item_line c.args.items.now c.loop-item.item-index (Events 0 0 0) c.loop-item-test.true in
    c.in_ok-push_item.ensures ∙ rw (c.loop-item.invariant, append_assoc) (ap (λ (t : List ℕ). (string_bytes c.args.out.now) ++ t) (sym more))
