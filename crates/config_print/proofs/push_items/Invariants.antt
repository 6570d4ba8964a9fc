use Rattle.std.specs.Prelude.{string_bytes}
use Rattle.std.proofs.Common.{◌≡◌, ◌++◌, take}
use Rattle.std.specs.Prelude.{map}
use Rattle.text_lines.specs.Printed.{printed}
use Rattle.config_text.specs.Written.{texts_of, item_line}
use Rattle.config_print.proofs.push_items.Given as goal

abbrev pub invariant-loop-item : goal.invariant-loop-item
invariant-loop-item l = string_bytes l.out ≡ string_bytes l.initial.out ++ printed (texts_of (map item_line (take l.item-index l.items)))
