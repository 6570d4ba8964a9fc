use Rattle.std.specs.Prelude.{string_bytes}
use Rattle.std.proofs.Common.{◌≡◌, ◌++◌, take}
use Rattle.text_lines.specs.Printed.{printed}
use Rattle.config_text.specs.Written.{texts_of, class_lines}
use Rattle.config_print.proofs.push_classes.Given as goal

abbrev pub invariant-loop-class : goal.invariant-loop-class
invariant-loop-class l = string_bytes l.out ≡ string_bytes l.initial.out ++ printed (texts_of (class_lines (take l.class l.table) (take l.class l.pools)))
