use Rattle.std.specs.Prelude.{string_bytes}
use Rattle.std.proofs.Common.{◌≡◌, ◌++◌, take}
use Rattle.std.specs.List.{flat_map}
use Rattle.text_lines.specs.Printed.{printed}
use Rattle.config_text.specs.Written.{texts_of, script_lines}
use Rattle.config_print.proofs.push_scripts.Given as goal

abbrev pub invariant-loop-script : goal.invariant-loop-script
invariant-loop-script l = string_bytes l.out ≡ string_bytes l.initial.out ++ printed (texts_of (flat_map script_lines (take l.script-index l.scripts)))
