use Rattle.std.specs.Prelude.{string_bytes}
use Rattle.std.proofs.Common.{◌≡◌, ◌++◌, take}
use Rattle.std.specs.Prelude.{map}
use Rattle.text_lines.specs.Printed.{printed}
use Rattle.config_text.specs.Written.{texts_of, process_line}
use Rattle.config_print.proofs.push_processes.Given as goal

abbrev pub invariant-loop-line : goal.invariant-loop-line
invariant-loop-line l = string_bytes l.out ≡ string_bytes l.initial.out ++ printed (texts_of (map process_line (take l.line-index l.lines)))
