use Rattle.std.specs.Prelude.{string_bytes}
use Rattle.std.proofs.Common.{◌≡◌, ◌++◌, take}
use Rattle.std.specs.Prelude.{map}
use Rattle.text_lines.specs.Printed.{printed}
use Rattle.config_text.specs.Written.{texts_of, gate_line}
use Rattle.config_print.proofs.push_gates.Given as goal

abbrev pub invariant-loop-gate : goal.invariant-loop-gate
invariant-loop-gate l = string_bytes l.out ≡ string_bytes l.initial.out ++ printed (texts_of (map gate_line (take l.gate-index l.gates)))
