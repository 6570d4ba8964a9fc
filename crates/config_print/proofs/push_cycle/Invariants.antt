use Rattle.std.specs.Prelude.{string_bytes}
use Rattle.std.proofs.Common.{◌≡◌, ◌++◌, take}
use Rattle.config_text.specs.Written.{blank_numbers}
use Rattle.config_print.proofs.push_cycle.Given as goal

abbrev pub invariant-loop-class : goal.invariant-loop-class
invariant-loop-class l = string_bytes l.out ≡ string_bytes l.initial.out ++ blank_numbers (take l.class-index l.cycle)
