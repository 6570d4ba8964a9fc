use Rattle.std.proofs.Common.{◌≡◌, replicate}
use Rattle.whole_machine.specs.Parts.{no_part}
use Rattle.whole_machine.proofs.building.empty_parts.Given as goal

abbrev pub invariant-loop : goal.invariant-loop
invariant-loop l = l.parts.items ≡ replicate l.counter no_part
