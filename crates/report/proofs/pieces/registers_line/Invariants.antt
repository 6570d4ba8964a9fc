use Rattle.std.proofs.Common.{◌≡◌, ◌≤◌, ◌+◌, ◌*◌, take, length}
use Rattle.std.specs.Prelude.{codes}
use Rattle.report.proofs.NumberLines.{numbers_behind}
use Rattle.report.proofs.pieces.registers_line.Given as goal

abbrev pub invariant-loop-value : goal.invariant-loop-value
invariant-loop-value l = (l.line ≡ numbers_behind (codes "regs") (take l.value-index l.registers)) × (length l.line ≤ 4 + 21 * l.value-index)
