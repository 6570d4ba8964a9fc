use Rattle.std.proofs.Common.{◌≡◌, take, None}
use Rattle.report.specs.Parts.{value_in}
use Rattle.report.proofs.consoles.value_in.Given as goal

abbrev pub invariant-loop-line : goal.invariant-loop-line
invariant-loop-line l = value_in (take l.line-index l.lines) l.place ≡ None
