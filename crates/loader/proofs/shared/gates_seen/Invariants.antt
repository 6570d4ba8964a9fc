use Rattle.std.proofs.Common.{◌≡◌, ◌++◌, drop, map}
use Rattle.loader.specs.Seen.{gate_seen}
use Rattle.loader.proofs.shared.gates_seen.Given as goal

abbrev pub invariant-loop-line : goal.invariant-loop-line
invariant-loop-line l = l.gates.items ++ map (gate_seen l.table l.view) (drop l.line-index l.lines) ≡ map (gate_seen l.table l.view) l.lines
