use Rattle.std.proofs.Common.{◌≡◌, ◌++◌, drop, map}
use Rattle.loader.specs.Seen.{script_seen}
use Rattle.loader.proofs.shared.scripts_seen.Given as goal

abbrev pub invariant-loop-line : goal.invariant-loop-line
invariant-loop-line l = l.scripts.items ++ map (script_seen l.table l.view) (drop l.line-index l.lines) ≡ map (script_seen l.table l.view) l.lines
