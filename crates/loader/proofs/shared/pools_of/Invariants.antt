use Rattle.std.proofs.Common.{◌≡◌, ◌++◌, drop, map}
use Rattle.loader.specs.Configuration.{pool_of_text}
use Rattle.loader.proofs.shared.pools_of.Given as goal

abbrev pub invariant-loop-line : goal.invariant-loop-line
invariant-loop-line l = l.pools.items ++ map pool_of_text (drop l.line-index l.lines) ≡ map pool_of_text l.lines
