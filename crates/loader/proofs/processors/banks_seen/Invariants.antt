use Rattle.std.proofs.Common.{◌≡◌, map}
use Rattle.lists.specs.Lists.{below}
use Rattle.loader.specs.Loading.{loaded_bank}
use Rattle.loader.proofs.processors.banks_seen.Given as goal

abbrev pub invariant-loop-processor : goal.invariant-loop-processor
invariant-loop-processor l = l.banks.items ≡ map (loaded_bank l.config l.view) (below l.processor)
