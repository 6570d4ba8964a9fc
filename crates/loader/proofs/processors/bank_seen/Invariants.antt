use Rattle.std.proofs.Common.{◌≡◌, map}
use Rattle.lists.specs.Lists.{below}
use Rattle.loader.specs.Loading.{loaded_vp}
use Rattle.loader.proofs.processors.bank_seen.Given as goal

abbrev pub invariant-loop-class : goal.invariant-loop-class
invariant-loop-class l = l.bank.items ≡ map (loaded_vp l.config l.view l.processor) (below l.class)
