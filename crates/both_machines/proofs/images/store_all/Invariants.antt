use Rattle.std.proofs.Common.{◌≡◌, length}
use Rattle.both_machines.proofs.images.store_all.Given as goal

abbrev pub invariant-loop-class : goal.invariant-loop-class
invariant-loop-class l = length l.words ≡ length l.fn.words
