use Rattle.std.proofs.Common.{◌≡◌, ◌/◌, length}
use Rattle.both_machines.proofs.sections.words_of.Given as goal

abbrev pub invariant-loop-addr : goal.invariant-loop-addr
invariant-loop-addr l = length l.words / 34869 ≡ 2
