use Rattle.std.proofs.Common.{◌≡◌, replicate, None}
use Rattle.whole_machine.proofs.part.PartState.new.Given as goal

abbrev pub invariant-loop : goal.invariant-loop
invariant-loop l = l.bank.items ≡ replicate l.counter None
