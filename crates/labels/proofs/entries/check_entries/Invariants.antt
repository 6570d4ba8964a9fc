use Rattle.std.specs.Prelude.{map}
use Rattle.labels.specs.Table.{entry_of, AreSound}
use Rattle.labels.proofs.entries.check_entries.Given as goal

abbrev pub invariant-loop-index : goal.invariant-loop-index
invariant-loop-index l = AreSound (map entry_of l.entries) l.index
