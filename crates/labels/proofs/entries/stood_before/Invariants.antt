use Rattle.std.proofs.Common.{ℕ, ◌<◌}
use Rattle.std.specs.Prelude.{map}
use Rattle.labels.specs.Label.{class_at}
use Rattle.labels.specs.Table.{entry_of, IsSameEntry}
use Rattle.labels.proofs.entries.stood_before.Given as goal

abbrev pub invariant-loop-earlier : goal.invariant-loop-earlier
invariant-loop-earlier l = (j : ℕ) → j < l.earlier → ¬ IsSameEntry (class_at (map entry_of l.entries) j) (class_at (map entry_of l.entries) l.index)
