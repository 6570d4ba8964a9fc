use Rattle.std.proofs.Common.{ℕ, ◌<◌, ◌≡◌, ◌≢◌, length}
use Rattle.labels.specs.Label.{label_of}
use Rattle.labels.proofs.table.ClassTable.index_of.Given as goal

abbrev pub invariant-loop-class : goal.invariant-loop-class
invariant-loop-class l = ((i : ℕ) → i < l.class → label_of l.self i ≢ l.label) × (l.class-end ≡ length l.self)
