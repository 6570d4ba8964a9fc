use Rattle.std.proofs.Common.{◌≡◌, ◌+◌, ◌*◌, ◌≤◌, ◌++◌, length}
use Rattle.labels.specs.Spelling.{listed, joined}
use Rattle.labels.specs.Printing.{has_any}
use Rattle.labels.proofs.printing.push_categories.Given as goal

abbrev pub invariant-loop-category : goal.invariant-loop-category
invariant-loop-category l = (l.out.bytes ≡ l.initial.out.bytes ++ joined (listed l.category l.word)) × (l.any ≡ has_any (listed l.category l.word)) × (length l.out.bytes ≤ length l.initial.out.bytes + 3 * l.category)
