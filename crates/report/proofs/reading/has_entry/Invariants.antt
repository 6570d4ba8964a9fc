use Rattle.std.proofs.Common.{◌≡◌, false}
use Rattle.std.specs.Prelude.{is_some}
use Rattle.std.specs.List.{list_any}
use Rattle.lists.specs.Lists.{below}
use Rattle.report.specs.Found.{entry_in}
use Rattle.report.proofs.reading.has_entry.Given as goal

abbrev pub invariant-loop-entry : goal.invariant-loop-entry
invariant-loop-entry l = list_any (λ e. is_some (entry_in l.machine l.class l.seg e)) (below l.entry) ≡ false
