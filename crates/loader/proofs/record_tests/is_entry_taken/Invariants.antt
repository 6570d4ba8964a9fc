use Rattle.std.proofs.Common.{◌≡◌}
use Rattle.loader.specs.Records.{same_entry}
use Rattle.loader.proofs.Searching.{any_from}
use Rattle.loader.proofs.record_tests.is_entry_taken.Given as goal

abbrev pub invariant-loop-index : goal.invariant-loop-index
invariant-loop-index l = any_from (same_entry l.segment) l.front l.earlier l.index ≡ any_from (same_entry l.segment) l.front l.earlier 0
