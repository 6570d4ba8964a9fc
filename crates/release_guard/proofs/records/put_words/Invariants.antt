use Rattle.std.proofs.Common.{◌≡◌, ◌++◌, map, take, drop}
use Rattle.release_guard.specs.Working.{renewed}
use Rattle.release_guard.proofs.records.put_words.Given as goal

abbrev pub invariant-loop-segment : goal.invariant-loop-segment
invariant-loop-segment l = l.segment-items ≡ map (renewed l.to l.words) (take l.segment-index l.initial.segment-items) ++ drop l.segment-index l.initial.segment-items
