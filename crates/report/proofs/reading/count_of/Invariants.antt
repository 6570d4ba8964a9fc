use Rattle.std.proofs.Common.{◌≡◌, ◌%◌, ◌^◌, map}
use Rattle.std.specs.Prelude.{sum}
use Rattle.std.specs.List.{filter}
use Rattle.lists.specs.Lists.{below}
use Rattle.labels.specs.Label.{at_or_below}
use Rattle.words_layout.specs.Named.{words_in}
use Rattle.report.proofs.reading.count_of.Given as goal

abbrev pub invariant-loop-low : goal.invariant-loop-low
invariant-loop-low l = l.sum ≡ sum (map (λ c. (words_in l.machine.words c).component l.class l.seg) (filter (λ c. at_or_below l.machine.shared.table c l.class) (below l.low))) % 2 ^ 64
