use Rattle.std.specs.List.{flat_map}
use Rattle.lists.specs.Lists.{below}
use Rattle.machine.specs.Banks.{machine_of}
use Rattle.report.specs.Printing.{Pushed}
use Rattle.summary.specs.Summary.{totals_line, machine_totals}
use Rattle.summary.proofs.pushing.push_classes.Given as goal

abbrev pub invariant-loop-class : goal.invariant-loop-class
invariant-loop-class g l =
    Pushed (g.H.Host.ports l.fn.host) (g.H.Host.ports l.host) (flat_map (λ c. totals_line c (machine_totals (machine_of l.machine) c)) (below l.class))
