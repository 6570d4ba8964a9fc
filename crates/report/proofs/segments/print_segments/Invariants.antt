use Rattle.std.specs.List.{flat_map}
use Rattle.lists.specs.Lists.{below}
use Rattle.machine.specs.Banks.{machine_of}
use Rattle.report.specs.Parts.{mentor_text}
use Rattle.report.specs.Printing.{Pushed}
use Rattle.report.proofs.segments.print_segments.Given as goal

abbrev pub invariant-loop-mentor : goal.invariant-loop-mentor
invariant-loop-mentor g l =
    Pushed (g.H.Host.ports l.fn.host) (g.H.Host.ports l.host) (flat_map (λ mentor. mentor_text (machine_of l.machine) l.class mentor) (below l.mentor))
