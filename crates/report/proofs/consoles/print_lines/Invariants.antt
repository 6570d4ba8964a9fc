use Rattle.std.specs.List.{flat_map}
use Rattle.lists.specs.Lists.{below}
use Rattle.machine.specs.Banks.{machine_of}
use Rattle.machine.specs.Reading.{buffered}
use Rattle.report.specs.Parts.{value_text, value_in}
use Rattle.report.specs.Printing.{Pushed}
use Rattle.report.proofs.consoles.print_lines.Given as goal

abbrev pub invariant-loop-place : goal.invariant-loop-place
invariant-loop-place g l =
    Pushed (g.H.Host.ports l.fn.host) (g.H.Host.ports l.host) (flat_map (λ place. value_text (value_in (buffered ((machine_of l.machine).part l.class)) place)) (below l.place))
