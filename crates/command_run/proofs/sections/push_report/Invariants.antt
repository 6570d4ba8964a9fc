use Rattle.std.specs.List.{flat_map}
use Rattle.lists.specs.Lists.{below}
use Rattle.machine.specs.Banks.{machine_of}
use Rattle.report.specs.Printing.{Pushed}
use Rattle.report.specs.Reported.{section}
use Rattle.command_run.proofs.sections.push_report.Given as goal

abbrev pub invariant-loop-class : goal.invariant-loop-class
invariant-loop-class g l = Pushed (g.H.Host.ports l.fn.host) (g.H.Host.ports l.host) (flat_map (λ c. section c (machine_of l.machine)) (below l.class))
