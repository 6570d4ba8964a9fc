use Rattle.std.specs.List.{flat_map}
use Rattle.lists.specs.Lists.{below}
use Rattle.machine.specs.Banks.{vp_at}
use Rattle.report.specs.Parts.{slots_text}
use Rattle.report.specs.Printing.{Pushed}
use Rattle.report.proofs.processes.print_processes.Given as goal

abbrev pub invariant-loop-processor : goal.invariant-loop-processor
invariant-loop-processor g l =
    Pushed (g.H.Host.ports l.fn.host) (g.H.Host.ports l.host) (flat_map (λ p. slots_text p (vp_at l.machine.banks p l.class)) (below l.processor))
