use Rattle.std.specs.List.{flat_map}
use Rattle.lists.specs.Lists.{below}
use Rattle.words_layout.specs.Segments.{seg}
use Rattle.machine.specs.Banks.{machine_of}
use Rattle.report.specs.Parts.{touched_text}
use Rattle.report.specs.Printing.{Pushed}
use Rattle.report.proofs.segments.print_mentor.Given as goal

abbrev pub invariant-loop-serial : goal.invariant-loop-serial
invariant-loop-serial g l =
    Pushed (g.H.Host.ports l.fn.host) (g.H.Host.ports l.host) (flat_map (λ serial. touched_text (machine_of l.machine) l.class (seg l.mentor serial)) (below l.serial))
