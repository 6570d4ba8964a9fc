use Rattle.std.specs.List.{flat_map}
use Rattle.lists.specs.Lists.{below}
use Rattle.report.specs.Found.{entry_in}
use Rattle.report.specs.Parts.{alias_text}
use Rattle.report.specs.Printing.{Pushed}
use Rattle.report.proofs.segments.print_entries.Given as goal

abbrev pub invariant-loop-entry : goal.invariant-loop-entry
invariant-loop-entry g l =
    Pushed (g.H.Host.ports l.fn.host) (g.H.Host.ports l.host) (flat_map (λ e. alias_text e (entry_in l.machine l.class l.seg e)) (below l.entry))
