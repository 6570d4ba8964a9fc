use Rattle.std.proofs.Common.{None}
use Rattle.std.specs.Prelude.{slice_index_or}
use Rattle.std.specs.List.{flat_map}
use Rattle.lists.specs.Lists.{below}
use Rattle.report.specs.Parts.{slot_text}
use Rattle.report.specs.Printing.{Pushed}
use Rattle.report.proofs.processes.print_slots.Given as goal

abbrev pub invariant-loop-slot : goal.invariant-loop-slot
invariant-loop-slot g l =
    Pushed (g.H.Host.ports l.fn.host) (g.H.Host.ports l.host) (flat_map (λ slot. slot_text l.processor slot (slice_index_or l.here.slots slot None)) (below l.slot))
