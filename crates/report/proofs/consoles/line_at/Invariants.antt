use Rattle.std.proofs.Common.{◌≡◌, None}
use Rattle.std.specs.List.{flat_map}
use Rattle.lists.specs.Lists.{below}
use Rattle.machine.specs.Banks.{vp_at}
use Rattle.report.specs.Parts.{value_in}
use Rattle.report.proofs.consoles.line_at.Given as goal

abbrev pub invariant-loop-processor : goal.invariant-loop-processor
invariant-loop-processor l = value_in (flat_map (λ p. (vp_at l.machine.banks p l.class).lines) (below l.processor)) l.place ≡ None
