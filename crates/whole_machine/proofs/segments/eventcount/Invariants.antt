use Rattle.std.specs.Prelude.{sum, map, ◌%◌, ◌^◌}
use Rattle.std.proofs.Common.{◌≡◌, take}
use Rattle.class_model.specs.State.{component_at}
use Rattle.whole_machine.specs.Steps.{standing}
use Rattle.policy.specs.Outcome.{components}
use Rattle.whole_machine.proofs.segments.eventcount.Given as goal

abbrev pub invariant-loop-low : goal.invariant-loop-low
invariant-loop-low l = l.sum ≡ sum (map (λ c. component_at (standing l.shared l.parts) c l.class l.seg) (take l.low-index (components l.shared.table l.class))) % 2 ^ 64
