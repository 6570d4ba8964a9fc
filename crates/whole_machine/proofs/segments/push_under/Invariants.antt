use Rattle.std.specs.Prelude.{string_bytes, map}
use Rattle.std.proofs.Common.{◌≡◌, ◌++◌}
use Rattle.std.specs.List.{flat_map}
use Rattle.lists.specs.Lists.{below}
use Rattle.words_layout.specs.Segments.{seg}
use Rattle.whole_machine.specs.Steps.{standing}
use Rattle.whole_machine.specs.Texts.{cell_text}
use Rattle.whole_machine.proofs.segments.push_under.Given as goal

abbrev pub invariant-loop-serial : goal.invariant-loop-serial
invariant-loop-serial l = string_bytes l.out ≡ string_bytes l.initial.out ++ flat_map (cell_text (standing l.shared l.parts) l.class) (map (λ s. seg l.mentor s) (below l.serial))
