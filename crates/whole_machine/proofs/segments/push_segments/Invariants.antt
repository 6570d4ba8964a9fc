use Rattle.std.specs.Prelude.{string_bytes}
use Rattle.std.proofs.Common.{◌≡◌, ◌++◌}
use Rattle.std.specs.List.{flat_map}
use Rattle.class_model.specs.State.{identities}
use Rattle.whole_machine.specs.Steps.{standing}
use Rattle.whole_machine.specs.Texts.{cell_text}
use Rattle.whole_machine.proofs.segments.push_segments.Given as goal

abbrev pub invariant-loop-mentor : goal.invariant-loop-mentor
invariant-loop-mentor l = string_bytes l.out ≡ string_bytes l.initial.out ++ flat_map (cell_text (standing l.shared l.parts) l.class) (identities l.mentor)
