use Rattle.std.specs.Prelude.{string_bytes, codes}
use Rattle.std.proofs.Common.{◌≡◌, ◌++◌, ◌∷◌, [], take}
use Rattle.std.specs.Fmt.{decimal}
use Rattle.std.specs.List.{flat_map}
use Rattle.class_model.specs.Report.{line_of}
use Rattle.whole_machine.proofs.text.push_lines.Given as goal

abbrev pub invariant-loop-line : goal.invariant-loop-line
invariant-loop-line l = string_bytes l.out ≡ string_bytes l.initial.out ++ flat_map (λ v. line_of (codes "line" ∷ decimal v ∷ [])) (take l.line-index l.lines)
