use Rattle.std.specs.Prelude.{string_bytes}
use Rattle.std.proofs.Common.{◌≡◌, ◌++◌, take}
use Rattle.std.specs.List.{flat_map}
use Rattle.class_model.specs.Report.{entry_text}
use Rattle.class_model.specs.Section.{seen_entries}
use Rattle.whole_machine.proofs.segments.push_entries.Given as goal

abbrev pub invariant-loop-number : goal.invariant-loop-number
invariant-loop-number l = string_bytes l.out ≡ string_bytes l.initial.out ++ flat_map entry_text (seen_entries (take l.number l.entries))
