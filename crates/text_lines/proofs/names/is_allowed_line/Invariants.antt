use Rattle.std.proofs.Common.{◌≡◌, take}
use Rattle.std.specs.List.{list_all}
use Rattle.text_lines.specs.Name.{is_allowed}
use Rattle.text_lines.proofs.names.is_allowed_line.Given as goal

abbrev pub invariant-loop-byte : goal.invariant-loop-byte
invariant-loop-byte l = l.all ≡ list_all is_allowed (take l.byte-index l.line)
