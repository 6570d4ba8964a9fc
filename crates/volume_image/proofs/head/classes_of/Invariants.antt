use Rattle.std.proofs.Common.{◌≡◌, drop}
use Rattle.volume_image.specs.Fields.{classes_at}
use Rattle.volume_image.proofs.head.classes_of.Given as goal

abbrev pub invariant-loop-class : goal.invariant-loop-class
invariant-loop-class l = classes_at l.format (drop l.class l.table) l.rest ≡ classes_at l.format l.table l.bytes
