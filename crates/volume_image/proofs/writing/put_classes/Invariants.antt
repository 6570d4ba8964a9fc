use Rattle.std.proofs.Common.{take, Ok}
use Rattle.std.specs.List.{flat_map}
use Rattle.volume_image.specs.declared.head.Format.TheVariants.{Two}
use Rattle.volume_image.specs.Written.{class_bytes}
use Rattle.volume_image.specs.Puts.{Puts}
use Rattle.volume_image.proofs.writing.put_classes.Given as goal

abbrev pub invariant-loop-class : goal.invariant-loop-class
invariant-loop-class l = Puts l.fn.out l.out (Ok tt) (flat_map (class_bytes Two) (take l.class l.table))
