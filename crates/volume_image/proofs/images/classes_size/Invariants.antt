use Rattle.std.proofs.Common.{◌≡◌, ◌≤◌, ◌*◌, take, length}
use Rattle.std.specs.List.{flat_map}
use Rattle.volume_image.specs.declared.head.Format.TheVariants.{Two}
use Rattle.volume_image.specs.Written.{class_bytes}
use Rattle.volume_image.proofs.images.classes_size.Given as goal

abbrev pub invariant-loop-class : goal.invariant-loop-class
invariant-loop-class l = record {
  size : l.size ≡ length (flat_map (class_bytes Two) (take l.class l.table));
  few : l.size ≤ 27 * l.class;
}
