use Rattle.std.proofs.Common.{arith}
use Rattle.std.proofs.lemmas.Result.{err_from_is_err_and}
use Rattle.labels.specs.Label.{no_class}
use Rattle.volume_image.specs.declared.head.Format.TheVariants.{Two}
use Rattle.volume_image.specs.Written.{class_bytes}
use Rattle.volume_image.proofs.Putting.{item_not_put}
use Rattle.volume_image.proofs.writing.put_classes.Goals as goal

pub returns-in_err-put_class : goal.returns-in_err-put_class
returns-in_err-put_class c =
    let p = err_from_is_err_and c.from_residual.result c.from_residual.ensures.1 in
    rw p.1 (item_not_put (class_bytes Two) c.args.table.now c.loop-class.class no_class c.args.out.now c.loop-class.out c.put_class.new.out tt p.0 (omega (arith, c.loop-class-test.true, c.count-class-end.ensures)) c.loop-class.invariant c.in_err-put_class.ensures)
