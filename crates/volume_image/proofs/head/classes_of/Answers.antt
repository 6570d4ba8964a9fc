use Rattle.std.proofs.Common.{arith}
use Rattle.std.proofs.lemmas.Result.{err_from_is_err_and}
use Rattle.volume_image.specs.Fields.{classes_at}
use Rattle.volume_image.proofs.Loops.{class_goes_on, class_ends, classes_done}
use Rattle.volume_image.proofs.head.classes_of.Goals as goal

pub returns-in_err-rest : goal.returns-in_err-rest
returns-in_err-rest c =
    let p = err_from_is_err_and c.from_residual.result c.from_residual.ensures.1 in
    rw (p.1, p.2) (class_ends c.in_err-rest.field-0.0 c.args.format c.args.table.now c.loop-class.class c.loop-class.rest.now (classes_at c.args.format c.args.table.now c.args.bytes.now) (omega (arith, c.loop-class-test.true, c.count-class-end.ensures)) c.in_err-rest.ensures c.loop-class.invariant)

pub loop-class-preserved : goal.loop-class-preserved
loop-class-preserved c =
    class_goes_on c.args.format c.args.table.now c.loop-class.class c.loop-class.rest.now c.in_ok-rest.rest.now (classes_at c.args.format c.args.table.now c.args.bytes.now) (omega (arith, c.loop-class-test.true, c.count-class-end.ensures)) c.in_ok-rest.ensures c.loop-class.invariant

pub returns : goal.returns
returns c = classes_done c.args.format c.args.table.now c.loop-class.class c.loop-class.rest.now (classes_at c.args.format c.args.table.now c.args.bytes.now) (omega (arith, c.loop-class-test.false, c.count-class-end.ensures)) c.loop-class.invariant
