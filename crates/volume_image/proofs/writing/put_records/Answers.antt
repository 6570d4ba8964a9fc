use Rattle.std.proofs.Common.{arith}
use Rattle.std.proofs.lemmas.Result.{err_from_is_err_and}
use Rattle.volume_image.specs.Written.{record_bytes}
use Rattle.volume_image.proofs.Putting.{item_not_put}
use Rattle.volume_image.proofs.writing.put_records.Goals as goal

pub returns-in_err-put_record : goal.returns-in_err-put_record
returns-in_err-put_record c =
    let p = err_from_is_err_and c.from_residual.result c.from_residual.ensures.1 in
    rw p.1 (item_not_put record_bytes c.args.records.now c.loop-index.index c.index-records-index.result c.args.out.now c.loop-index.out c.put_record.new.out tt p.0 (omega (arith, c.loop-index-test.true)) c.loop-index.invariant (rw (← c.index-records-index.is) c.in_err-put_record.ensures))
