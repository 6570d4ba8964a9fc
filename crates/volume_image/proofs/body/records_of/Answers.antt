use Rattle.std.proofs.lemmas.Result.{err_from_is_err_and}
use Rattle.words_layout.specs.Segments.{seg}
use Rattle.volume_image.specs.Fields.{records_at}
use Rattle.volume_image.proofs.Loops.{record_goes_on, record_ends, records_done}
use Rattle.volume_image.proofs.body.records_of.Goals as goal

pub returns-in_err-record : goal.returns-in_err-record
returns-in_err-record c =
    let p = err_from_is_err_and c.from_residual.result c.from_residual.ensures.1 in
    rw (p.1, p.2) (record_ends c.in_err-record.field-0.0 c.args.format c.args.table.now c.loop.before c.loop.records.items c.args.count c.loop.counter c.loop.rest.now (records_at c.args.format c.args.table.now (seg 0 0) c.args.count c.args.bytes.now) c.loop-test.true c.in_err-record.ensures c.loop.invariant)

pub loop-preserved : goal.loop-preserved
loop-preserved c =
    rw (c.in_ok-push.ensures.items, c.seg_of-before.ensures) (record_goes_on c.args.format c.args.table.now c.loop.before c.loop.records.items c.args.count c.loop.counter c.loop.rest.now c.in_ok-record.record c.in_ok-record.after.now (records_at c.args.format c.args.table.now (seg 0 0) c.args.count c.args.bytes.now) c.loop-test.true c.in_ok-record.ensures c.loop.invariant)

pub returns : goal.returns
returns c = records_done c.args.format c.args.table.now c.loop.before c.loop.records.items c.args.count c.loop.counter c.loop.rest.now (records_at c.args.format c.args.table.now (seg 0 0) c.args.count c.args.bytes.now) c.loop-test.false c.loop.invariant
