use Rattle.std.proofs.Common.{refl, ◌≤◌, length, arith}
use Rattle.loader.specs.Records.{is_kept}
use Rattle.loader.proofs.Searching.{count_more, count_small, count_ended}
use Rattle.loader.proofs.record_tests.kept_of.Goals as goal

pub loop-index-init : goal.loop-index-init
loop-index-init c = refl

pub overflow_add-count : goal.overflow_add-count
overflow_add-count c =
    let small = count_small (is_kept c.args.class) c.args.volumes.now c.loop-index.index c.index-volumes-index.result c.list.result.now c.loop-index.count c.kept_among-count.result c.loop-index.invariant c.loop-index-test.true c.list.ensures c.kept_among-count.ensures in
    omega (arith, small, c.requires)

pub loop-index-preserved : goal.loop-index-preserved
loop-index-preserved c =
    count_more (is_kept c.args.class) c.args.volumes.now c.loop-index.index c.index-volumes-index.result c.list.result.now c.loop-index.count c.kept_among-count.result c.loop-index.invariant c.loop-index-test.true c.list.ensures c.kept_among-count.ensures

pub returns : goal.returns
returns c =
    let past : length c.args.volumes.now ≤ c.loop-index.index = omega (arith, c.loop-index-test.false) in
    count_ended (is_kept c.args.class) c.args.volumes.now c.loop-index.index c.loop-index.count c.loop-index.invariant past
