use Rattle.std.proofs.Common.{refl, ◌≤◌, length, arith}
use Rattle.words_layout.specs.Segments.{same_seg}
use Rattle.class_model.specs.Config.{SegRecord as RecordValue}
use Rattle.loader.proofs.Searching.{class_found, class_passed, classes_ended}
use Rattle.loader.proofs.record_tests.class_of.Goals as goal

pub loop-index-init : goal.loop-index-init
loop-index-init c = refl

pub returns-in-Some : goal.returns-in-Some
returns-in-Some c =
    class_found (λ (x : RecordValue). same_seg x.seg c.args.seg) c.args.volumes.now c.loop-index.index c.index-volumes-index.result c.list.result.now _ c.class_among.result c.in-Some.class c.loop-index.invariant c.loop-index-test.true c.list.ensures c.class_among.ensures c.in-Some.is

pub loop-index-preserved : goal.loop-index-preserved
loop-index-preserved c =
    class_passed (λ (x : RecordValue). same_seg x.seg c.args.seg) c.args.volumes.now c.loop-index.index c.index-volumes-index.result c.list.result.now _ c.class_among.result c.loop-index.invariant c.loop-index-test.true c.list.ensures c.class_among.ensures c.in_default.is

pub returns : goal.returns
returns c =
    let past : length c.args.volumes.now ≤ c.loop-index.index = omega (arith, c.loop-index-test.false) in
    classes_ended (λ (x : RecordValue). same_seg x.seg c.args.seg) c.args.volumes.now c.loop-index.index _ c.loop-index.invariant past
