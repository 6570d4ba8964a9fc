use Rattle.std.proofs.Common.{refl, ap, ◌≤◌, length, ◌∙◌, Some, arith}
use Rattle.words_layout.specs.Segments.{same_seg}
use Rattle.class_model.specs.Config.{SegRecord as RecordValue}
use Rattle.loader.proofs.Searching.{item_found, item_passed, items_ended}
use Rattle.loader.proofs.record_tests.class_among.Goals as goal

pub loop-index-init : goal.loop-index-init
loop-index-init c = refl

pub returns-then-is_same : goal.returns-then-is_same
returns-then-is_same c =
    ap (λ (x : RecordValue). Some x.class) c.item.view_is
    ∙ item_found (λ (x : RecordValue). same_seg x.seg c.args.seg) c.args.records.now c.loop-index.index c.index-records-index.result _ c.is_same.result c.loop-index.invariant c.loop-index-test.true c.index-records-index.is
    (c.is_same.ensures ∙ ap (λ (x : RecordValue). same_seg x.seg c.args.seg) c.item.view_is) c.if-is_same.true

pub loop-index-preserved : goal.loop-index-preserved
loop-index-preserved c =
    item_passed (λ (x : RecordValue). same_seg x.seg c.args.seg) c.args.records.now c.loop-index.index c.index-records-index.result _ c.is_same.result c.loop-index.invariant c.loop-index-test.true c.index-records-index.is
    (c.is_same.ensures ∙ ap (λ (x : RecordValue). same_seg x.seg c.args.seg) c.item.view_is) c.if-is_same.false

pub returns : goal.returns
returns c =
    let past : length c.args.records.now ≤ c.loop-index.index = omega (arith, c.loop-index-test.false) in
    items_ended (λ (x : RecordValue). same_seg x.seg c.args.seg) c.args.records.now c.loop-index.index _ c.loop-index.invariant past
