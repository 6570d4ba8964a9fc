use Rattle.std.proofs.Common.{refl, ◌≤◌, length, ◌∙◌, arith}
use Rattle.words_layout.specs.Segments.{same_seg}
use Rattle.class_model.specs.Config.{SegRecord as RecordValue}
use Rattle.loader.proofs.Searching.{any_found, any_passed, any_ended}
use Rattle.loader.proofs.record_tests.stood.Goals as goal

pub loop-index-init : goal.loop-index-init
loop-index-init c = refl

pub returns-then-has_identity : goal.returns-then-has_identity
returns-then-has_identity c =
    any_found (λ (x : RecordValue). same_seg x.seg c.args.seg) c.args.front.now c.args.earlier.now c.loop-index.index c.index-earlier-index.result c.list.result.now _ c.has_identity.result c.loop-index.invariant c.loop-index-test.true c.list.ensures c.has_identity.ensures c.if-has_identity.true

pub loop-index-preserved : goal.loop-index-preserved
loop-index-preserved c =
    any_passed (λ (x : RecordValue). same_seg x.seg c.args.seg) c.args.front.now c.args.earlier.now c.loop-index.index c.index-earlier-index.result c.list.result.now _ c.has_identity.result c.loop-index.invariant c.loop-index-test.true c.list.ensures c.has_identity.ensures c.if-has_identity.false

pub returns : goal.returns
returns c =
    let past : length c.args.earlier.now ≤ c.loop-index.index = omega (arith, c.loop-index-test.false) in
    c.has_identity-2.ensures ∙ any_ended (λ (x : RecordValue). same_seg x.seg c.args.seg) c.args.front.now c.args.earlier.now c.loop-index.index _ c.loop-index.invariant past
