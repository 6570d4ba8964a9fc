use Rattle.std.proofs.Common.{refl, ◌≤◌, length, ◌∙◌, arith}
use Rattle.loader.specs.Records.{same_entry}
use Rattle.loader.proofs.Searching.{any_found, any_passed, any_ended}
use Rattle.loader.proofs.record_tests.is_entry_taken.Goals as goal

pub loop-index-init : goal.loop-index-init
loop-index-init c = refl

pub returns-then-has_entry : goal.returns-then-has_entry
returns-then-has_entry c =
    any_found (same_entry c.args.segment.now) c.args.front.now c.args.earlier.now c.loop-index.index c.index-earlier-index.result c.list.result.now _ c.has_entry.result c.loop-index.invariant c.loop-index-test.true c.list.ensures c.has_entry.ensures c.if-has_entry.true

pub loop-index-preserved : goal.loop-index-preserved
loop-index-preserved c =
    any_passed (same_entry c.args.segment.now) c.args.front.now c.args.earlier.now c.loop-index.index c.index-earlier-index.result c.list.result.now _ c.has_entry.result c.loop-index.invariant c.loop-index-test.true c.list.ensures c.has_entry.ensures c.if-has_entry.false

pub returns : goal.returns
returns c =
    let past : length c.args.earlier.now ≤ c.loop-index.index = omega (arith, c.loop-index-test.false) in
    c.has_entry-2.ensures ∙ any_ended (same_entry c.args.segment.now) c.args.front.now c.args.earlier.now c.loop-index.index _ c.loop-index.invariant past
