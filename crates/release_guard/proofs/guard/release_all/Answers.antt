use Rattle.std.proofs.Common.{Err, refl, sym, subst}
use Rattle.release_guard.specs.Working.{Carries}
use Rattle.release_guard.proofs.Releasing.{begun, one_more, one_right, one_lacks, all_right, all_made}
use Rattle.release_guard.proofs.guard.release_all.Goals as goal

pub loop-release-init : goal.loop-release-init
loop-release-init c = record { right = tt; made = begun c.args.releases.now c.args.records.now c.in_ok-working.working.items c.in_ok-working.ensures }

pub loop-release-preserved : goal.loop-release-preserved
loop-release-preserved c = record {
  right = one_right c.args.releases.now c.loop-release.release-index _ _ c.args.records.now c.loop-release-test.true refl c.loop-release.invariant.right c.in-Ok.ensures.code;
  made = one_more c.args.releases.now c.loop-release.release-index _ _ c.args.records.now c.loop-release.working.items c.put_words.new.records.items c.in-Ok.words.now c.loop-release-test.true refl c.loop-release.invariant.made c.in-Ok.ensures.words c.in_ok-put_words-in-Ok.ensures;
}

pub returns-in-Err : goal.returns-in-Err
returns-in-Err c =
    subst (λ e. Carries c.args.releases.now c.args.records.now (Err e)) (sym c.fault_of.ensures)
    (one_lacks c.args.releases.now c.loop-release.release-index _ _ c.args.records.now c.in-Err.lack c.loop-release-test.true refl c.loop-release.invariant.right c.in-Err.ensures.code)

pub returns : goal.returns
returns c = (
  all_right c.args.releases.now c.loop-release.release-index c.args.records.now c.loop-release-test.false c.loop-release.invariant.right,
  all_made c.args.releases.now c.loop-release.release-index c.args.records.now c.loop-release.working.items c.loop-release-test.false c.loop-release.invariant.made,
)
