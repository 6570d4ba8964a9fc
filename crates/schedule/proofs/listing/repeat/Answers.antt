use Rattle.schedule.proofs.Draws.{repeat_on}
use Rattle.schedule.proofs.listing.repeat.Goals as goal

pub loop-preserved : goal.loop-preserved
loop-preserved c = repeat_on _ _ _ _ _ _ c.in_ok-push.ensures.items c.loop-test.true c.loop.invariant
