use Rattle.std.proofs.Common.{arith}
use Rattle.safe_save.proofs.Syncs.{no_sync_more, settled_to, none_before}
use Rattle.safe_save.proofs.record.synced_count.Goals as goal

pub returns-in-Synced-clause-settled : goal.returns-in-Synced-clause-settled
returns-in-Synced-clause-settled c payload image = settled_to payload image c.args.entries.now c.loop-count.count _ c.loop-count-test.true c.loop-count.invariant.bound c.in-Synced.is

pub loop-count-preserved : goal.loop-count-preserved
loop-count-preserved c =
    let bound = c.loop-count.invariant.bound in
    record {
      bound = omega arith;
      rest = λ payload. no_sync_more payload c.args.entries.now c.loop-count.count _ c.loop-count-test.true bound c.in_default.not-Synced (c.loop-count.invariant.rest payload);
    }

pub returns-clause-rest : goal.returns-clause-rest
returns-clause-rest c payload = none_before payload c.args.entries.now c.loop-count.count c.loop-count-test.false (c.loop-count.invariant.rest payload)
