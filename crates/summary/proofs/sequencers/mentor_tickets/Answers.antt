use Rattle.std.proofs.Common.{ℕ, ◌∙◌, arith}
use Rattle.words_layout.specs.Named.{words_in}
use Rattle.words_layout.specs.Segments.{seg}
use Rattle.summary.proofs.Counts.{sum_more, sum_at}
use Rattle.summary.proofs.sequencers.mentor_tickets.Goals as goal

pub loop-serial-preserved : goal.loop-serial-preserved
loop-serial-preserved c =
    let at : ℕ → ℕ = λ s. (words_in c.args.machine.now.words c.args.class).sequencer (seg c.args.mentor s) in
    record {
      sum = sum_more at c.loop-serial.serial _ _ c.loop-serial.invariant.sum (c.from-tickets.ensures ∙ c.sequencer.ensures);
      most = omega (arith, c.loop-serial.invariant.most, c.from-tickets.ensures);
    }

pub returns-clause-sum : goal.returns-clause-sum
returns-clause-sum c =
    let at : ℕ → ℕ = λ s. (words_in c.args.machine.now.words c.args.class).sequencer (seg c.args.mentor s) in
    sum_at at c.loop-serial.serial 64 _ (omega arith) c.loop-serial.invariant.sum
