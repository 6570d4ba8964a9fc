use Rattle.std.proofs.Common.{ℕ, ap, sym, ◌∙◌, arith, length}
use Rattle.std.specs.List.{sum_by}
use Rattle.lists.specs.Lists.{below}
use Rattle.words_layout.specs.Named.{words_in}
use Rattle.words_layout.specs.Segments.{seg}
use Rattle.class_model.specs.Config.{Shared, classes}
use Rattle.summary.proofs.Counts.{sum_more, sum_at, sum_identities}
use Rattle.summary.proofs.sequencers.class_tickets.Goals as goal

pub loop-mentor-preserved : goal.loop-mentor-preserved
loop-mentor-preserved c =
    let at : ℕ → ℕ = λ m. sum_by (λ s. (words_in c.args.machine.now.words c.args.class).sequencer (seg m s)) (below 64) in
    record {
      sum = sum_more at c.loop-mentor.mentor _ _ c.loop-mentor.invariant.sum c.mentor_tickets-tickets.ensures.sum;
      most = omega (arith, c.loop-mentor.invariant.most, c.mentor_tickets-tickets.ensures.most);
    }

pub returns : goal.returns
returns c =
    let at : ℕ → ℕ = λ m. sum_by (λ s. (words_in c.args.machine.now.words c.args.class).sequencer (seg m s)) (below 64) in
    let n = c.count-mentor-end.ensures ∙ ap length (c.table-2.ensures ∙ ap (λ (s : Shared). s.table) c.shared-2.ensures) in
    sum_at at c.loop-mentor.mentor (classes c.args.machine.now.shared) _ (omega (arith, n)) c.loop-mentor.invariant.sum
    ∙ sym (sum_identities (words_in c.args.machine.now.words c.args.class).sequencer (classes c.args.machine.now.shared))
