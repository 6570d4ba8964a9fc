use Rattle.std.proofs.Common.{◌≡◌, ◌≤◌, ◌*◌}
use Rattle.std.specs.List.{sum_by}
use Rattle.lists.specs.Lists.{below}
use Rattle.words_layout.specs.Named.{words_in}
use Rattle.words_layout.specs.Segments.{seg}
use Rattle.summary.proofs.sequencers.class_tickets.Given as goal

abbrev pub invariant-loop-mentor : goal.invariant-loop-mentor
invariant-loop-mentor l = record {
  sum : l.tickets ≡ sum_by (λ m. sum_by (λ s. (words_in l.machine.words l.class).sequencer (seg m s)) (below 64)) (below l.mentor);
  most : l.tickets ≤ l.mentor * 1180591620717411303424;
}
