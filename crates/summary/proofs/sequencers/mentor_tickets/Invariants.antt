use Rattle.std.proofs.Common.{◌≡◌, ◌≤◌, ◌*◌}
use Rattle.std.specs.List.{sum_by}
use Rattle.lists.specs.Lists.{below}
use Rattle.words_layout.specs.Named.{words_in}
use Rattle.words_layout.specs.Segments.{seg}
use Rattle.summary.proofs.sequencers.mentor_tickets.Given as goal

abbrev pub invariant-loop-serial : goal.invariant-loop-serial
invariant-loop-serial l = record {
  sum : l.tickets ≡ sum_by (λ s. (words_in l.machine.words l.class).sequencer (seg l.mentor s)) (below l.serial);
  most : l.tickets ≤ l.serial * 18446744073709551616;
}
