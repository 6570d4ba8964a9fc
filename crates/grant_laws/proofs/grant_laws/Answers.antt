use Rattle.std.proofs.Common.{ap, ◌∙◌}
use Rattle.std.specs.Prelude.{◌&&◌, ◌==◌, ◌+◌, nat_lt, not, is_none, take, reverse}
use Rattle.class_model.specs.Run.{Happened, history, opening, opening_serial}
use Rattle.class_model.specs.Content.{prints}
use Rattle.class_model.specs.Plan.{MakeKnown, Create, Delete, SwapIn, SwapOut, Fetch, Update, Advance, Ticket, Out}
use Rattle.content_laws.proofs.Tallies.{count_reverse}
use Rattle.grant_laws.specs.Grants.{creates, is_deleted_after, stands_in}
use Rattle.grant_laws.proofs.History.{granted_where}
use Rattle.grant_laws.proofs.LastLooks.{reads_are_counted}
use Rattle.grant_laws.proofs.Owners.{changes_are_own}
use Rattle.grant_laws.proofs.Scripts.{scripts_are_low}
use Rattle.grant_laws.proofs.grant_laws.Goals as goal

pub returns : goal.returns
returns c = record {
  outs = λ value k names i h o e f. granted_where k names i h (Out value) o e f
      ∙ ap (λ n. nat_lt n k.console) (count_reverse (λ (g : Happened). g.who.class == h.who.class && prints g.deed.asked) (take i (history (opening k) names)));
  fetches = λ x offset count pad k names i h o e f. granted_where k names i h (Fetch x offset count pad) o e f;
  updates = λ x offset words k names i h o e f. granted_where k names i h (Update x offset words) o e f;
  tickets = λ x k names i h o e f. granted_where k names i h (Ticket x) o e f;
  advances = λ x k names i h o e f. granted_where k names i h (Advance x) o e f;
  swaps_in = λ x k names i h o e f. granted_where k names i h (SwapIn x) o e f;
  swaps_out = λ x k names i h o e f. granted_where k names i h (SwapOut x) o e f;
  creates = λ x n class b size k names i h o e f. granted_where k names i h (Create x n class b size) o e f
      ∙ ap (λ m. not (is_deleted_after k h.who.class x.seg (reverse (take i (history (opening k) names)))) && is_none (stands_in k h.who.class x.seg n (reverse (take i (history (opening k) names)))) && nat_lt (opening_serial k h.who.class + m) 64)
      (count_reverse (λ (g : Happened). g.who.class == h.who.class && creates g.deed.asked) (take i (history (opening k) names)));
  deletes = λ x n k names i h o e f. granted_where k names i h (Delete x n) o e f;
  makes_known = λ x n mode k names i h o e f. granted_where k names i h (MakeKnown x n mode) o e f;
  reads = reads_are_counted;
  own = changes_are_own;
  scripts = scripts_are_low;
}
