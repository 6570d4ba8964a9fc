use Rattle.evc_gates.proofs.Tallies.{tally_after_all}
use Rattle.evc_gates.proofs.whole_lists.tally_law.Goals as goal

pub returns : goal.returns
returns c = tally_after_all
