use Rattle.worked_runs.proofs.TwoLooks.{is_crossed, is_accepted}
use Rattle.worked_runs.proofs.looks.a_reader_looks_twice.Goals as goal

pub returns : goal.returns
returns c = record { crossed = is_crossed; accepted = is_accepted }
