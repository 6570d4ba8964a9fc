use Rattle.std.proofs.Common.{◌∙◌, ap}
use Rattle.words_layout.specs.Words.{Guarded, HomeOf}
use Rattle.words_layout.specs.Coding.{home_of}
use Rattle.end_volumes.proofs.AfterCells.{identity_ok}
use Rattle.end_volumes.proofs.cells.home_at.Goals as goal

pub load-requires-clause-addr : goal.load-requires-clause-addr
load-requires-clause-addr c = record { word = Guarded (HomeOf c.args.seg); in_limits = identity_ok c.args.seg c.requires.seg; here = c.home_addr.ensures }

pub returns-clause-value : goal.returns-clause-value
returns-clause-value c = c.home_taken.ensures.value ∙ ap home_of (c.load.ensures (Guarded (HomeOf c.args.seg)) (identity_ok c.args.seg c.requires.seg) c.home_addr.ensures)
