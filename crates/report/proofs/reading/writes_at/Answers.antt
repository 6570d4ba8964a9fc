use Rattle.words_layout.specs.Words.{Guarded, WritesOf}
use Rattle.report.proofs.WordsRead.{identity_ok}
use Rattle.report.proofs.reading.writes_at.Goals as goal

pub load-requires-clause-addr : goal.load-requires-clause-addr
load-requires-clause-addr c = record { word = Guarded (WritesOf c.args.seg); in_limits = identity_ok c.args.seg c.requires.seg; here = c.writes_addr.ensures }

pub returns : goal.returns
returns c = c.load.ensures (Guarded (WritesOf c.args.seg)) (identity_ok c.args.seg c.requires.seg) c.writes_addr.ensures
