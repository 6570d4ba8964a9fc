use Rattle.words_layout.specs.Words.{SequencerOf}
use Rattle.report.proofs.WordsRead.{identity_ok}
use Rattle.report.proofs.reading.sequencer_at.Goals as goal

pub load-requires-clause-addr : goal.load-requires-clause-addr
load-requires-clause-addr c = record { word = SequencerOf c.args.seg; in_limits = identity_ok c.args.seg c.requires.seg; here = c.sequencer_addr.ensures }

pub returns : goal.returns
returns c = c.load.ensures (SequencerOf c.args.seg) (identity_ok c.args.seg c.requires.seg) c.sequencer_addr.ensures
