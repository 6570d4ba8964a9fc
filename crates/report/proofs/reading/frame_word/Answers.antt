use Rattle.words_layout.specs.Words.{Guarded, FrameWord}
use Rattle.report.proofs.WordsRead.{frame_ok}
use Rattle.report.proofs.reading.frame_word.Goals as goal

pub load-requires-clause-addr : goal.load-requires-clause-addr
load-requires-clause-addr c = record { word = Guarded (FrameWord c.args.frame c.args.place); in_limits = frame_ok c.args.frame c.args.place c.requires.frame c.requires.place; here = c.frame_word_addr.ensures }

pub returns : goal.returns
returns c = c.load.ensures (Guarded (FrameWord c.args.frame c.args.place)) (frame_ok c.args.frame c.args.place c.requires.frame c.requires.place) c.frame_word_addr.ensures
