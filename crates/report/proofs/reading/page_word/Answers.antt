use Rattle.words_layout.specs.Words.{Guarded, PageWord}
use Rattle.report.proofs.WordsRead.{page_ok}
use Rattle.report.proofs.reading.page_word.Goals as goal

pub load-requires-clause-addr : goal.load-requires-clause-addr
load-requires-clause-addr c = record { word = Guarded (PageWord c.args.page c.args.place); in_limits = page_ok c.args.page c.args.place c.requires.page c.requires.place; here = c.page_word_addr.ensures }

pub returns : goal.returns
returns c = c.load.ensures (Guarded (PageWord c.args.page c.args.place)) (page_ok c.args.page c.args.place c.requires.page c.requires.place) c.page_word_addr.ensures
