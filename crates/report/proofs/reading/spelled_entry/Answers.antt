use Rattle.std.proofs.Common.{◌∙◌, ap}
use Rattle.words_layout.specs.Words.{Guarded, EntryOf}
use Rattle.words_layout.specs.Coding.{entry_of}
use Rattle.report.proofs.WordsRead.{entry_ok}
use Rattle.report.proofs.reading.spelled_entry.Goals as goal

pub load-requires-clause-addr : goal.load-requires-clause-addr
load-requires-clause-addr c = record { word = Guarded (EntryOf c.args.seg c.args.entry); in_limits = entry_ok c.args.seg c.args.entry c.requires.seg c.requires.entry; here = c.entry_addr.ensures }

pub returns : goal.returns
returns c = c.entry_taken.ensures ∙ ap entry_of (c.load.ensures (Guarded (EntryOf c.args.seg c.args.entry)) (entry_ok c.args.seg c.args.entry c.requires.seg c.requires.entry) c.entry_addr.ensures)
