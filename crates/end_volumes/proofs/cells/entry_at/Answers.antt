use Rattle.std.proofs.Common.{◌∙◌, ap}
use Rattle.words_layout.specs.Words.{Guarded, EntryOf}
use Rattle.words_layout.specs.Coding.{entry_of}
use Rattle.policy.specs.Known.{in_table}
use Rattle.class_model.specs.Config.{Shared}
use Rattle.end_volumes.proofs.AfterCells.{entry_ok, entry_read}
use Rattle.end_volumes.proofs.cells.entry_at.Goals as goal

pub load-requires-clause-addr : goal.load-requires-clause-addr
load-requires-clause-addr c = record { word = Guarded (EntryOf c.args.seg c.args.entry); in_limits = entry_ok c.args.seg c.args.entry c.requires.seg c.requires.entry; here = c.entry_addr.ensures }

pub returns-clause-value : goal.returns-clause-value
returns-clause-value c =
    let table = c.table.ensures ∙ ap (λ (s : Shared). s.table) c.shared.ensures in
    let entry = c.entry_taken.ensures ∙ ap entry_of (c.load.ensures (Guarded (EntryOf c.args.seg c.args.entry)) (entry_ok c.args.seg c.args.entry c.requires.seg c.requires.entry) c.entry_addr.ensures) in
    c.in_table.ensures ∙ (λ j. in_table (table j) (entry j))

pub returns-clause-range : goal.returns-clause-range
returns-clause-range c = entry_read c.table.result.now c.load.result c.entry_taken.result c.in_table.result c.entry_taken.ensures c.in_table.ensures
