use Rattle.std.specs.Prelude.{map}
use Rattle.labels.specs.Table.{entry_of}
use Rattle.labels.proofs.Tables.{table_only}
use Rattle.labels.proofs.table.ClassTable.new.Goals as goal

pub returns-clause-only : goal.returns-clause-only
returns-clause-only c = λ r a. table_only (map entry_of c.args.entries.items) r c.make_table.result a c.make_table.ensures
