use Rattle.std.proofs.Common.{subst, Err, arith}
use Rattle.std.specs.Prelude.{map}
use Rattle.std.proofs.lemmas.List.{length-map}
use Rattle.labels.specs.Table.{entry_of, IsEntriesAnswer}
use Rattle.labels.proofs.Tables.{refused}
use Rattle.labels.proofs.table.make_table.Goals as goal

pub returns-in-Err : goal.returns-in-Err
returns-in-Err c =
    refused (map entry_of c.args.entries.items) c.in-Err.fault (omega (arith, length-map c.args.entries.items entry_of, c.len.ensures, c.if-len-gt-MAX_CLASSES.false)) (subst (λ xs. IsEntriesAnswer (map entry_of xs) (Err c.in-Err.fault)) c.as_slice.ensures.value c.in-Err.ensures)
