use Rattle.std.proofs.Common.{sym, subst, ◌↔◌}
use Rattle.std.specs.Prelude.{IsTrue}
use Rattle.known_segs.specs.Places.{IsFull}
use Rattle.known_segs.proofs.Tables.{full_where_none}
use Rattle.known_segs.proofs.table.KnownTable.is_full.Goals as goal

pub returns-clause-relation : goal.returns-clause-relation
returns-clause-relation c =
    subst (λ b. IsTrue b ↔ IsFull c.args.self.now) (sym c.lacks_empty_place.ensures.computed) (full_where_none c.args.self.now c.lacks_empty_place.ensures.sixteen)
