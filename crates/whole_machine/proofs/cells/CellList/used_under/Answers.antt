use Rattle.std.proofs.Common.{ℕ, ◌≤◌, sym, subst}
use Rattle.whole_machine.specs.Pools.{uses_at}
use Rattle.whole_machine.specs.declared.pools.Pooled.TheVariants as P
use Rattle.whole_machine.proofs.Tallies.{few}
use Rattle.whole_machine.proofs.cells.CellList.used_under.Goals as goal

pub returns-in-Frame-clause-limit : goal.returns-in-Frame-clause-limit
returns-in-Frame-clause-limit c =
    subst (λ (n : ℕ). n ≤ 64) (sym (c.self.invariant.frames c.args.mentor c.requires)) (few (uses_at P.Frame c.self.inside.items.items) c.args.mentor)

pub returns-in-Page-clause-limit : goal.returns-in-Page-clause-limit
returns-in-Page-clause-limit c =
    subst (λ (n : ℕ). n ≤ 64) (sym (c.self.invariant.pages c.args.mentor c.requires)) (few (uses_at P.Page c.self.inside.items.items) c.args.mentor)
