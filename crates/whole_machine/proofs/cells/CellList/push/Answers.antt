use Rattle.std.proofs.Common.{◌≡◌, ◌∙◌, ℕ, List, ap, sym, position, subst, None}
use Rattle.std.specs.Prelude.{is_ok}
use Rattle.whole_machine.specs.Parts.{Listed, cell_key, is_cell}
use Rattle.whole_machine.specs.Pools.{same_key}
use Rattle.whole_machine.specs.declared.pools.Pooled.TheVariants as P
use Rattle.indexmap.specs.IndexSet.{insert_key}
use Rattle.whole_machine.proofs.KeyPlaces.{keys_pushed, keys_after}
use Rattle.whole_machine.proofs.KeptCells.{counts_after}
use Rattle.whole_machine.proofs.cells.CellList.push.Goals as goal

pub invariant_of-self : goal.invariant_of-self
invariant_of-self c =
    let u = c.args.seg in
    let old = c.self.inside.items.items in
    let kept = c.self.invariant in
    let done = is_ok c.push_keyed.result in
    let new = c.push_keyed.new.items.items in
    let blank = c.blank-cell.result in
    let y : Listed = record { seg = u; cell = blank } in
    let none : position (is_cell u) old ≡ None = subst (λ (xs : List Listed). position (is_cell u) xs ≡ None) (sym c.self.view_is) c.requires in
    let pushed = ap (λ (ks : List (ℕ × ℕ)). insert_key same_key ks (cell_key y)) kept.keyed ∙ keys_pushed cell_key same_key old y none in
    record {
      keyed = keys_after cell_key done _ _ _ _ _ _ kept.keyed pushed c.push_keyed.ensures.keys c.push_keyed.ensures.items;
      apart = c.push_keyed.ensures.unique kept.apart;
      frames = counts_after P.Frame done old new u blank c.self.inside.frames c.blank-cell.ensures c.push_keyed.ensures.items kept.frames;
      pages = counts_after P.Page done old new u blank c.self.inside.pages c.blank-cell.ensures c.push_keyed.ensures.items kept.pages;
    }
