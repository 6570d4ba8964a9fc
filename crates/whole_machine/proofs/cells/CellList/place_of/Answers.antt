use Rattle.std.proofs.Common.{◌≡◌, ◌∙◌, ℕ, Bool, List, ap, position, subst}
use Rattle.whole_machine.specs.Parts.{Listed, cell_key, is_cell}
use Rattle.whole_machine.proofs.KeyPlaces.{found_by_key}
use Rattle.std.specs.Prelude.{◌==◌, ◌&&◌}
use Rattle.whole_machine.proofs.cells.CellList.place_of.Goals as goal

pub returns : goal.returns
returns c =
    let u = c.args.seg in
    let q : ℕ × ℕ → Bool = λ k. u.mentor == k.0 && u.serial == k.1 in
    let P : List Listed → Type 0 = λ xs. c.get_index_of.result ≡ position (is_cell u) xs in
    subst P c.self.view_is (c.get_index_of.ensures.index ∙ ap (λ (ks : List (ℕ × ℕ)). position q ks) c.self.invariant.keyed ∙ found_by_key cell_key q c.self.inside.items.items)
