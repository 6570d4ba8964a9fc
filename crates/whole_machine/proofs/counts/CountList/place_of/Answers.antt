use Rattle.std.proofs.Common.{◌≡◌, ◌∙◌, ℕ, Bool, List, ap, position, subst}
use Rattle.whole_machine.specs.Parts.{Counted, count_key, is_count}
use Rattle.whole_machine.proofs.KeyPlaces.{found_by_key}
use Rattle.std.specs.Prelude.{◌==◌, ◌&&◌}
use Rattle.whole_machine.proofs.counts.CountList.place_of.Goals as goal

pub returns : goal.returns
returns c =
    let x = c.args.class in
    let u = c.args.seg in
    let q : ℕ × (ℕ × ℕ) → Bool = λ k. x == k.0 && (u.mentor == k.1.0 && u.serial == k.1.1) in
    let P : List Counted → Type 0 = λ xs. c.get_index_of.result ≡ position (is_count x u) xs in
    subst P c.self.view_is (c.get_index_of.ensures.index ∙ ap (λ (ks : List (ℕ × (ℕ × ℕ))). position q ks) c.self.invariant ∙ found_by_key count_key q c.self.inside.items.items)
