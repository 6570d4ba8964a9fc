use Rattle.std.proofs.Common.{◌≡◌, ◌∙◌, ℕ, Bool, List, ap, sym, position, subst, None}
use Rattle.std.specs.Prelude.{◌==◌, ◌&&◌, is_ok}
use Rattle.whole_machine.specs.Parts.{Counted, count_key, is_count}
use Rattle.indexmap.specs.IndexSet.{insert_key}
use Rattle.whole_machine.proofs.KeyPlaces.{keys_pushed, keys_after}
use Rattle.whole_machine.proofs.counts.CountList.push.Goals as goal

pub invariant_of-self : goal.invariant_of-self
invariant_of-self c =
    let x = c.args.class in
    let u = c.args.seg in
    let same : ℕ × (ℕ × ℕ) → ℕ × (ℕ × ℕ) → Bool = λ j k. j.0 == k.0 && (j.1.0 == k.1.0 && j.1.1 == k.1.1) in
    let old = c.self.inside.items.items in
    let y : Counted = record { class = x; seg = u; count = 0 } in
    let none : position (is_count x u) old ≡ None = subst (λ (xs : List Counted). position (is_count x u) xs ≡ None) (sym c.self.view_is) c.requires in
    let pushed = ap (λ (ks : List (ℕ × (ℕ × ℕ))). insert_key same ks (count_key y)) c.self.invariant ∙ keys_pushed count_key same old y none in
    keys_after count_key (is_ok c.push_keyed.result) _ _ _ _ _ _ c.self.invariant pushed c.push_keyed.ensures.keys c.push_keyed.ensures.items
