use Rattle.std.proofs.Common.{ℕ, ◌≡◌, ◌+◌, ◌∙◌, ap, sym, subst, arith}
use Rattle.std.proofs.lemmas.Grind.{common_steps}
use Rattle.std.specs.Prelude.{slice_set, slice_index_or}
use Rattle.whole_machine.specs.Parts.{Counted, count_key}
use Rattle.whole_machine.specs.Shows.{RaisesCount}
use Rattle.whole_machine.proofs.KeyPlaces.{keys_kept}
use Rattle.whole_machine.proofs.Raised.{read_count, raised}
use Rattle.whole_machine.proofs.counts.raise.Goals as goal

pub returns-clause-count : goal.returns-clause-count
returns-clause-count c = λ x u l.
    let counts = c.counts.inside.items.items in
    let item : Counted = record { class = c.item.inside.class; seg = c.item.inside.seg; count = c.item.inside.count } in
    let risen : c.in-Some.count ≡ c.item.inside.count + 1 = grind (arith, common_steps) in
    let read : item ≡ slice_index_or counts c.args.at item = cc in
    risen ∙ ap (λ (n : ℕ). n + 1) (read_count counts c.args.counts.now c.counts.view_is x u c.args.at item read l)

pub returns-clause-ok : goal.returns-clause-ok
returns-clause-ok c =
    let counts = c.counts.inside.items.items in
    let at = c.args.at in
    let item : Counted = record { class = c.item.inside.class; seg = c.item.inside.seg; count = c.item.inside.count } in
    let risen : c.in-Some.count ≡ c.item.inside.count + 1 = grind (arith, common_steps) in
    let read : item ≡ slice_index_or counts at item = cc in
    let P : ℕ → Type 0 = λ n. RaisesCount c.args.counts.now (slice_set counts at (record item { count = n })) at in
    subst P (sym risen) (raised counts c.args.counts.now c.counts.view_is at item read)

pub invariant_of-counts : goal.invariant_of-counts
invariant_of-counts c =
    let counts = c.counts.inside.items.items in
    let at = c.args.at in
    let item : Counted = record { class = c.item.inside.class; seg = c.item.inside.seg; count = c.item.inside.count } in
    let read : item ≡ slice_index_or counts at item = cc in
    c.counts.invariant ∙ sym (keys_kept count_key counts at (record item { count = c.in-Some.count }) item (ap (λ (y : Counted). count_key y) read))
