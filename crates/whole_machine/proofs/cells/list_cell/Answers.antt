use Rattle.std.proofs.lemmas.Grind.{common_steps}
use Rattle.std.proofs.Common.{arith, ℕ, ◌≡◌, ◌∙◌, ap, subst, sym, length, List}
use Rattle.words_layout.proofs.Names.{same_seg-refl}
use Rattle.class_model.specs.State.{blank_cell}
use Rattle.whole_machine.specs.Parts.{Listed, is_cell, cell_in}
use Rattle.whole_machine.specs.Shows.{ListsAt}
use Rattle.whole_machine.proofs.Lookups.{found_at, pushed_at, still_at}
use Rattle.whole_machine.proofs.Changes.{pushed_cell}
use Rattle.whole_machine.proofs.cells.list_cell.Goals as goal

pub returns-in-Some-clause-ok : goal.returns-in-Some-clause-ok
returns-in-Some-clause-ok c = found_at (is_cell c.args.seg) c.args.cells.now c.in-Some.at (sym c.place_of.ensures ∙ c.in-Some.is)

pub returns-in_ok-push-in-None-clause-ok : goal.returns-in_ok-push-in-None-clause-ok
returns-in_ok-push-in-None-clause-ok c =
    let u = c.args.seg in
    let cells = c.args.cells.now in
    let y : Listed = record { seg = u; cell = blank_cell } in
    let P : List Listed → Type 0 = λ xs. ListsAt (is_cell u) xs (length cells) in
    let Q : ℕ → Type 0 = λ n. ListsAt (is_cell u) c.push.new.self n in
    let e : c.len-at.result ≡ length cells = grind (arith, common_steps) in
    subst Q (sym e) (subst P (sym c.in_ok-push-in-None.ensures.ok) (pushed_at (is_cell u) cells y (sym c.place_of.ensures ∙ c.in-None.is) (same_seg-refl u)))

pub returns-in_ok-push-in-None-clause-same : goal.returns-in_ok-push-in-None-clause-same
returns-in_ok-push-in-None-clause-same c = λ v.
    ap (λ (xs : List Listed). cell_in xs v) c.in_ok-push-in-None.ensures.ok ∙ pushed_cell c.args.cells.now c.args.seg v

pub returns-in_ok-push-in-None-clause-kept : goal.returns-in_ok-push-in-None-clause-kept
returns-in_ok-push-in-None-clause-kept c = λ v at l.
    let P : List Listed → Type 0 = λ xs. ListsAt (is_cell v) xs at in
    subst P (sym c.in_ok-push-in-None.ensures.ok) (still_at (is_cell v) c.args.cells.now (record { seg = c.args.seg; cell = blank_cell }) at l)
