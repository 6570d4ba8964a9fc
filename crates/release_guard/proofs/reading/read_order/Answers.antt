use Rattle.std.proofs.Common.{◌≡◌, ℕ, List, length, Err, sym, ap, subst, ◌∙◌, arith}
use Rattle.std.specs.Borrow.{Bor}
use Rattle.std.proofs.lemmas.List.{length-map}
use Rattle.text_lines.specs.Lines.{lines, views}
use Rattle.text_lines.proofs.LineCount.{few_lines}
use Rattle.release_guard.specs.declared.order.Order.{Order}
use Rattle.release_guard.specs.Place.{place_of, start}
use Rattle.release_guard.specs.Reading.{Reads}
use Rattle.text_lines.specs.Faults.{lines_answer}
use Rattle.release_guard.specs.Rules.{order_rules}
use Rattle.release_guard.specs.Text.{Spells}
use Rattle.release_guard.proofs.Whole.{read_to, value_is, only_value, only_error, refused_right, fault_value, fault_error}
use Rattle.release_guard.proofs.reading.read_order.Goals as goal

pub read-requires : goal.read-requires
read-requires c =
    let same : views c.as_slice.result.now ≡ lines c.args.text.now = ap views c.as_slice.ensures.value ∙ c.in_ok-list.ensures in
    omega (arith, c.requires, few_lines c.args.text.now, ap length same, length-map c.as_slice.result.now (λ (x : Bor (List ℕ)). x.now))

pub finished-requires : goal.finished-requires
finished-requires c =
    let same : views c.as_slice.result.now ≡ lines c.args.text.now = ap views c.as_slice.ensures.value ∙ c.in_ok-list.ensures in
    let reads = subst (λ ls. lines_answer order_rules start 1 ls ≡ read_to (place_of c.in-Ok.draft)) same c.in-Ok.ensures in
    (value_is c.args.text.now (place_of c.in-Ok.draft) reads).valid.table

pub returns-in-Ok-clause-right : goal.returns-in-Ok-clause-right
returns-in-Ok-clause-right c =
    let same : views c.as_slice.result.now ≡ lines c.args.text.now = ap views c.as_slice.ensures.value ∙ c.in_ok-list.ensures in
    let reads = subst (λ ls. lines_answer order_rules start 1 ls ≡ read_to (place_of c.in-Ok.draft)) same c.in-Ok.ensures in
    subst (λ (k : Order). Spells c.args.text.now k) (sym c.finished.ensures) (value_is c.args.text.now (place_of c.in-Ok.draft) reads)

pub returns-in-Ok-clause-only : goal.returns-in-Ok-clause-only
returns-in-Ok-clause-only c =
    let same : views c.as_slice.result.now ≡ lines c.args.text.now = ap views c.as_slice.ensures.value ∙ c.in_ok-list.ensures in
    let reads = subst (λ ls. lines_answer order_rules start 1 ls ≡ read_to (place_of c.in-Ok.draft)) same c.in-Ok.ensures in
    λ k s. c.finished.ensures ∙ only_value c.args.text.now (place_of c.in-Ok.draft) reads k s

pub returns-in-Ok-clause-refused : goal.returns-in-Ok-clause-refused
returns-in-Ok-clause-refused c =
    let same : views c.as_slice.result.now ≡ lines c.args.text.now = ap views c.as_slice.ensures.value ∙ c.in_ok-list.ensures in
    let reads = subst (λ ls. lines_answer order_rules start 1 ls ≡ read_to (place_of c.in-Ok.draft)) same c.in-Ok.ensures in
    λ line code fault. fault_value c.args.text.now (place_of c.in-Ok.draft) reads line code fault

pub returns-clause-right : goal.returns-clause-right
returns-clause-right c =
    let same : views c.as_slice.result.now ≡ lines c.args.text.now = ap views c.as_slice.ensures.value ∙ c.in_ok-list.ensures in
    refused_right c.args.text.now c.in-Err.error (subst (λ ls. Reads (Err c.in-Err.error) (lines_answer order_rules start 1 ls)) same c.in-Err.ensures)

pub returns-clause-only : goal.returns-clause-only
returns-clause-only c =
    let same : views c.as_slice.result.now ≡ lines c.args.text.now = ap views c.as_slice.ensures.value ∙ c.in_ok-list.ensures in
    λ k s. only_error c.args.text.now c.in-Err.error (subst (λ ls. Reads (Err c.in-Err.error) (lines_answer order_rules start 1 ls)) same c.in-Err.ensures) k s

pub returns-clause-refused : goal.returns-clause-refused
returns-clause-refused c =
    let same : views c.as_slice.result.now ≡ lines c.args.text.now = ap views c.as_slice.ensures.value ∙ c.in_ok-list.ensures in
    λ line code fault. fault_error c.args.text.now c.in-Err.error (subst (λ ls. Reads (Err c.in-Err.error) (lines_answer order_rules start 1 ls)) same c.in-Err.ensures) line code fault
