use Rattle.std.proofs.Common.{arith, ℕ, ◌≡◌, subst, sym, ap, ◌∙◌, length, List}
use Rattle.std.proofs.lemmas.Grind.{common_steps}
use Rattle.whole_machine.specs.Parts.{Counted, is_count, count_in}
use Rattle.whole_machine.specs.Shows.{ListsAt}
use Rattle.whole_machine.proofs.Lookups.{found_at, pushed_at}
use Rattle.whole_machine.proofs.Raised.{pushed_count, own_key}
use Rattle.whole_machine.proofs.counts.list_count.Goals as goal

pub returns-in-Some-clause-ok : goal.returns-in-Some-clause-ok
returns-in-Some-clause-ok c = found_at (is_count c.args.class c.args.seg) c.args.counts.now c.in-Some.at (sym c.place_of.ensures ∙ c.in-Some.is)

pub returns-in_ok-push-in-None-clause-ok : goal.returns-in_ok-push-in-None-clause-ok
returns-in_ok-push-in-None-clause-ok c =
    let x = c.args.class in
    let u = c.args.seg in
    let counts = c.args.counts.now in
    let y : Counted = record { class = x; seg = u; count = 0 } in
    let P : List Counted → Type 0 = λ xs. ListsAt (is_count x u) xs (length counts) in
    let Q : ℕ → Type 0 = λ n. ListsAt (is_count x u) c.push.new.self n in
    let e : c.len-at.result ≡ length counts = grind (arith, common_steps) in
    subst Q (sym e) (subst P (sym c.in_ok-push-in-None.ensures.ok) (pushed_at (is_count x u) counts y (sym c.place_of.ensures ∙ c.in-None.is) (own_key x u 0)))

pub returns-in_ok-push-in-None-clause-same : goal.returns-in_ok-push-in-None-clause-same
returns-in_ok-push-in-None-clause-same c = λ z v.
    ap (λ (xs : List Counted). count_in xs z v) c.in_ok-push-in-None.ensures.ok ∙ pushed_count c.args.counts.now c.args.class z c.args.seg v
