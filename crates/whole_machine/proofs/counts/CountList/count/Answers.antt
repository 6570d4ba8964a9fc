use Rattle.std.proofs.Common.{◌∙◌, sym, ap}
use Rattle.whole_machine.specs.Parts.{Counted, is_count}
use Rattle.whole_machine.proofs.Raised.{read_count}
use Rattle.whole_machine.proofs.Lookups.{found_at, missing}
use Rattle.whole_machine.proofs.counts.CountList.count.Goals as goal

pub returns-in-Some : goal.returns-in-Some
returns-in-Some c =
    let u = c.args.seg in
    let x = c.args.class in
    let now = c.args.self.now in
    let place = found_at (is_count x u) now c.in-Some.at (sym c.place_of.ensures ∙ c.in-Some.is) in
    ap (λ (y : Counted). y.count) c.behind-self.view_is ∙ read_count c.self.inside.items.items now c.self.view_is x u c.in-Some.at c.index.result.now c.index.ensures place

pub returns-in-None : goal.returns-in-None
returns-in-None c = sym (missing (is_count c.args.class c.args.seg) (λ y. y.count) 0 c.args.self.now (sym c.place_of.ensures ∙ c.in-None.is))
