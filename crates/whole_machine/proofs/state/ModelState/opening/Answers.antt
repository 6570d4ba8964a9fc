use Rattle.std.proofs.Common.{◌≡◌, ◌<◌, ◌∙◌, List, ap, sym, subst, arith, length}
use Rattle.labels.specs.Label.{ClassEntry}
use Rattle.class_model.specs.Config.{classes}
use Rattle.whole_machine.specs.Parts.{ListedPart}
use Rattle.whole_machine.specs.Fits.{PartsFit}
use Rattle.whole_machine.specs.Steps.{standing}
use Rattle.whole_machine.proofs.Openings.{first_fits, opening_is}
use Rattle.whole_machine.proofs.state.ModelState.opening.Goals as goal

pub invariant_of-result : goal.invariant_of-result
invariant_of-result c =
    let n : c.count.result ≡ classes c.args.shared = c.count.ensures ∙ ap (λ (t : List ClassEntry). length t) c.table-table.ensures in
    subst (PartsFit c.args.shared) (sym c.in_ok-parts.ensures) (first_fits c.args.shared c.count.result n)

pub returns-clause-opening : goal.returns-clause-opening
returns-clause-opening c k e ep er =
    let some : 0 < c.count.result = grind arith in
    ap (λ (ps : List ListedPart). standing c.args.shared ps) c.in_ok-parts.ensures ∙ opening_is c.args.shared c.count.result k some e ep er
