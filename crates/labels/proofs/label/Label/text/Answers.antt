use Rattle.std.proofs.Common.{sym, subst}
use Rattle.labels.specs.Text.{Spells}
use Rattle.labels.proofs.Printed.{text_is}
use Rattle.labels.proofs.label.Label.text.Goals as goal

pub returns-clause-spells : goal.returns-clause-spells
returns-clause-spells c = subst (λ bytes. Spells bytes c.args.self.now) (sym c.write_text.ensures) (text_is c.args.self.now c.range_law.ensures)
