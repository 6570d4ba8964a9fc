use Rattle.std.proofs.Common.{ap, ◌∙◌}
use Rattle.labels.specs.Reading.{read_label}
use Rattle.labels.proofs.Answer.{read_only}
use Rattle.labels.proofs.label.Label.parse.Goals as goal

pub returns-clause-only : goal.returns-clause-only
returns-clause-only c = λ r a. read_only c.args.text.now c.read.result r (c.read.ensures ∙ ap read_label c.as_bytes.ensures.value) a
