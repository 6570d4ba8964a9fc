use Rattle.class_model.specs.Run.{history}
use Rattle.audit_trail.proofs.Lined.{history_lines}
use Rattle.audit_trail.proofs.laws.line_law.Goals as goal

pub returns : goal.returns
returns c = λ a names. history_lines (history a names)
