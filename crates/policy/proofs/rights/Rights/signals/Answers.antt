use Rattle.std.proofs.Common.{◌∙◌}
use Rattle.policy.proofs.Bits.{contains_four}
use Rattle.policy.proofs.rights.Rights.signals.Goals as goal

pub returns : goal.returns
returns c = c.contains.ensures tt ∙ contains_four c.args.self.0
