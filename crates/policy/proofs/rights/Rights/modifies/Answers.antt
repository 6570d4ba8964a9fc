use Rattle.std.proofs.Common.{◌∙◌}
use Rattle.policy.proofs.Bits.{contains_two}
use Rattle.policy.proofs.rights.Rights.modifies.Goals as goal

pub returns : goal.returns
returns c = c.contains.ensures tt ∙ contains_two c.args.self.0
