use Rattle.std.proofs.Common.{arith}
use Rattle.labels.proofs.Words.{Includes-decides}
use Rattle.labels.proofs.label.includes.Goals as goal

pub returns-clause-relation : goal.returns-clause-relation
returns-clause-relation c = Includes-decides c.args.a c.args.b (omega (arith, c.ranges.b))
