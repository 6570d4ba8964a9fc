use Rattle.std.proofs.Common.{refl}
use Rattle.command_large.proofs.Whole.{large_ports}
use Rattle.command_large.proofs.summing.large.Goals as goal

pub returns-in-Ok-clause-ports : goal.returns-in-Ok-clause-ports
returns-in-Ok-clause-ports g c = large_ports _ _ _ _ c.print_summary.ensures

pub returns-in-Err-clause-ports : goal.returns-in-Err-clause-ports
returns-in-Err-clause-ports g c = large_ports c.args.number _ _ _ (λ p. refl)
