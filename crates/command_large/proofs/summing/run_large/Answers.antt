use Rattle.std.proofs.Common.{sym, subst}
use Rattle.config_text.specs.Valid.{IsValid}
use Rattle.command_large.proofs.summing.run_large.Goals as goal

pub run_schedule-requires : goal.run_schedule-requires
run_schedule-requires c = subst IsValid (sym c.in_ok-config.ensures) (c.large_law.ensures c.args.number c.ranges.number.fits)
