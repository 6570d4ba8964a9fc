use Rattle.std.proofs.Common.{sym, subst}
use Rattle.config_text.specs.Valid.{IsValid}
use Rattle.worked_large.proofs.texts.printed.Goals as goal

pub print_config-requires : goal.print_config-requires
print_config-requires c = subst IsValid (sym c.in_ok-config.ensures) (c.large_law.ensures c.args.number c.ranges.number.fits)
