use Rattle.std.proofs.Common.{sym, refl}
use Rattle.whole_machine.specs.Building.{bare}
use Rattle.loader.specs.Building.{low_of}
use Rattle.loader.proofs.model.without_records.Goals as goal

pub put_lines-requires-clause-opening : goal.put_lines-requires-clause-opening
put_lines-requires-clause-opening c = c.in_ok-state.ensures.opening (bare (low_of c.args.config.now c.args.class)) (sym c.in_ok-shared.ensures) refl refl
