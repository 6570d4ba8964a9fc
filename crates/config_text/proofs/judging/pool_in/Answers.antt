use Rattle.config_text.specs.Views.{class_view}
use Rattle.config_text.proofs.ClassLine.{front_fixed}
use Rattle.config_text.proofs.judging.pool_in.Goals as goal

pub returns-in-Err-clause-code : goal.returns-in-Err-clause-code
returns-in-Err-clause-code c = front_fixed (class_view c.args.line.now) c.in-Err.code c.in-Err.ensures
