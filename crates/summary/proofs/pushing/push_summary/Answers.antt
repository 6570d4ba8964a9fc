use Rattle.report.proofs.Texts.{torn_more, err_prints, prints_then, pushed_as, torn_as}
use Rattle.summary.proofs.pushing.push_summary.Goals as goal

pub returns-in_err-push_line : goal.returns-in_err-push_line
returns-in_err-push_line g c = err_prints _ _ _ _ c.from_residual.ensures.0 (torn_more _ _ _ _ (torn_as _ _ _ _ c.heading.ensures c.in_err-push_line.ensures))

pub returns : goal.returns
returns g c = prints_then _ _ _ _ _ _ (pushed_as _ _ _ _ c.heading.ensures c.in_ok-push_line.ensures) c.push_classes.ensures
