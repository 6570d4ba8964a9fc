use Rattle.std.proofs.Common.{◌∷◌, List, ℕ, ap, ◌∙◌, map}
use Rattle.std.specs.Prelude.{codes}
use Rattle.std.specs.Fmt.{decimal}
use Rattle.class_model.specs.Report.{line_of}
use Rattle.report.proofs.Texts.{torn_more, err_prints, prints_then, pushed_as, torn_as, prints_as}
use Rattle.report.proofs.processes.print_process.Goals as goal

abbrev regs_line : List ℕ → List ℕ
regs_line regs = line_of (codes "regs" ∷ map decimal regs)

pub returns-in_err-push_line : goal.returns-in_err-push_line
returns-in_err-push_line g c = err_prints _ _ _ _ c.from_residual.ensures.0 (torn_more _ _ _ _ (torn_as _ _ _ _ c.process_line.ensures c.in_err-push_line.ensures))

pub returns : goal.returns
returns g c =
    prints_then _ _ _ _ _ _ (pushed_as _ _ _ _ c.process_line.ensures c.in_ok-push_line.ensures) (prints_as _ _ _ _ _ (c.registers_line.ensures ∙ ap regs_line c.registers.ensures) c.push_line-2.ensures)
