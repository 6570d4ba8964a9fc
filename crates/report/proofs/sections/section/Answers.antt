use Rattle.std.proofs.Common.{ap, ◌∙◌}
use Rattle.class_model.specs.Config.{Shared}
use Rattle.report.proofs.Texts.{err_prints, pushed_as, torn_as}
use Rattle.report.proofs.SlotTexts.{four_slots, processes_are}
use Rattle.report.proofs.SectionParts.{head_is, torn_head, torn_lines, torn_processes, prints_closing}
use Rattle.report.proofs.sections.section.Goals as goal

pub returns-in_err-push_line : goal.returns-in_err-push_line
returns-in_err-push_line g c =
    let m = c.args.machine.now in
    let h = head_is m c.args.class _ _ _ c.heading.ensures c.name.ensures (c.table-table.ensures ∙ ap (λ (s : Shared). s.table) c.shared.ensures) in
    err_prints _ _ _ _ c.from_residual.ensures.0 (torn_head m c.args.class _ _ (torn_as _ _ _ _ h c.in_err-push_line.ensures))

pub returns-in_err-print_lines : goal.returns-in_err-print_lines
returns-in_err-print_lines g c =
    let m = c.args.machine.now in
    let h = head_is m c.args.class _ _ _ c.heading.ensures c.name.ensures (c.table-table.ensures ∙ ap (λ (s : Shared). s.table) c.shared.ensures) in
    err_prints _ _ _ _ c.from_residual-in_err-print_lines.ensures.0 (torn_lines m c.args.class _ _ _ (pushed_as _ _ _ _ h c.in_ok-push_line.ensures) c.in_err-print_lines.ensures)

pub returns-in_err-print_processes : goal.returns-in_err-print_processes
returns-in_err-print_processes g c =
    let m = c.args.machine.now in
    let h = head_is m c.args.class _ _ _ c.heading.ensures c.name.ensures (c.table-table.ensures ∙ ap (λ (s : Shared). s.table) c.shared.ensures) in
    let p = processes_are m c.args.class (four_slots _ m.banks m.shared c.args.class c.machine_law.ensures c.requires) in
    err_prints _ _ _ _ c.from_residual-in_err-print_processes.ensures.0
    (torn_processes m c.args.class _ _ _ _ (pushed_as _ _ _ _ h c.in_ok-push_line.ensures) c.in_ok-print_lines.ensures (torn_as _ _ _ _ p c.in_err-print_processes.ensures))

pub returns : goal.returns
returns g c =
    let m = c.args.machine.now in
    let h = head_is m c.args.class _ _ _ c.heading.ensures c.name.ensures (c.table-table.ensures ∙ ap (λ (s : Shared). s.table) c.shared.ensures) in
    let p = processes_are m c.args.class (four_slots _ m.banks m.shared c.args.class c.machine_law.ensures c.requires) in
    prints_closing m c.args.class _ _ _ _ _ _ (pushed_as _ _ _ _ h c.in_ok-push_line.ensures) c.in_ok-print_lines.ensures (pushed_as _ _ _ _ p c.in_ok-print_processes.ensures) c.print_closing.ensures
