use Rattle.std.proofs.Common.{sym, ◌∙◌}
use Rattle.class_model.specs.Valid.{IsConfig}
use Rattle.machine.specs.Banks.{machine_of}
use Rattle.workload.specs.Large.{large_config}
use Rattle.command_large.specs.Summed.{large_data}
use Rattle.command_large.proofs.Whole.{summed, summed_up_to}
use Rattle.command_large.proofs.summing.print_summary.Goals as goal

pub returns-in-Err : goal.returns-in-Err
returns-in-Err g c =
    let valid : IsConfig (large_data c.args.number) = c.valid_law.ensures (large_config c.args.number) (c.large_law.ensures c.args.number c.ranges.number.fits) in
    summed_up_to c.args.number (machine_of c.args.machine.now) c.requires.machine c.summary_law.ensures valid c.requires.few _ _ c.in-Err.ensures

pub returns-then-some_live : goal.returns-then-some_live
returns-then-some_live g c =
    let valid : IsConfig (large_data c.args.number) = c.valid_law.ensures (large_config c.args.number) (c.large_law.ensures c.args.number c.ranges.number.fits) in
    summed c.args.number (machine_of c.args.machine.now) c.requires.machine c.summary_law.ensures valid c.requires.few _ _ _ c.in-Ok.ensures (sym c.some_live.ensures ∙ c.if-some_live.true)

pub returns : goal.returns
returns g c =
    let valid : IsConfig (large_data c.args.number) = c.valid_law.ensures (large_config c.args.number) (c.large_law.ensures c.args.number c.ranges.number.fits) in
    summed c.args.number (machine_of c.args.machine.now) c.requires.machine c.summary_law.ensures valid c.requires.few _ _ _ c.in-Ok.ensures (sym c.some_live.ensures ∙ c.if-some_live.false)
