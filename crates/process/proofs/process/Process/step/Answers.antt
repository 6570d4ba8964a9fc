use Rattle.process.proofs.Stands.{sound_by, stands_after}
use Rattle.process.proofs.process.Process.step.Goals as goal

pub returns-then-is_fresh-clause-fits : goal.returns-then-is_fresh-clause-fits
returns-then-is_fresh-clause-fits g c =
    let s = c.args.shared.now in
    let good = sound_by s c.table.result.now c.table.ensures c.table_law.ensures c.shared_law.ensures in
    stands_after s c.args.self.now c.requires.fits good c.args.free _ c.step_first.new.self c.step_first.result c.step_first.ensures.step.absorbed

pub returns-else-is_fresh-clause-step : goal.returns-else-is_fresh-clause-step
returns-else-is_fresh-clause-step g c = c.step_next.ensures.step c.args.free

pub returns-else-is_fresh-clause-fits : goal.returns-else-is_fresh-clause-fits
returns-else-is_fresh-clause-fits g c =
    let s = c.args.shared.now in
    let good = sound_by s c.table.result.now c.table.ensures c.table_law.ensures c.shared_law.ensures in
    stands_after s c.args.self.now c.requires.fits good c.args.free _ c.step_next.new.self c.step_next.result (c.step_next.ensures.step c.args.free).absorbed
