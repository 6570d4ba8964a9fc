use Rattle.machine.proofs.Absorbing.{made_here, absorbs}
use Rattle.machine.proofs.Stepping.{performs_by}
use Rattle.machine.proofs.virtual_processor.VirtualProcessor.step_slot.Goals as goal

pub take_made-requires : goal.take_made-requires
take_made-requires g c = let p = c.step_at-absorbed.ensures.step in made_here c.args.shared.now c.args.self.now c.args.slot p.answer _ _ _ _ c.requires.fits c.requires.chosen p.slot

pub returns-clause-step : goal.returns-clause-step
returns-clause-step g c =
    let p = c.step_at-absorbed.ensures.step in
    performs_by g.W.WordPort.relation c.args.shared.now c.args.self.now c.args.port.now c.args.slot _ _ _ _ _ _ _ p
    (absorbs c.args.shared.now c.args.self.now c.args.slot p.answer _ _ _ _ c.requires.fits c.requires.chosen p.slot
    _ _ _ _ c.self.view_is c.take_made.ensures c.current_after-self-inside.ensures.after c.effect_of.ensures).0

pub returns-clause-fits : goal.returns-clause-fits
returns-clause-fits g c =
    let p = c.step_at-absorbed.ensures.step in
    (absorbs c.args.shared.now c.args.self.now c.args.slot p.answer _ _ _ _ c.requires.fits c.requires.chosen p.slot
    _ _ _ _ c.self.view_is c.take_made.ensures c.current_after-self-inside.ensures.after c.effect_of.ensures).1
