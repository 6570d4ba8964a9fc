use Rattle.gate_parts.proofs.work.Work.absorb.Goals as goal

pub returns-in-Begun-clause-step : goal.returns-in-Begun-clause-step
returns-in-Begun-clause-step g c = rw c.in-Begun.is c.absorb.ensures.step
