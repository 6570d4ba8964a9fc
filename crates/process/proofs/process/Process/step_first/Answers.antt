use Rattle.std.proofs.Common.{sym, subst}
use Rattle.class_model.specs.Plan.{plan}
use Rattle.class_model.specs.Next.{IsNext, NextPassed}
use Rattle.process.specs.Standing.{Standing, StandingFits}
use Rattle.process.proofs.Stands.{stands_can, stands_within, stands_step}
use Rattle.process.proofs.process.Process.step_first.Goals as goal

pub next-next-requires : goal.next-next-requires
next-next-requires g c = stands_can c.args.shared.now _ (subst (StandingFits c.args.shared.now) (sym c.self.view_is) c.requires.fits)

pub planned_op-requires-clause-next : goal.planned_op-requires-clause-next
planned_op-requires-clause-next g c =
    let s = c.args.shared.now in
    subst (λ (v : Standing). IsNext v.class v.process (plan s v.class v.process) c.next-next.result) c.self.view_is c.next-next.ensures.next

pub planned_op-requires-clause-passed : goal.planned_op-requires-clause-passed
planned_op-requires-clause-passed g c =
    subst (λ (v : Standing). NextPassed c.args.shared.now.table v.process c.next-next.result) c.self.view_is c.next-next.ensures.passed

pub perform-answer-requires : goal.perform-answer-requires
perform-answer-requires g c = rw c.requires.layout (stands_within c.args.shared.now c.args.self.now c.requires.fits c.requires.sound c.planned_op.result c.planned_op.ensures)

pub absorb_first-requires-clause-next : goal.absorb_first-requires-clause-next
absorb_first-requires-clause-next g c =
    let s = c.args.shared.now in
    subst (λ (v : Standing). IsNext v.class v.process (plan s v.class v.process) c.next-next.result) c.self.view_is c.next-next.ensures.next

pub absorb_first-requires-clause-passed : goal.absorb_first-requires-clause-passed
absorb_first-requires-clause-passed g c =
    subst (λ (v : Standing). NextPassed c.args.shared.now.table v.process c.next-next.result) c.self.view_is c.next-next.ensures.passed

pub returns-clause-step : goal.returns-clause-step
returns-clause-step g c =
    stands_step c.args.shared.now c.args.self.now c.requires.fits c.requires.sound g.W.WordPort.relation c.args.free _ _ c.planned_op.result c.perform-answer.result _ _
    c.planned_op.ensures c.perform-answer.ensures.related c.absorb_first.ensures
