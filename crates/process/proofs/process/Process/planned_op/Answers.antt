use Rattle.std.proofs.Common.{sym, subst}
use Rattle.process.specs.Asking.{AskedFits}
use Rattle.process.specs.Standing.{Standing}
use Rattle.process.proofs.Stands.{stands_asked}
use Rattle.process.proofs.process.Process.planned_op.Goals as goal

pub first_op-requires-clause-fits : goal.first_op-requires-clause-fits
first_op-requires-clause-fits c =
    let asks = rw c.in-Ask.is at c.requires.next in
    subst (λ (v : Standing). AskedFits c.args.shared.now v.class c.in-Ask.request) (sym c.self.view_is)
    (stands_asked c.args.shared.now c.args.self.now c.requires.fits c.in-Ask.request asks)
